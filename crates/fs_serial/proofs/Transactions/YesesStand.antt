-- Where all parts of a transaction said Yes, the rows of all leases that it used stand.
use Rattle.std.proofs.Common.{◌≡◌, ◌==◌, ℕ, true, false, List, map, refl, sym, ap, ◌∙◌, subst, inl}
use Rattle.std.specs.Prelude.{Option, Some, None, slice_get}
use Rattle.std.specs.List.{flat_map}
use Rattle.std.proofs.lemmas.Bool.{eqb-true}
use Rattle.fs_ident.specs.In.{In}
use Rattle.fs_ident.specs.declared.actor.Session.{Session}
use Rattle.fs_ident.proofs.Standing.{In-behind, In-front, In-got, In-mapped}
use Rattle.fs_field.specs.declared.used.Part.{Part}
use Rattle.fs_field.specs.declared.used.Use.{Use}
use Rattle.fs_field.specs.declared.vote.Vote.{Vote}
use Rattle.fs_field.specs.declared.vote.Vote.TheVariants.{Yes}
use Rattle.fs_client.specs.Led.{lead_of}
use Rattle.fs_client.specs.declared.led.Led.{Led as TheLed}
use Rattle.fs_server.specs.Begins.{parts_in}
use Rattle.fs_server.specs.declared.state.Server.{Server}
use Rattle.fs_txn.specs.Deciding.{first_end}
use Rattle.fs_txn.specs.Leading.{said_by}
use Rattle.fs_txn.specs.Locks.{Agreed}
use Rattle.fs_txn.specs.Ready.{agreed_of}
use Rattle.fs_txn.specs.Stages.{Key, Wanted}
use Rattle.fs_txn.specs.declared.leader.Leader.{Leader}
use Rattle.fs_txn.specs.declared.leading.Leading.{Leading}
use Rattle.fs_serial.specs.Cluster.{Cluster, parcels_of}
use Rattle.fs_serial.specs.Leading.{IsLeading, IsLedBy, LedHolds}
use Rattle.fs_serial.specs.Led.{LedStands}
use Rattle.fs_serial.specs.Owed.{ends_in}
use Rattle.fs_serial.specs.Pending.{AllStand, Stands}
use Rattle.fs_serial.specs.Refusals.{rows_in}
use Rattle.fs_serial.specs.Words.{key_of, said_at}
use Rattle.fs_serial.specs.World.{settled_at, sight_in}
use Rattle.fs_serial.specs.Seen.{ClusterHolds, world_of}
use Rattle.fs_serial.proofs.DecidedEffects.ToldParts.{HasReady}
use Rattle.fs_serial.proofs.Lists.Servers.{In_at}
use Rattle.fs_serial.proofs.Paths.SourceParts.{all_yes}
use Rattle.fs_serial.proofs.Places.HeldRows.{row_of_all}
use Rattle.fs_serial.proofs.Transactions.OwnersOfLocks.{in_range}
use Rattle.fs_serial.proofs.Transactions.PartsApart.{uses_any}
use Rattle.fs_serial.proofs.Transactions.Tables.{In_all, In_some}
use Rattle.fs_serial.proofs.Transactions.YesElsewhere.{ready_there}
use Rattle.fs_serial.proofs.Transactions.Undecided.{stands, up_led}
use Rattle.fs_serial.proofs.Transactions.YesParts.{IsSaidHere, said_in}

-- ## Rows of one server

-- what stands at a server stands in all
pub stand_in : (c : Cluster) (s : Server) (by : Session) (uses : List Use) → In s c.servers → AllStand s.rows by uses
    → AllStand (rows_in c) by uses
stand_in c s by uses i stand u j =
    let q : Stands s.rows by u = stand u j in
    record {
      row = q.row;
      stands = row_of_all c.servers (parcels_of c.in_flight) q.row (inl (s, i, q.stands));
      number = q.number;
      session = q.session;
      field = q.field;
      kind = q.kind;
    }

-- the rows of a part that said Yes are locked for it
said_stands : (c : Cluster) → LedHolds c → (s : Server) → In s c.servers → (y : Agreed) → In y (said_at s)
    → AllStand (rows_in c) y.wanted.session y.wanted.part.uses
said_stands c led s i y j = stand_in c s y.wanted.session y.wanted.part.uses i (λ u k.
    let r = ((led.locks s i).locked y j u k).has in
    record { row = r.row; stands = r.stands; number = r.number; session = r.session; field = r.field; kind = r.kind })

-- ## Each part

-- where nothing ends the transaction, each of its parts said Yes
pub voted_all : (l : Leader) → first_end l.votes ≡ None → (n : ℕ) (v : Option Vote) → slice_get l.votes n ≡ Some v
    → slice_get l.votes n ≡ Some (Some Yes)
voted_all l none n v e = e ∙ ap Some (all_yes l.votes none n v e)

module _ (k skew greatest : ℕ) (c : Cluster) (s : Server) (at : slice_get c.servers k ≡ Some s) (h : ClusterHolds skew greatest c)
    (l : Leading) (j : In l s.leading) (d : TheLed) (led : IsLedBy c.lines l.leader.session k d) where
  abbrev by : Session
  by = l.leader.session

  here : In s c.servers
  here = In-got c.servers k s at

  leads : IsLeading c.lines s h.led.parts l
  leads = h.led.leading s here l j

  it : leads.led ≡ d
  it = let both : Some leads.led ≡ Some d = sym leads.client.led ∙ led.led in cc

  -- what it leads stands, as its session has it
  pub session_stands : LedStands skew greatest (sight_in (world_of s c)) by (settled_at by (ends_in c by)) d
  session_stands = stands skew greatest c s here h by (lead_of d) (up_led skew greatest c s here h by s here l j refl d led.led) d led.led

  its_parts : l.leader.parts ≡ parts_in l.leader.mode (lead_of d)
  its_parts = leads.leader.parts ∙ ap (λ (x : TheLed). parts_in l.leader.mode (lead_of x)) it

  module _ (none : first_end l.leader.votes ≡ None) where
    module _ (n : ℕ) (p : Part) (part : slice_get l.leader.parts n ≡ Some p) where
      abbrev key : Key
      key = key_of l.leader.txn n

      abbrev wanted : Wanted
      wanted = record { session = by; part = p }

      yes : slice_get l.leader.votes n ≡ Some (Some Yes)
      yes =
          let v = in_range l.leader.parts l.leader.votes n p (sym leads.votes) part in
          voted_all l.leader none n v.0 v.1

      -- the leader has it
      own_stands : slice_get l.at n ≡ Some s.me → AllStand (rows_in c) by p.uses
      own_stands asked =
          let y : Agreed = record { key = key; wanted = wanted } in
          let q : IsSaidHere s.me l y = record { txn = refl; session = refl; part = part; vote = yes; asked = asked } in
          said_stands c h.led s here y
          (In-behind y (map agreed_of s.prepared) (flat_map (said_by s.me) s.leading)
          (In_all (said_by s.me) y l s.leading j (said_in s.me l y q)))

      -- another server has it ready
      other_stands : (to : ℕ) → slice_get l.at n ≡ Some to → (to == s.me) ≡ false → AllStand (rows_in c) by p.uses
      other_stands to asked away =
          let q = ready_there k c s at (h.places.numbered k s at) h.led l j (n, to) yes asked away in
          let r : HasReady c.servers key to (h.led.parts key) = q.ready in
          subst (λ (w : Wanted). AllStand (rows_in c) w.session w.part.uses) (r.wanted ∙ leads.wanted n p part)
          (said_stands c h.led r.server (In-got c.servers to r.server r.there) (agreed_of r.part)
          (In-front (agreed_of r.part) (map agreed_of r.server.prepared) (flat_map (said_by r.server.me) r.server.leading)
          (In-mapped agreed_of r.part r.server.prepared r.among)))

      part_stands : AllStand (rows_in c) by p.uses
      part_stands =
          let a = in_range l.leader.parts l.at n p (sym leads.asked) part in
          elim (a.0 == s.me) as (λ b. (a.0 == s.me) ≡ b → AllStand (rows_in c) by p.uses) [
            | true ↦ λ e. own_stands (a.1 ∙ ap Some (eqb-true a.0 s.me e))
            | false ↦ λ e. other_stands a.0 a.1 e
          ] refl

    -- ## All leases

    pub full_stands : AllStand (rows_in c) by d.entry.uses
    full_stands u i =
        let parts : List Part = parts_in l.leader.mode (lead_of d) in
        let q = In_some (λ (p : Part). p.uses) u parts (subst (In u) (sym (uses_any l.leader.mode (lead_of d))) (session_stands.parts u i)) in
        let n = In_at parts q.0 q.1.0 in
        part_stands n.place q.0 (ap (λ (ps : List Part). slice_get ps n.place) its_parts ∙ n.is) u q.1.1
