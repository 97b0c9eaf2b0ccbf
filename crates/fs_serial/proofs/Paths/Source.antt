-- Where all parts of a transaction said Yes, the server of the directory that loses a name has the record of it, and keeps the file that
-- its part keeps.
use Rattle.std.proofs.Common.{◌≡◌, ◌∙◌, ◌==◌, ℕ, true, false, List, map, refl, sym, ap, ap₂, subst}
use Rattle.std.specs.Prelude.{Some, None, option_map, slice_get}
use Rattle.std.specs.FinMap.{get}
use Rattle.std.specs.List.{flat_map}
use Rattle.std.proofs.lemmas.Bool.{eqb-true}
use Rattle.fs_ident.specs.Ident.{same}
use Rattle.fs_ident.specs.In.{In}
use Rattle.fs_ident.specs.declared.actor.Session.{Session}
use Rattle.fs_ident.specs.declared.kind.Kind.TheVariants.{Dir}
use Rattle.fs_ident.proofs.Same.{same_self}
use Rattle.fs_ident.proofs.Standing.{In-behind, In-front, In-got, In-mapped}
use Rattle.fs_field.specs.Field.{file_of}
use Rattle.fs_field.specs.declared.asked.Need.TheVariants as need
use Rattle.fs_field.specs.declared.field.Field.TheVariants.{Life}
use Rattle.fs_field.specs.declared.lease_kind.LeaseKind.TheVariants.{Shared}
use Rattle.fs_field.specs.declared.used.Part.{Part}
use Rattle.fs_field.specs.declared.used.Use.{Use}
use Rattle.fs_field.specs.declared.vote.Vote.TheVariants.{Yes}
use Rattle.fs_model.specs.Sound.{IsTree, kind_of, parent_of}
use Rattle.fs_model.specs.declared.op.Op.{Op}
use Rattle.fs_record.specs.Records.{RecordMap, nodes_of}
use Rattle.fs_record.specs.ValueOf.{value_of}
use Rattle.fs_record.proofs.NodeMaps.{node_there}
use Rattle.fs_client.specs.declared.led.Led.{Led as TheLed}
use Rattle.fs_server.specs.PathSteps.{dir_here}
use Rattle.fs_server.specs.Server.{is_mine}
use Rattle.fs_server.specs.declared.state.Server.{Server}
use Rattle.fs_txn.specs.Deciding.{first_end}
use Rattle.fs_txn.specs.Leading.{said_by}
use Rattle.fs_txn.specs.Locks.{Agreed}
use Rattle.fs_txn.specs.Parts.{led_files, part_at, parts_of, source_of, uses_on}
use Rattle.fs_txn.specs.Ready.{agreed_of}
use Rattle.fs_txn.specs.Stages.{Wanted}
use Rattle.fs_txn.specs.declared.leading.Leading.{Leading}
use Rattle.fs_txn.specs.declared.mode.Mode2.TheVariants.{Freeze}
use Rattle.fs_txn.proofs.Keys.{kept_in}
use Rattle.fs_view.specs.Gone.{known_with}
use Rattle.fs_view.specs.Walk.{Known, always}
use Rattle.fs_serial.specs.Cluster.{Cluster}
use Rattle.fs_serial.specs.KeptFiles.{FilesKept}
use Rattle.fs_serial.specs.Leading.{IsLeading}
use Rattle.fs_serial.specs.PathLaws.{IsKeptThere, KeptAtSource}
use Rattle.fs_serial.specs.Pending as pending
use Rattle.fs_serial.specs.Seen.{ClusterHolds, world_of}
use Rattle.fs_serial.specs.Sight.{Sight}
use Rattle.fs_serial.specs.Words.{key_of, said_at}
use Rattle.fs_serial.specs.World.{sight_in}
use Rattle.fs_serial.proofs.DecidedEffects.HeldSeen.{held_same, held_seen}
use Rattle.fs_serial.proofs.DecidedEffects.ToldParts.{HasReady}
use Rattle.fs_serial.proofs.Lists.ByPlace.{map_at, of_map}
use Rattle.fs_serial.proofs.Lists.Servers.{In_at}
use Rattle.fs_serial.proofs.LedOperations.Committing.{IsNamed}
use Rattle.fs_serial.proofs.Paths.OnTheWay.{dir_in, kept_among}
use Rattle.fs_serial.proofs.Paths.SourceParts.{all_yes, asks_source, in_source, source_among, source_keeps}
use Rattle.fs_serial.proofs.Transactions.FullCommits.{full_named}
use Rattle.fs_serial.proofs.Transactions.HomeVotes.{lives_here}
use Rattle.fs_serial.proofs.Transactions.OwnersOfLocks.{in_range}
use Rattle.fs_serial.proofs.Transactions.Tables.{In_all}
use Rattle.fs_serial.proofs.Transactions.YesElsewhere.{ready_there}
use Rattle.fs_serial.proofs.Transactions.YesParts.{IsSaidHere, said_in}

-- ## The server of a part

-- the part said Yes there
record SaysThere (c : Cluster) (w : Wanted) : Type 0 where
  place : ℕ
  server : Server
  there : slice_get c.servers place ≡ Some server
  agreed : Agreed
  among : In agreed (said_at server)
  wanted : agreed.wanted ≡ w

module _ (skew greatest : ℕ) (c : Cluster) (h : ClusterHolds skew greatest c) (s : Server) (k : ℕ) (at : slice_get c.servers k ≡ Some s)
    (l : Leading) (j : In l s.leading) (none : first_end l.leader.votes ≡ None) where
  abbrev here : In s c.servers
  here = In-got c.servers k s at

  abbrev leads : IsLeading c.lines s h.led.parts l
  leads = h.led.leading s here l j

  abbrev by : Session
  by = l.leader.session

  abbrev d : TheLed
  d = leads.led

  abbrev now : Sight
  now = sight_in (world_of s c)

  abbrev known : Known
  known = known_with (value_of now.records by)

  named : IsNamed now by d.entry d.file
  named = full_named k skew greatest c s at h l j none

  module _ (n : ℕ) (p : Part) (part : slice_get l.leader.parts n ≡ Some p) where
    abbrev wanted : Wanted
    wanted = record { session = by; part = p }

    yes : slice_get l.leader.votes n ≡ Some (Some Yes)
    yes =
        let v = in_range l.leader.parts l.leader.votes n p (sym leads.votes) part in
        v.1 ∙ ap Some (all_yes l.leader.votes none n v.0 v.1)

    own_says : slice_get l.at n ≡ Some s.me → SaysThere c wanted
    own_says asked =
        let y : Agreed = record { key = key_of l.leader.txn n; wanted = wanted } in
        let q : IsSaidHere s.me l y = record { txn = refl; session = refl; part = part; vote = yes; asked = asked } in
        record {
          place = k;
          server = s;
          there = at;
          agreed = y;
          among = In-behind y (map agreed_of s.prepared) (flat_map (said_by s.me) s.leading)
              (In_all (said_by s.me) y l s.leading j (said_in s.me l y q));
          wanted = refl;
        }

    other_says : (to : ℕ) → slice_get l.at n ≡ Some to → (to == s.me) ≡ false → SaysThere c wanted
    other_says to asked away =
        let q = ready_there k c s at (h.places.numbered k s at) h.led l j (n, to) yes asked away in
        let r : HasReady c.servers (key_of l.leader.txn n) to (h.led.parts (key_of l.leader.txn n)) = q.ready in
        record {
          place = to;
          server = r.server;
          there = r.there;
          agreed = agreed_of r.part;
          among = In-front (agreed_of r.part) (map agreed_of r.server.prepared) (flat_map (said_by r.server.me) r.server.leading)
              (In-mapped agreed_of r.part r.server.prepared r.among);
          wanted = r.wanted ∙ leads.wanted n p part;
        }

    says : SaysThere c wanted
    says =
        let a = in_range l.leader.parts l.at n p (sym leads.asked) part in
        elim (a.0 == s.me) as (λ b. (a.0 == s.me) ≡ b → SaysThere c wanted) [
          | true ↦ λ e. own_says (a.1 ∙ ap Some (eqb-true a.0 s.me e))
          | false ↦ λ e. other_says a.0 a.1 e
        ] refl

    abbrev t : Server
    t = says.server

    t_in : In t c.servers
    t_in = In-got c.servers says.place t says.there

    -- its rows stand there, so it manages what they are on
    manages : (u : Use) → In u p.uses → is_mine t (file_of u.field) ≡ true
    manages u i =
        let r = ((h.led.locks t t_in).locked says.agreed says.among u (subst (λ (w : Wanted). In u w.part.uses) (sym says.wanted) i)).has in
        ap (λ f. is_mine t (file_of f)) (sym r.field) ∙ (h.places.homes t t_in).rows r.row r.stands

    module _ (source : p.file ≡ source_of d.entry.op) where
      uses_are : p.uses ≡ uses_on (source_of d.entry.op) d.entry.uses
      uses_are =
          let q = of_map (part_at l.leader.mode d.entry.op d.file d.entry.uses) (led_files d.entry.op d.file) n p
          (ap (λ ps. slice_get ps n) (sym leads.leader.parts) ∙ part) in
          ap (λ (x : Part). x.uses) q.1.1 ∙ ap (λ f. uses_on f d.entry.uses) (sym (ap (λ (x : Part). x.file) q.1.1) ∙ source)

      source_mine : is_mine t (source_of d.entry.op) ≡ true
      source_mine =
          let u : pending.HasUse d.entry.uses (Life (source_of d.entry.op)) Shared =
          named.covered (need.Lease (Life (source_of d.entry.op)) Shared) (asks_source known always d.entry.op named.moves) in
          let on : same (file_of u.used.field) (source_of d.entry.op) ≡ true =
          ap (λ f. same (file_of f) (source_of d.entry.op)) u.field ∙ same_self (source_of d.entry.op) in
          let among : In u.used p.uses = subst (In u.used) (sym uses_are)
          (kept_in (λ (x : Use). same (file_of x.field) (source_of d.entry.op)) u.used d.entry.uses u.among on) in
          ap (λ f. is_mine t (file_of f)) (sym u.field) ∙ manages u.used among

      module _ (kept : FilesKept c) (freeze : p.freeze ≡ Some d.file) where
        source_kept : IsKeptThere c d.file (source_of d.entry.op)
        source_kept =
            let held : RecordMap = held_seen c in
            let tree : IsTree (nodes_of held) = (h.parts s here).0.all.kept.sound.space.tree in
            let q = in_source (nodes_of held) d.entry.op d.file named.moves named.named in
            let place : parent_of (get (nodes_of held) d.file) ≡ Some (source_of d.entry.op, q.0) =
            (tree.agreeing (source_of d.entry.op) q.0 d.file).0 q.1 in
            let lives : kind_of (get (nodes_of held) (source_of d.entry.op)) ≡ Some Dir =
            tree.in_directories d.file (source_of d.entry.op) q.0 place in
            record {
              place = says.place;
              server = t;
              there = says.there;
              stands = ap (λ (m : RecordMap). dir_here m d.file) (held_same c h.led)
                  ∙ ap dir_in (sym (node_there held d.file)) ∙ ap (option_map (λ (x : List ℕ × List ℕ). x.0)) place;
              has = lives_here says.place skew greatest c t says.there h (source_of d.entry.op) source_mine
                  (sym (ap kind_of (node_there held (source_of d.entry.op))) ∙ lives);
              kept = kept_among d.file says.agreed.key.txn t.paths.frozen
                  (kept.here t t_in says.agreed d.file says.among (ap (λ (w : Wanted). w.part.freeze) says.wanted ∙ freeze));
            }

  -- in a transaction that freezes
  frozen_source : FilesKept c → (uses : List Use) → l.leader.parts ≡ parts_of l.leader.op l.leader.file uses Freeze
      → IsKeptThere c l.leader.file (source_of l.leader.op)
  frozen_source kept uses parts =
      let o : Op = d.entry.op in
      let file : List ℕ = d.file in
      let its : l.leader.parts ≡ parts_of o file uses Freeze =
      parts ∙ ap₂ (λ (o : Op) (f : List ℕ). parts_of o f uses Freeze) leads.leader.op leads.leader.file in
      let place = In_at (led_files o file) (source_of o) (source_among o file) in
      let p : Part = part_at Freeze o file uses (source_of o) in
      let part : slice_get l.leader.parts place.place ≡ Some p =
      ap (λ ps. slice_get ps place.place) its
      ∙ map_at (part_at Freeze o file uses) (led_files o file) place.place (source_of o) place.is in
      subst (λ (x : Op). IsKeptThere c l.leader.file (source_of x)) (sym leads.leader.op)
      (subst (λ (f : List ℕ). IsKeptThere c f (source_of o)) (sym leads.leader.file)
      (source_kept place.place p part refl kept (source_keeps o file uses)))

pub kept_at_source : KeptAtSource
kept_at_source skew greatest c h kept s i l j none uses parts =
    let at = In_at c.servers s i in
    frozen_source skew greatest c h s at.place at.is l j none kept uses parts
