-- A server that leads a rename of a directory into another one says itself that this one is not there.
use Rattle.std.proofs.Common.{◌≡◌, ◌⊎◌, ◌+◌, ◌++◌, not, ◌&&◌, ℕ, Bool, true, false, List, [], ◌∷◌, refl, sym, ap, ◌∙◌, subst, inl, inr}
use Rattle.std.specs.Prelude.{Option, Some, None, is_some, slice_get}
use Rattle.std.specs.FinMap.{get}
use Rattle.fs_ident.specs.Ident.{same}
use Rattle.fs_ident.specs.In.{In}
use Rattle.fs_ident.specs.declared.actor.Session.{Session}
use Rattle.fs_ident.specs.declared.actor.TxnNo.{TxnNo}
use Rattle.fs_ident.specs.declared.kind.Kind.{Kind}
use Rattle.fs_ident.specs.declared.kind.Kind.TheVariants.{File, Dir}
use Rattle.fs_ident.proofs.Same.{same_self}
use Rattle.fs_ident.proofs.Standing.{In-got}
use Rattle.fs_field.specs.Field.{file_of}
use Rattle.fs_field.specs.declared.field.Field.{Field}
use Rattle.fs_field.specs.declared.field.Field.TheVariants.{Life}
use Rattle.fs_field.specs.declared.used.Part.{Part}
use Rattle.fs_field.specs.declared.used.Use.{Use}
use Rattle.fs_field.specs.declared.value.Value.TheVariants as value
use Rattle.fs_field.specs.declared.vote.Vote.{Vote}
use Rattle.fs_field.specs.declared.vote.Vote.TheVariants.{Yes}
use Rattle.fs_model.specs.Asking.{home_of}
use Rattle.fs_model.specs.Sound.{kind_of}
use Rattle.fs_model.specs.declared.op.Op.{Op}
use Rattle.fs_model.specs.declared.op.Op.TheVariants as op
use Rattle.fs_model.specs.declared.reply.Reply.{Reply}
use Rattle.fs_msg.specs.declared.client_msg.ClientMsg.TheVariants.{Lead}
use Rattle.fs_msg.specs.declared.lead.Lead.{Lead as ToLead}
use Rattle.fs_record.specs.Records.{node_of}
use Rattle.fs_record.specs.ValueOf.{value_of}
use Rattle.fs_record.specs.declared.record.Record.{Record}
use Rattle.fs_client.specs.Led.{is_led, lead_of}
use Rattle.fs_client.specs.declared.led.Led.{Led as TheLed}
use Rattle.fs_server.specs.Begins.{Round, first_round, leader_with, part_round, parts_in, round_of, rounds, txn_of}
use Rattle.fs_server.specs.Follows.{vote_here}
use Rattle.fs_server.specs.Leads.{mode_of, stands_on_path, takes_path}
use Rattle.fs_server.specs.Laws.{BeginsIn, over, without_path}
use Rattle.fs_server.specs.Server.{is_mine}
use Rattle.fs_server.specs.declared.event.ServerEvent.TheVariants.{FromClient}
use Rattle.fs_server.specs.declared.state.Server.{Server}
use Rattle.fs_txn.specs.Grants.{effects_in}
use Rattle.fs_txn.specs.Parts.{part_at}
use Rattle.fs_txn.specs.declared.mode.Mode2.{Mode2}
use Rattle.fs_txn.specs.Deciding.{needs_path}
use Rattle.fs_serial.specs.Cluster.{Cluster, IsThere, parcels_of}
use Rattle.fs_serial.specs.Joined.{records_of_all}
use Rattle.fs_serial.specs.Led.{LedStands}
use Rattle.fs_serial.specs.Leading.{IsPlain, StaysIn}
use Rattle.fs_serial.specs.Owed.{ends_in}
use Rattle.fs_serial.specs.Pending.{Stands}
use Rattle.fs_serial.specs.Seen.{ClusterHolds, with_all, world_of}
use Rattle.fs_serial.specs.Sight.{Sight}
use Rattle.fs_serial.specs.Words.{decided_in}
use Rattle.fs_serial.specs.World.{settled_at, sight_in}
use Rattle.fs_serial.proofs.Admission.Rowed.{all_found}
use Rattle.fs_serial.proofs.DecidedEffects.GrantsPast.{all_decided}
use Rattle.fs_serial.proofs.DecidedEffects.Underway.{none_all}
use Rattle.fs_serial.proofs.Grants.RowKinds.{In-kept}
use Rattle.fs_serial.proofs.Lists.ByPlace.{front_at}
use Rattle.fs_serial.proofs.Places.AllHere.{record_at_home}
use Rattle.fs_serial.proofs.Transactions.LedPrepared.{voted_yes}
use Rattle.fs_serial.proofs.Transactions.PartsApart.{first_part}
use Rattle.fs_serial.proofs.Transactions.RoundsLocks.{round_by}
use Rattle.fs_serial.proofs.Transactions.Undecided.{asked_as, stands, up_asked}
use Rattle.fs_serial.proofs.Transactions.YesesStand.{stand_in}
use Rattle.fs_serial.proofs.Transactions.Agreements.{over_comes}

pub home_part : (mode : Mode2) (m : ToLead) (p : Part) → slice_get (parts_in mode m) 0 ≡ Some p
    → part_at mode m.op m.file m.uses (home_of m.op) ≡ p
home_part mode m p first =
    let both : Some (part_at mode m.op m.file m.uses (home_of m.op)) ≡ Some p = sym (first_part mode m) ∙ first in
    cc

-- ## The first vote

-- a vote that stands is settled
vote_stays : (txn : TxnNo) (number : ℕ) (by : Session) (ps : List Part) (r : Round) (i : ℕ) (v : Option Vote) → slice_get r.votes i ≡ Some v
    → slice_get (rounds txn number by ps r).votes i ≡ Some v
vote_stays txn number by [] r i v h = h
vote_stays txn number by (p ∷ ps) r i v h = vote_stays txn (number + 1) by ps (part_round txn number by p r) i v
    (elim (is_mine r.server p.file) as (λ b. slice_get (round_by txn number by p r b).votes i ≡ Some v) [
      | true ↦ front_at r.votes (Some (vote_here r.server by p) ∷ []) i v h
      | false ↦ front_at r.votes (None ∷ []) i v h
    ])

-- the first part is voted on by the server itself where its file is
pub home_vote : (txn : TxnNo) (number : ℕ) (by : Session) (ps : List Part) (r : Round) (p : Part) → slice_get ps 0 ≡ Some p → r.votes ≡ []
    → is_mine r.server p.file ≡ true → slice_get (rounds txn number by ps r).votes 0 ≡ Some (Some (vote_here r.server by p))
home_vote txn number by [] r p first none mine = absurd (cc first)
home_vote txn number by (q ∷ ps) r p first none mine =
    let its : q ≡ p = cc in
    let here : is_mine r.server q.file ≡ true = ap (λ (x : Part). is_mine r.server x.file) its ∙ mine in
    vote_stays txn (number + 1) by ps (part_round txn number by q r) 0 (Some (vote_here r.server by p))
    (ap (λ b. slice_get (round_by txn number by q r b).votes 0) here
    ∙ ap (λ vs. slice_get (vs ++ Some (vote_here r.server by q) ∷ []) 0) none
    ∙ ap (λ (x : Part). Some (Some (vote_here r.server by x))) its)

-- ## Directories that live

module _ (k skew greatest : ℕ) (c : Cluster) (s : Server) (at : slice_get c.servers k ≡ Some s) (h : ClusterHolds skew greatest c) where
  here : In s c.servers
  here = In-got c.servers k s at

  abbrev now : Sight
  now = sight_in (world_of s c)

  -- what lives in what all hold, and is managed here, has its record here
  pub lives_here : (file : List ℕ) → is_mine s file ≡ true → kind_of (node_of (get now.records file)) ≡ Some Dir
      → is_some (get s.records file) ≡ true
  lives_here file mine lives = of_record (get s.records file) refl
    where
      of_record : (o : Option Record) → get s.records file ≡ o → is_some o ≡ true
      of_record (Some r) e = refl
      of_record None e =
          let f = (h.parts s here).1 in
          let bare : node_of (get (records_of_all c.servers (parcels_of c.in_flight)) file) ≡ None =
          ap node_of (record_at_home k c s at h.places file mine ∙ e) in
          let gone : node_of (get now.records file) ≡ None =
          none_all (records_of_all c.servers (parcels_of c.in_flight)) (effects_in (decided_in c)) file
          (all_decided (decided_in c) (with_all s c) c.journal f.all) bare in
          let wrong : None ≡ Some Dir = sym (ap kind_of gone) ∙ lives in
          absurd (cc wrong)

  module _ (mode : Mode2) (by : Session) (m : ToLead) (d : TheLed) (p : Part) (there : IsThere k (FromClient by (Lead m)) c)
      (led : (c.lines by).client.led ≡ Some d) (first : slice_get (parts_in mode m) 0 ≡ Some p) where
    up : (ends_in c by).up ≡ Lead m ∷ []
    up = up_asked skew greatest c s here h by k m there

    asked : m ≡ lead_of d
    asked = asked_as skew greatest c s here h by m up d led

    led_stands : LedStands skew greatest now by (settled_at by (ends_in c by)) d
    led_stands = stands skew greatest c s here h by m up d led

    abbrev home : List ℕ
    home = home_of m.op

    its_home : home_of d.entry.op ≡ home
    its_home = sym (ap (λ (x : ToLead). home_of x.op) asked)

    its_part : part_at mode m.op m.file m.uses home ≡ p
    its_part = home_part mode m p first

    abbrev used : Use
    used = led_stands.lives.used

    on_home : used.field ≡ Life home
    on_home = led_stands.lives.field ∙ ap Life its_home

    used_there : In used p.uses
    used_there =
        subst (λ (x : Part). In used x.uses) its_part
        (In-kept (λ (u : Use). same (file_of u.field) home) used m.uses
        (subst (λ (x : ToLead). In used x.uses) (sym asked) led_stands.lives.among)
        (ap (λ (f : Field). same (file_of f) home) on_home ∙ same_self home))

    -- whoever says Yes knows that the home lives
    home_lives : vote_here s by p ≡ Yes → is_some (get s.records home) ≡ true
    home_lives said =
        let v = voted_yes s by p said in
        let mine : is_mine s home ≡ true = ap (λ (x : Part). is_mine s x.file) its_part ∙ v.0 in
        let r : Stands (with_all s c).rows by used =
        stand_in c s by p.uses here (all_found s.rows by p.uses v.1) used used_there in
        let told : value_of now.records by used.field ≡ value.Life (Some Dir) = led_stands.lives.told r.row r.stands r.number in
        let life : value.Life (kind_of (node_of (get now.records home))) ≡ value.Life (Some Dir) =
        sym (ap (value_of now.records by) on_home) ∙ told in
        lives_here home mine (cc)

    over_dirs : (o : Op) (r : Reply) → is_led o r ≡ true → stands_on_path s o ≡ false
        → (vote_here s by p ≡ Yes → is_some (get s.records (home_of o)) ≡ true) → StaysIn o ⊎ (vote_here s by p ≡ Yes → ⊥)
    over_dirs (op.Rename sdir sname ddir dname) r l paths lives = by_dir (same sdir ddir) refl
      where
        by_dir : (b : Bool) → same sdir ddir ≡ b → (same sdir ddir ≡ true) ⊎ (vote_here s by p ≡ Yes → ⊥)
        by_dir true t = inl t
        by_dir false t = inr (λ said.
            let wrong : true ≡ false = sym (ap (λ b. not b && is_some (get s.records ddir)) t ∙ lives said) ∙ paths in
            absurd (cc))
    over_dirs (op.Delete dir name) r l paths lives = inl tt
    over_dirs o r l paths lives = absurd (cc)

    -- where it stands on no path
    module _ (free : takes_path s m.op m.kind ≡ false) where
      by_kind : (kind : Kind) → d.kind ≡ kind → takes_path s d.entry.op kind ≡ false
          → (d.kind ≡ File) ⊎ (StaysIn d.entry.op ⊎ (vote_here s by p ≡ Yes → ⊥))
      by_kind File e off = inl e
      by_kind Dir e off = inr (over_dirs d.entry.op d.entry.reply led_stands.leads off
          (λ said. ap (λ f. is_some (get s.records f)) its_home ∙ home_lives said))

      pub votes_over_paths : (d.kind ≡ File) ⊎ (StaysIn m.op ⊎ (vote_here s by p ≡ Yes → ⊥))
      votes_over_paths =
          subst (λ (x : ToLead). (d.kind ≡ File) ⊎ (StaysIn x.op ⊎ (vote_here s by p ≡ Yes → ⊥))) (sym asked)
          (by_kind d.kind refl (ap (λ (x : ToLead). takes_path s x.op x.kind) (sym asked) ∙ free))

-- ## Its votes, as it begins

module _ (k skew greatest : ℕ) (c : Cluster) (s : Server) (at : slice_get c.servers k ≡ Some s) (h : ClusterHolds skew greatest c)
    (by : Session) (m : ToLead) (d : TheLed) (there : IsThere k (FromClient by (Lead m)) c) (led : (c.lines by).client.led ≡ Some d) where
  abbrev Plainly : Mode2 → Type 0
  Plainly mode = IsPlain d (leader_with mode (txn_of s) by m (round_of mode by m s).votes)

  off_paths : (mode : Mode2) → is_mine s (home_of m.op) ≡ true → takes_path s m.op m.kind ≡ false → Plainly mode
  off_paths mode mine free =
      let p : Part = part_at mode m.op m.file m.uses (home_of m.op) in
      let votes = (round_of mode by m s).votes in
      let first : slice_get votes 0 ≡ Some (Some (vote_here s by p)) =
      home_vote (txn_of s) 0 by (parts_in mode m) (first_round s) p (first_part mode m) refl mine in
      elim (votes_over_paths k skew greatest c s at h mode by m d p there led (first_part mode m) free) as (λ _. Plainly mode) [
        | inl e ↦ inl e
        | inr q ↦ elim q as (λ _. Plainly mode) [
          | inl t ↦ inr (inl t)
          | inr against ↦ inr (inr (λ said.
              let same : Some (Some (vote_here s by p)) ≡ Some (Some Yes) = sym first ∙ said in
              against (cc)))
        ]
      ]

  pub begun_plain : (mode : Mode2) → BeginsIn m s mode → needs_path mode m.op ≡ false → Plainly mode
  begun_plain mode (without_path mine free) n = off_paths (mode_of m.op m.kind) mine free
  begun_plain mode (over files p) n =
      let wrong : true ≡ false = sym (over_comes m s files p).0 ∙ n in absurd (cc wrong)
