-- A transaction that commits, once all parts have voted: all that holds of the world holds after it.
use Rattle.std.proofs.Common.{◌≡◌, ◌⊎◌, ℕ, true, false, List, [], ◌∷◌, ◌++◌, map, cond, refl, sym, ap, ap₂, ◌∙◌, subst, inl, inr}
use Rattle.std.specs.Prelude.{Some, None, slice_get, Option}
use Rattle.std.specs.List.{flat_map, list_any}
use Rattle.fs_ident.specs.Ident.{same}
use Rattle.fs_ident.specs.In.{In}
use Rattle.fs_ident.specs.declared.actor.Session.{Session}
use Rattle.fs_ident.proofs.Same.{same_self}
use Rattle.fs_ident.proofs.Standing.{In-append, In-behind, In-got, In-map}
use Rattle.fs_field.specs.Field.{file_of}
use Rattle.fs_field.specs.declared.asked.Need.{Need}
use Rattle.fs_field.specs.declared.field.Field.{Field}
use Rattle.fs_field.specs.declared.field.Field.TheVariants.{Child, Life}
use Rattle.fs_field.specs.declared.lease_kind.LeaseKind.{LeaseKind}
use Rattle.fs_field.specs.declared.lease_kind.LeaseKind.TheVariants.{Exclusive}
use Rattle.fs_field.specs.declared.used.Part.{Part}
use Rattle.fs_field.specs.declared.used.Use.{Use}
use Rattle.fs_field.specs.declared.value.Value.{Value}
use Rattle.fs_field.specs.declared.path.PathAnswer.{PathAnswer}
use Rattle.fs_model.specs.Asking.{home_of}
use Rattle.fs_model.specs.declared.op.Op.{Op}
use Rattle.fs_model.specs.declared.op.Op.TheVariants as op
use Rattle.fs_model.specs.declared.reply.Reply.{Reply}
use Rattle.fs_record.specs.Applied.{records_after_all}
use Rattle.fs_record.specs.LedEffects.{led_effects}
use Rattle.fs_record.specs.ValueOf.{value_of}
use Rattle.fs_client.specs.Led.{is_led, lead_of}
use Rattle.fs_client.specs.declared.led.Led.{Led as TheLed}
use Rattle.fs_server.specs.Begins.{parts_in}
use Rattle.fs_server.specs.Concludes.{concludes}
use Rattle.fs_server.specs.LeadingLaws.{CommitSplits}
use Rattle.fs_server.specs.Server.{is_mine}
use Rattle.fs_server.specs.declared.state.Server.{Server}
use Rattle.fs_txn.specs.Deciding.{commit, decision, first_end, needs_path, reply_of}
use Rattle.fs_txn.specs.Leading.{own_effects, own_parts, said_by}
use Rattle.fs_txn.specs.Locks.{Agreed}
use Rattle.fs_txn.specs.Parts.{led_files, part_at, source_of, uses_on, with_file}
use Rattle.fs_txn.specs.Ready.{agreed_of}
use Rattle.fs_txn.specs.declared.leading.Leading.{Leading}
use Rattle.fs_txn.specs.declared.mode.Mode2.{Mode2}
use Rattle.fs_txn.proofs.Keys.{kept_in}
use Rattle.fs_view.specs.Gone.{known_with}
use Rattle.fs_view.specs.Walk.{Known, always, walk}
use Rattle.fs_serial.specs.Cluster.{Cluster}
use Rattle.fs_serial.specs.Commits.{IsCommitted}
use Rattle.fs_serial.specs.Conclusions.{TellsCycles, after_concluded}
use Rattle.fs_serial.specs.Decided.{WorldStands}
use Rattle.fs_serial.specs.Leading.{IsLeading, IsLedBy, LedHolds}
use Rattle.fs_serial.specs.Led.{IsLeadAnswer, LedStands}
use Rattle.fs_serial.specs.Owed.{ends_in}
use Rattle.fs_serial.specs.Pending.{HasUse, IsCovered}
use Rattle.fs_serial.specs.Words.{key_of, said_at}
use Rattle.fs_serial.specs.World.{World, settled_at, sight_in}
use Rattle.fs_serial.specs.Seen.{ClusterHolds, world_of}
use Rattle.fs_serial.proofs.DecidedEffects.CommitSeen.{own_on}
use Rattle.fs_serial.proofs.DecidedEffects.CommitStands.{commit_stands, held_so}
use Rattle.fs_serial.proofs.DecidedEffects.FileApart.{IsFileApart, file_apart}
use Rattle.fs_serial.proofs.DecidedEffects.HeldSeen.{held_seen}
use Rattle.fs_serial.proofs.LedOperations.MovedItems.{HasMoved, HasPlace, moved_items, moved_parts, placed_items}
use Rattle.fs_serial.proofs.Places.PutRecords.{AreOn}
use Rattle.fs_serial.proofs.Transactions.FullCommits.{all_stand, full_commits}
use Rattle.fs_serial.proofs.Transactions.Tables.{In_all, said_so}
use Rattle.fs_serial.proofs.Transactions.Undecided.{up_led}
use Rattle.fs_serial.proofs.Transactions.YesesStand.{session_stands}
use Rattle.fs_serial.proofs.Transactions.Agreements.{IsClear}

-- ## Files of an operation

one_more : (x : List ℕ) (fs : List (List ℕ)) (f : List ℕ) → In f (with_file x fs) → In f fs ⊎ (f ≡ x)
one_more x fs f i = elim (list_any (λ y. same y x) fs) as (λ b. In f (cond b fs (fs ++ x ∷ [])) → In f fs ⊎ (f ≡ x)) [
  | true ↦ λ j. inl j
  | false ↦ λ j. elim (In-append f fs (x ∷ []) j) as (λ _. In f fs ⊎ (f ≡ x)) [
    | inl q ↦ inl q
    | inr q ↦ elim q as (λ _. In f fs ⊎ (f ≡ x)) [ inl e ↦ inr e | inr z ↦ absurd z ]
  ]
] i

-- a lease on the file
pub record IsUsed (uses : List Use) (f : List ℕ) : Type 0 where
  pub used : Use
  pub among : In used uses
  pub file : file_of used.field ≡ f

used_by : (uses : List Use) (on : Field) (wanted : LeaseKind) → HasUse uses on wanted → IsUsed uses (file_of on)
used_by uses on wanted h = record { used = h.used; among = h.among; file = ap file_of h.field }

-- each file of an operation that is led has a lease among those that it used
module _ (values : Field → Value) (d : TheLed) (leads : is_led d.entry.op d.entry.reply ≡ true) (answer : IsLeadAnswer values d) where
  abbrev known : Known
  known = known_with values

  abbrev Covered : Op → Type 0
  Covered o = (n : Need) → In n (walk known always o).items → IsCovered d.entry.uses n

  covers : (o : Op) (r : Reply) → is_led o r ≡ true → Covered o → HasMoved known always o d.file → HasPlace known always o
      → (IsUsed d.entry.uses (home_of o) × IsUsed d.entry.uses (source_of o)) × IsUsed d.entry.uses d.file
  covers (op.Delete dir name) r is c m p =
      let child = used_by d.entry.uses (Child dir name) Exclusive (c _ m.child) in
      ((child, child), used_by d.entry.uses (Life d.file) _ (c _ m.life))
  covers (op.Rename sdir sname ddir dname) r is c m p = (
    (used_by d.entry.uses (Child ddir dname) Exclusive (c _ p), used_by d.entry.uses (Child sdir sname) Exclusive (c _ m.child)),
    used_by d.entry.uses (Life d.file) _ (c _ m.life),
  )
  covers o r is c m p = absurd (cc is)

  its_covers : (IsUsed d.entry.uses (home_of d.entry.op) × IsUsed d.entry.uses (source_of d.entry.op)) × IsUsed d.entry.uses d.file
  its_covers =
      let p = moved_parts known d.entry.op (d.file, d.kind) answer.moved in
      covers d.entry.op d.entry.reply leads answer.answer.covered
      (moved_items known always d.entry.op d.entry.reply d.file leads answer.answer.reply p.0)
      (placed_items known always d.entry.op d.entry.reply d.file leads answer.answer.reply p.0)

  -- so has each part
  used_in : (f : List ℕ) → In f (led_files d.entry.op d.file) → IsUsed d.entry.uses f
  used_in f i =
      let home : List (List ℕ) = home_of d.entry.op ∷ [] in
      elim (one_more d.file (with_file (source_of d.entry.op) home) f i) as (λ _. IsUsed d.entry.uses f) [
        | inr e ↦ subst (IsUsed d.entry.uses) (sym e) its_covers.1
        | inl j ↦ elim (one_more (source_of d.entry.op) home f j) as (λ _. IsUsed d.entry.uses f) [
          | inr e ↦ subst (IsUsed d.entry.uses) (sym e) (its_covers.0).1
          | inl k ↦ elim k as (λ _. IsUsed d.entry.uses f) [
            | inl e ↦ subst (IsUsed d.entry.uses) (sym e) (its_covers.0).0
            | inr z ↦ absurd z
          ]
        ]
      ]

  pub part_used : (mode : Mode2) (p : Part) → In p (parts_in mode (lead_of d)) → IsUsed p.uses p.file
  part_used mode p i =
      let q = In-map (part_at mode d.entry.op d.file d.entry.uses) p (led_files d.entry.op d.file) i in
      let f : List ℕ = q.0 in
      let u : IsUsed d.entry.uses f = used_in f q.1.0 in
      let on : same (file_of u.used.field) f ≡ true = ap (λ x. same x f) u.file ∙ same_self f in
      let its : IsUsed (uses_on f d.entry.uses) f = record {
        used = u.used;
        among = kept_in (λ (x : Use). same (file_of x.field) f) u.used d.entry.uses u.among on;
        file = u.file;
      } in
      subst (λ (x : Part). IsUsed x.uses x.file) (sym q.1.1) its

module _ (k skew greatest : ℕ) (c : Cluster) (s : Server) (at : slice_get c.servers k ≡ Some s) (h : ClusterHolds skew greatest c)
    (l : Leading) (there : In l s.leading) (yes : first_end l.leader.votes ≡ None) (path : Option PathAnswer) (tells : TellsCycles c l path)
    (clear : needs_path l.leader.mode l.leader.op ≡ true → IsClear l.leader path)
    (decided_so : decision l.leader path ≡ commit l.leader (reply_of l.leader.op)) where
  here : In s c.servers
  here = In-got c.servers k s at

  abbrev pub leads : IsLeading c.lines s h.led.parts l
  leads = h.led.leading s (In-got c.servers k s at) l there

  abbrev pub d : TheLed
  d = leads.led

  abbrev by : Session
  by = l.leader.session

  abbrev pub w : World
  w = world_of s c

  client : IsLedBy c.lines by k d
  client = subst (λ n. IsLedBy c.lines by n d) (h.places.numbered k s at) leads.client

  pub standing : LedStands skew greatest (sight_in w) by (settled_at by (ends_in c by)) d
  standing = session_stands k skew greatest c s at h l there d client

  committed : IsCommitted (sight_in w) by (settled_at by (ends_in c by)) d.entry d.file
  committed = full_commits k skew greatest c s at h l there yes path tells clear

  pub answer : IsLeadAnswer (value_of (sight_in w).records by) d
  answer = standing.right (all_stand k skew greatest c s at h l there yes)

  pub apart : IsFileApart d.entry.op d.file
  apart = file_apart (held_seen c) by d.entry.op d.file d.entry.reply (record {
    records = (h.parts s here).0.all.kept.sound.records;
    space = (h.parts s here).0.all.kept.sound.space;
    moves = committed.moves;
    named = committed.named;
    reply = committed.reply;
  }) standing.leads

  -- a part that said Yes here has locked rows here, on its file
  pub own : (n : ℕ × ℕ) (p : Part) → In n (own_parts s.me l) → slice_get l.leader.parts n.0 ≡ Some p → is_mine s p.file ≡ true
  own n p i part =
      let u : IsUsed p.uses p.file = part_used (value_of (sight_in w).records by) d standing.leads answer l.leader.mode p
      (subst (In p) leads.leader.parts (In-got l.leader.parts n.0 p part)) in
      let y : Agreed = record { key = key_of l.leader.txn n.0; wanted = record { session = by; part = p } } in
      let said : In y (said_by s.me l) = said_so s.me l n.0 n.1 p i part in
      let all : In y (said_at s) =
      In-behind y (map agreed_of s.prepared) (flat_map (said_by s.me) s.leading) (In_all (said_by s.me) y l s.leading there said) in
      let r = (h.led.locks s here).locked y all u.used u.among in
      sym (ap (is_mine s) (ap file_of r.has.field ∙ u.file)) ∙ (h.places.homes s here).rows r.has.row r.has.stands

  -- the law of a commit that is split by the servers of its parts
  module _ (splits : CommitSplits) where
    pub own_files : AreOn (is_mine s) (own_effects s.me l (decision l.leader path))
    own_files = subst (λ e. AreOn (is_mine s) (own_effects s.me l e)) (sym decided_so)
        (own_on k skew greatest c s at h l there path decided_so splits away parted own)
      where
        away : same l.leader.file (home_of l.leader.op) ≡ false
        away = ap₂ (λ o f. same f (home_of o)) leads.leader.op leads.leader.file ∙ apart.0

        parted : same l.leader.file (source_of l.leader.op) ≡ false
        parted = ap₂ (λ o f. same f (source_of o)) leads.leader.op leads.leader.file ∙ apart.1

    pub commit_keeps : LedHolds (after_concluded k l path s c) → WorldStands greatest
        (world_of (concludes l path [] s).server (after_concluded k l path s c))
    commit_keeps led = commit_stands k skew greatest c s at h l there path decided_so
        (up_led skew greatest c s here h by s here l there refl d leads.client.led) committed apart own splits led

    -- what all hold together is changed by the operation
    pub held_after : LedHolds (after_concluded k l path s c) → held_seen (after_concluded k l path s c)
        ≡ records_after_all (held_seen c) (led_effects l.leader.op l.leader.file (reply_of l.leader.op))
    held_after led = held_so k skew greatest c s at h l there path decided_so
        (up_led skew greatest c s here h by s here l there refl d leads.client.led) committed apart own splits led
