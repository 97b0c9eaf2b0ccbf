-- A leader decides: what each part is told then is of it, and one effect at most.
use Rattle.std.proofs.Common.{◌≡◌, ◌≤◌, ◌==◌, ◌&&◌, ℕ, Bool, true, false, List, [], ◌∷◌, ◌++◌, length, map, refl, sym, ap, ap₂, ◌∙◌}
use Rattle.std.proofs.Common.{subst, cond, inl, inr, arith}
use Rattle.std.specs.Prelude.{Option, Some, None, is_some, slice_get, unwrap_or}
use Rattle.std.specs.List.{flat_map}
use Rattle.std.proofs.lemmas.Bool.{eqb-true}
use Rattle.fs_ident.specs.In.{In}
use Rattle.fs_ident.specs.Ident.{same}
use Rattle.fs_ident.specs.declared.actor.Session.{Session}
use Rattle.fs_ident.specs.declared.actor.TxnNo.{TxnNo}
use Rattle.fs_ident.proofs.Same.{itself, same_is, same_self}
use Rattle.fs_ident.proofs.Standing.{In-append, In-behind, In-got, In-map}
use Rattle.fs_field.specs.After.{changed_file}
use Rattle.fs_field.specs.Field.{file_of}
use Rattle.fs_field.specs.Table.{same_txn}
use Rattle.fs_field.specs.declared.asked.Need.TheVariants as need
use Rattle.fs_field.specs.declared.effect.Effect.{Effect}
use Rattle.fs_field.specs.declared.field.Field.TheVariants.{Child}
use Rattle.fs_field.specs.declared.lease_kind.LeaseKind.TheVariants.{Exclusive}
use Rattle.fs_field.specs.declared.row.Row.{Row}
use Rattle.fs_field.specs.declared.used.Part.{Part}
use Rattle.fs_field.specs.declared.used.Use.{Use}
use Rattle.fs_field.specs.declared.path.PathAnswer.{PathAnswer}
use Rattle.fs_model.specs.Asking.{home_of}
use Rattle.fs_model.specs.declared.op.Op.{Op}
use Rattle.fs_model.specs.declared.op.Op.TheVariants as op
use Rattle.fs_msg.specs.declared.lead.Lead.{Lead as ToLead}
use Rattle.fs_parcel.proofs.Both.{passing}
use Rattle.fs_record.specs.LedEffects.{led_effects}
use Rattle.fs_record.specs.ValueOf.{value_of}
use Rattle.fs_client.specs.Led.{file_known, lead_of}
use Rattle.fs_client.specs.declared.led.Led.{Led as TheLed}
use Rattle.fs_server.specs.Begins.{parts_in}
use Rattle.fs_server.specs.Concludes.{concludes, keeps_for}
use Rattle.fs_server.specs.declared.state.Server.{Server}
use Rattle.fs_txn.specs.Deciding.{commit, decision, effects_on, first_end, keeps_rows, needs_path, reply_of, told_effects}
use Rattle.fs_txn.specs.Guards.{is_enough}
use Rattle.fs_txn.specs.Leading.{elsewhere, said_by}
use Rattle.fs_txn.specs.Locks.{Agreed, rows_unlocked}
use Rattle.fs_txn.specs.Parts.{led_files, part_at, uses_on}
use Rattle.fs_txn.specs.Ready.{agreed_of}
use Rattle.fs_txn.specs.Stages.{Key, Told, Wanted, word_to}
use Rattle.fs_txn.specs.Stages.Word.{Decide}
use Rattle.fs_txn.specs.declared.decision.Decision.{Decision}
use Rattle.fs_txn.specs.declared.leading.Leading.{Leading}
use Rattle.fs_txn.proofs.Keys.{kept_in}
use Rattle.fs_view.specs.Gone.{known_with}
use Rattle.fs_view.specs.LedLaws.{IsLed}
use Rattle.fs_view.specs.Walk.{Known, always, walk}
use Rattle.fs_serial.specs.Cluster.{Cluster}
use Rattle.fs_serial.specs.Commits.{IsCommitted}
use Rattle.fs_serial.specs.Conclusions.{TellsCycles, after_concluded}
use Rattle.fs_serial.specs.Leading.{HasLockFor, IsCoveredBy, IsLeading, IsLedBy, IsToldOf}
use Rattle.fs_serial.specs.Led.{IsLeadAnswer, LedStands}
use Rattle.fs_serial.specs.Owed.{ends_in}
use Rattle.fs_serial.specs.Pending.{HasUse}
use Rattle.fs_serial.specs.Sight.{Sight}
use Rattle.fs_serial.specs.Words.{key_of, rows_at, telling_of}
use Rattle.fs_serial.specs.World.{settled_at, sight_in}
use Rattle.fs_serial.specs.Seen.{ClusterHolds, world_of}
use Rattle.fs_serial.proofs.DecidedEffects.DecisionSeen as decides
use Rattle.fs_serial.proofs.DecidedEffects.FileApart.{IsFileApart, file_apart}
use Rattle.fs_serial.proofs.DecidedEffects.ToldCovered.{HasNewName, each_covered, enough_so, few_on}
use Rattle.fs_serial.proofs.LedOperations.MovedItems.{HasPlace, moved_parts, placed_items}
use Rattle.fs_serial.proofs.Lists.ByPlace.{map_at, of_map}
use Rattle.fs_serial.proofs.Transactions.Decisions.{decision_word}
use Rattle.fs_serial.proofs.Transactions.Desks.{is_at, told_then}
use Rattle.fs_serial.proofs.Transactions.FullCommits.{all_stand, full_commits, home_yes}
use Rattle.fs_serial.proofs.Transactions.LedDecided.{unlocked_stay}
use Rattle.fs_serial.proofs.Transactions.PartsApart.{first_part, parts_apart}
use Rattle.fs_serial.proofs.Transactions.Tables.{In_all}
use Rattle.fs_serial.proofs.Transactions.YesElsewhere.{IsReadyElsewhere, yes_elsewhere}
use Rattle.fs_serial.proofs.Transactions.YesesStand.{session_stands}
use Rattle.fs_serial.proofs.Transactions.YesParts.{IsSaidHere, said_in}
use Rattle.fs_serial.proofs.Transactions.Agreements.{Decides, IsClear, aborts, carries, cycle_tells_none, cycles, decides_so}

first_there : {X : Type 0} (xs : List X) (x : X) → In x xs → is_some (slice_get xs 0) ≡ true
first_there [] x i = absurd i
first_there (y ∷ ys) x i = refl

module _ (k skew greatest : ℕ) (c : Cluster) (s : Server) (at : slice_get c.servers k ≡ Some s) (h : ClusterHolds skew greatest c)
    (l : Leading) (there : In l s.leading) (path : Option PathAnswer) (tells : TellsCycles c l path) where
  abbrev t : TxnNo
  t = l.leader.txn

  abbrev by : Session
  by = l.leader.session

  abbrev d : Decision
  d = decision l.leader path

  abbrev pub out : List (ℕ × ℕ)
  out = elsewhere s.me l

  abbrev y : Server
  y = (concludes l path [] s).server

  abbrev pub after : Cluster
  after = after_concluded k l path s c

  abbrev here : In s c.servers
  here = In-got c.servers k s at

  me : s.me ≡ k
  me = h.places.numbered k s at

  abbrev leads : IsLeading c.lines s h.led.parts l
  leads = h.led.leading s here l there

  mine : (t.server == k) ≡ true
  mine = ap (λ j. t.server == j) (sym (leads.own ∙ me)) ∙ itself t.server

  pub telling_then : telling_of after.in_flight ≡ telling_of c.in_flight ++ map (decision_word k t d) out
  telling_then = decides.telling_then k skew greatest c s at h l there d

  pub ready : (x : ℕ × ℕ) → In x out → IsReadyElsewhere c h.led.parts l x
  ready x i = yes_elsewhere k c s at me h.led l there x i

  -- ## The operation

  abbrev it : TheLed
  it = leads.led

  abbrev o : Op
  o = it.entry.op

  abbrev m : ToLead
  m = lead_of it

  abbrev its_effects : List Effect
  its_effects = led_effects o it.file (reply_of o)

  client : IsLedBy c.lines by k it
  client = subst (λ n. IsLedBy c.lines by n it) me leads.client

  abbrev now : Sight
  now = sight_in (world_of s c)

  abbrev known : Known
  known = known_with (value_of now.records by)

  stands : LedStands skew greatest now by (settled_at by (ends_in c by)) it
  stands = session_stands k skew greatest c s at h l there it client

  -- ## A part elsewhere

  module _ (x : ℕ × ℕ) (i : In x out) where
    abbrev r : IsReadyElsewhere c h.led.parts l x
    r = ready x i

    pub part_there : slice_get (parts_in l.leader.mode m) x.0 ≡ Some r.part
    part_there = ap (λ ps. slice_get ps x.0) (sym leads.leader.parts) ∙ r.asked

    uses_are : r.part.uses ≡ uses_on r.part.file it.entry.uses
    uses_are =
        let q = of_map (part_at l.leader.mode o it.file it.entry.uses) (led_files o it.file) x.0 r.part part_there in
        ap (λ (p : Part). p.uses) q.1.1 ∙ ap (λ f. uses_on f it.entry.uses) (sym (ap (λ (p : Part). p.file) q.1.1))

    not_first : (b : Bool) → (0 == x.0) ≡ b → b ≡ false
    not_first false e = refl
    not_first true e =
        let first : 0 ≡ x.0 = eqb-true 0 x.0 e in
        let both : Some s.me ≡ Some x.1 = sym leads.home ∙ ap (slice_get l.at) first ∙ r.place in
        let same_place : s.me ≡ x.1 = cc in
        let wrong : true ≡ false = sym (itself x.1) ∙ ap (λ j. x.1 == j) (sym same_place ∙ sym leads.own) ∙ r.away in
        absurd (cc)

    -- it is on another file than the home's
    pub off_home : same (home_of o) r.part.file ≡ false
    off_home = parts_apart l.leader.mode m 0 x.0 (part_at l.leader.mode o it.file it.entry.uses (home_of o)) r.part
        (not_first (0 == x.0) refl) (first_part l.leader.mode m) part_there

    module _ (yes : first_end l.leader.votes ≡ None) (clear : needs_path l.leader.mode l.leader.op ≡ true → IsClear l.leader path)
        (decided : d ≡ commit l.leader (reply_of l.leader.op)) where
      pub told_is : told_effects d x.0 ≡ effects_on its_effects r.part.file
      told_is =
          let all = led_effects l.leader.op l.leader.file (reply_of l.leader.op) in
          ap (λ z. told_effects z x.0) decided
          ∙ ap (λ q. unwrap_or q []) (map_at (λ (p : Part). effects_on all p.file) l.leader.parts x.0 r.part r.asked)
          ∙ ap₂ (λ z f. effects_on (led_effects z f (reply_of z)) r.part.file) leads.leader.op leads.leader.file

      commits : IsCommitted now by (settled_at by (ends_in c by)) it.entry it.file
      commits = full_commits k skew greatest c s at h l there yes path tells clear

      answers : IsLeadAnswer (value_of now.records by) it
      answers = stands.right (all_stand k skew greatest c s at h l there yes)

      named : file_known known o ≡ Some it.file
      named = (moved_parts known o (it.file, it.kind) answers.moved).0

      its_led : IsLed now.records by o it.file it.entry.reply
      its_led =
          let sound = (h.parts s here).0.all.kept.sound in
          record { records = sound.records; space = sound.space; moves = commits.moves; named = commits.named; reply = commits.reply }

      apart : IsFileApart o it.file
      apart = file_apart now.records by o it.file it.entry.reply its_led stands.leads

      few_yes : length (told_effects d x.0) ≤ 1
      few_yes = subst (λ es. length es ≤ 1) (sym told_is) (few_on o it.file r.part.file off_home apart)

      -- ## The name to which the file moves

      abbrev rows_then : List Row
      rows_then = rows_at (slice_get after.servers t.server)

      -- the rows of a rename stay locked
      rows_kept : keeps_rows d ≡ true → rows_then ≡ s.rows
      rows_kept e =
          ap rows_at (is_at c.servers k s y at t.server mine)
          ∙ ap (λ b. cond b s.rows (rows_unlocked t s.rows)) (ap₂ (λ a b. a && b) e (first_there out x i))

      abbrev home : Part
      home = part_at l.leader.mode o it.file it.entry.uses (home_of o)

      abbrev first : Agreed
      first = record { key = key_of t 0; wanted = record { session = by; part = home } }

      first_said : IsSaidHere s.me l first
      first_said = record {
        txn = refl;
        session = refl;
        part = ap (λ ps. slice_get ps 0) leads.leader.parts ∙ first_part l.leader.mode m;
        vote = home_yes k skew greatest c s at h l there yes;
        asked = leads.home;
      }

      lock_for : (sdir sname ddir dname : List ℕ) → o ≡ op.Rename sdir sname ddir dname → HasUse it.entry.uses (Child ddir dname) Exclusive
          → HasLockFor rows_then t by (Child ddir dname) Exclusive
      lock_for sdir sname ddir dname e q =
          let at_home : same (file_of q.used.field) (home_of o) ≡ true =
          ap₂ (λ f g. same (file_of f) g) q.field (ap home_of e) ∙ same_self ddir in
          let among : In q.used home.uses =
          kept_in (λ (u : Use). same (file_of u.field) (home_of o)) q.used it.entry.uses q.among at_home in
          let said = In-behind first (map agreed_of s.prepared) (flat_map (said_by s.me) s.leading)
          (In_all (said_by s.me) first l s.leading there (said_in s.me l first first_said)) in
          let row = (h.led.locks s here).locked first said q.used among in
          let keeps : keeps_rows d ≡ true =
          ap keeps_rows decided ∙ ap (λ z. keeps_rows (commit l.leader (reply_of z))) (leads.leader.op ∙ e) in
          record {
            row = row.has.row;
            stands = subst (In row.has.row) (sym (rows_kept keeps)) row.has.stands;
            session = row.has.session;
            field = row.has.field ∙ q.field;
            enough = ap (is_enough Exclusive) row.has.kind ∙ enough_so q.used.kind Exclusive q.enough;
            lock = row.lock;
          }

      new_name : (z : Op) → o ≡ z → HasPlace known always z → HasNewName rows_then t by z
      new_name (op.Rename sdir sname ddir dname) e place = lock_for sdir sname ddir dname e
          (answers.answer.covered (need.Lease (Child ddir dname) Exclusive)
          (subst (λ z. In (need.Lease (Child ddir dname) Exclusive) (walk known always z).items) (sym e) place))
      new_name z e place = tt

      told_yes : (e : Effect) → In e (told_effects d x.0) → IsToldOf after.servers (key_of t x.0) (h.led.parts (key_of t x.0)) e
      told_yes e j =
          let among : In e (effects_on its_effects r.part.file) = subst (In e) told_is j in
          let q = each_covered it.entry.uses r.part.file rows_then t by known always o it.entry.reply it.file off_home stands.leads
          answers.answer.reply named answers.answer.covered
          (new_name o refl (placed_items known always o it.entry.reply it.file stands.leads answers.answer.reply named)) e among in
          subst (λ (w : Wanted). IsToldOf after.servers (key_of t x.0) w e) (sym r.wanted) (record {
            decided = q.decided;
            file = same_is (changed_file e) r.part.file (passing (λ z. same (changed_file z) r.part.file) its_effects e among);
            covered = subst (λ us. IsCoveredBy us e) (sym uses_are) q.covered;
            placed = q.placed;
          })

  how : Decides l.leader path
  how = decides_so l.leader it.kind path leads.leader.mode

  few_by : (x : ℕ × ℕ) → In x out → Decides l.leader path → length (told_effects d x.0) ≤ 1
  few_by x i (carries none clear is) = few_yes x i none clear is
  few_by x i (cycles none n on is) =
      subst (λ es. length es ≤ 1) (sym (ap (λ q. told_effects q x.0) is ∙ cycle_tells_none l.leader x.0)) (omega arith)
  few_by x i (aborts f is) = subst (λ es. length es ≤ 1) (sym (ap (λ q. told_effects q x.0) is)) (omega arith)

  told_by : (x : ℕ × ℕ) → In x out → (e : Effect) → In e (told_effects d x.0) → Decides l.leader path
      → IsToldOf after.servers (key_of t x.0) (h.led.parts (key_of t x.0)) e
  told_by x i e j (carries none clear is) = told_yes x i none clear is e j
  told_by x i e j (cycles none n on is) =
      absurd (subst (In e) (ap (λ q. told_effects q x.0) is ∙ cycle_tells_none l.leader x.0) j)
  told_by x i e j (aborts f is) = absurd (subst (In e) (ap (λ q. told_effects q x.0) is) j)

  pub told_new : (x : ℕ × ℕ) → In x out → (e : Effect) → In e (told_effects d x.0)
      → IsToldOf after.servers (key_of t x.0) (h.led.parts (key_of t x.0)) e
  told_new x i e j = told_by x i e j how

  pub concluded_few : (key : Key) (to : ℕ) (effects : List Effect) → In (word_to key to (Decide effects)) (telling_of after.in_flight)
      → length effects ≤ 1
  concluded_few key to effects i =
      elim (In-append (word_to key to (Decide effects)) (telling_of c.in_flight) (map (decision_word k t d) out)
      (subst (In (word_to key to (Decide effects))) telling_then i)) as (λ _. length effects ≤ 1) [
        | inl old ↦ h.led.few key to effects old
        | inr new ↦
            let q = In-map (decision_word k t d) (word_to key to (Decide effects)) out new in
            let word : Decide effects ≡ Decide (told_effects d (q.0).0) = ap (λ (z : Told). z.word) q.1.1 in
            let is : effects ≡ told_effects d (q.0).0 = cc in
            subst (λ es. length es ≤ 1) (sym is) (few_by q.0 q.1.0 how)
      ]

  -- ## What was told before

  -- a row that another transaction locks stays
  rows_stay : (u : TxnNo) → same_txn u t ≡ false → (r : Row) → In r s.rows → r.lock ≡ Some u → In r y.rows
  rows_stay u off r i e = elim (keeps_for d out) as (λ b. In r (cond b s.rows (rows_unlocked t s.rows))) [
    | true ↦ i
    | false ↦ unlocked_stay t s.rows r u i e off
  ]

  pub concluded_told : (key : Key) (to : ℕ) (effects : List Effect) → In (word_to key to (Decide effects)) (telling_of after.in_flight)
      → (e : Effect) → In e effects → IsToldOf after.servers key (h.led.parts key) e
  concluded_told key to effects i e j =
      elim (In-append (word_to key to (Decide effects)) (telling_of c.in_flight) (map (decision_word k t d) out)
      (subst (In (word_to key to (Decide effects))) telling_then i)) as (λ _. IsToldOf after.servers key (h.led.parts key) e) [
        | inl old ↦ told_then c.servers k s y at key (h.led.parts key) e
            (λ q. rows_stay key.txn
            (decides.not_its k skew greatest c s at h l there d (word_to key to (Decide effects)) old effects refl))
            (h.led.told key to effects old e j)
        | inr new ↦
            let q = In-map (decision_word k t d) (word_to key to (Decide effects)) out new in
            let word : Decide effects ≡ Decide (told_effects d (q.0).0) = ap (λ (z : Told). z.word) q.1.1 in
            let is : effects ≡ told_effects d (q.0).0 = cc in
            subst (λ z. IsToldOf after.servers z (h.led.parts z) e) (sym (ap (λ (z : Told). z.key) q.1.1))
            (told_new q.0 q.1.0 e (subst (In e) is j))
      ]
