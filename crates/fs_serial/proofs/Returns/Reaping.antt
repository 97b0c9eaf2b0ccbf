-- A session that let go of the lease on its handles on a file loses these: what all sessions rely on, and all parts.
use Rattle.std.proofs.Common.{◌≡◌, ℕ, ◌+◌, ◌==◌, ◌&&◌, Bool, true, false, List, [], ◌∷◌, ◌++◌, refl, sym, ap, ◌∙◌, subst, cond, append-nil, inl, inr, arith}
use Rattle.std.specs.Prelude.{None}
use Rattle.std.specs.Cmp.{nat_eq_equiv}
use Rattle.std.specs.FinMap.{get}
use Rattle.std.proofs.lemmas.List.Elements.{filter-append}
use mathlib.Core.Path.{fun_ext}
use Rattle.fs_ident.specs.In.{In}
use Rattle.fs_ident.specs.Ident.{same}
use Rattle.fs_ident.specs.declared.actor.Session.{Session}
use Rattle.fs_ident.specs.declared.kind.Kind.TheVariants.{Dir}
use Rattle.fs_ident.proofs.Standing.{In-map, none_any}
use Rattle.fs_ident.proofs.Booleans.{first_fails}
use Rattle.fs_ident.proofs.Same.{one_session}
use Rattle.fs_field.specs.Field.{file_of, same_field}
use Rattle.fs_field.specs.declared.field.Field.TheVariants.{Life, Own}
use Rattle.fs_field.specs.declared.effect.Effect.TheVariants.{RemoveHandle}
use Rattle.fs_field.specs.declared.row.Row.{Row}
use Rattle.fs_field.specs.declared.value.Value.TheVariants as value
use Rattle.fs_model.specs.Namespace.{first_space}
use Rattle.fs_model.specs.Sound.{IsSound, kind_of}
use Rattle.fs_model.specs.declared.op.Op.TheVariants as op
use Rattle.fs_model.proofs.SoundRuns.{step_sound}
use Rattle.fs_modes.specs.declared.modes.Modes.{Modes}
use Rattle.fs_moderows.specs.Answer.{reap_blocker}
use Rattle.fs_moderows.specs.Kept.{KeptPromises, selves_without}
use Rattle.fs_moderows.proofs.Reaps.{none_blocks, reap_kept}
use Rattle.fs_msg.specs.Journal.{asker}
use Rattle.fs_msg.specs.declared.item.Item.{Item}
use Rattle.fs_record.specs.Applied.{records_after_all}
use Rattle.fs_record.specs.Effects.{reap_effects}
use Rattle.fs_record.specs.Records.{RecordMap, AreRecords, node_of, nodes_of}
use Rattle.fs_record.specs.ValueOf.{handles_of, own_of, selves_in, value_of, is_other}
use Rattle.fs_record.proofs.Reaping.{reaped_nodes, reaped_own_value, reaped_selves, reaped_value}
use Rattle.fs_record.proofs.AllApplied.{after_all_kept}
use Rattle.fs_server.specs.Reaps.{has_own, reap_item, with_reap}
use Rattle.fs_server.specs.declared.state.Server.{Server}
use Rattle.fs_view.specs.ViewLease.{makes}
use Rattle.fs_serial.specs.Fresh.{FreshReserved, IsMade, NodesMade, Reserved, or_else, reserved_by}
use Rattle.fs_serial.specs.Numbers.{AreNumbered, ReapsInOrder, is_server, items_at}
use Rattle.fs_serial.specs.Parts.{AllHold, ServersFit, ServersHold}
use Rattle.fs_serial.specs.Relies.{Relies}
use Rattle.fs_serial.specs.Rows.{PromisesKept, RowsShaped}
use Rattle.fs_serial.specs.Serial.{AreSound, JournalSerial}
use Rattle.fs_serial.specs.Settled.{Settled}
use Rattle.fs_serial.specs.Sight.{Counts, Sight, sight_of}
use Rattle.fs_serial.proofs.DecidedEffects.FewerDirectories.{MakeNone, fewer_each, fewer_then, reserved_later, reserved_there}
use Rattle.fs_serial.proofs.Lists.Journals.{items-other, made-append, made_before, made_one, serial_push}
use Rattle.fs_serial.proofs.OtherSessions.Gone.{all_anew, made_more, still_gone}
use Rattle.fs_serial.proofs.OtherSessions.Relied.{relied_fits, relied_holds}
use Rattle.fs_serial.proofs.Replies.Reply.{number_more}
use Rattle.fs_serial.proofs.Grants.Promises.{other_stays}

-- ## The records after it

abbrev records_reaped : RecordMap → List ℕ → Session → RecordMap
records_reaped m file by = records_after_all m (reap_effects m file by)

-- each file is of the kind that it was
kind_same : (m : RecordMap) (file : List ℕ) (by : Session) (id : List ℕ) → kind_of (node_of (get (records_reaped m file by) id)) ≡ kind_of (node_of (get m id))
kind_same m file by id =
    let told : value.Life (kind_of (node_of (get (records_reaped m file by) id))) ≡ value.Life (kind_of (node_of (get m id))) = reaped_own_value by m file (Life id) refl in
    cc told

-- where no row keeps the session from it, what was promised stays so
pub promises_reaped : (m : RecordMap) (rows : List Row) (file : List ℕ) (by : Session) → AreRecords m → reap_blocker (selves_in m file) rows by file ≡ None → PromisesKept m rows → PromisesKept (records_reaped m file by) rows
promises_reaped m rows file by are none kept =
    let same : selves_in (records_reaped m file by) ≡ selves_without file by (selves_in m) = fun_ext (λ g. reaped_selves by m file g are) in
    subst (λ selves. KeptPromises selves rows) (sym same) (reap_kept (selves_in m) rows by file (none_blocks (selves_in m) rows by file none) kept)

-- ## Values

-- the session has no row on its handles on the file
not_own : (rows : List Row) (file : List ℕ) (by : Session) → has_own rows file by ≡ false → (r : Row) → In r rows → r.session ≡ by → same_field r.field (Own file) ≡ false
not_own rows file by none r i own =
    first_fails (same_field r.field (Own file)) (r.session.0 == by.0) (ap (λ (x : Session). r.session.0 == x.0) (sym own) ∙ nat_eq_equiv.refl r.session.0)
    (none_any (λ (r : Row). same_field r.field (Own file) && (r.session.0 == by.0)) rows none r i)

-- what rows of a session are on says the same to it, whoever lost the handles
value_same : (m : RecordMap) (rows : List Row) (file : List ℕ) (by : Session) → RowsShaped rows → PromisesKept m rows → PromisesKept (records_reaped m file by) rows → has_own rows file by ≡ false
    → (x : Session) (r : Row) → In r rows → r.session ≡ x → value_of (records_reaped m file by) x r.field ≡ value_of m x r.field
value_same m rows file by shaped before kept gone x r i own =
    elim (is_other r.field) as (λ b. is_other r.field ≡ b → value_of (records_reaped m file by) x r.field ≡ value_of m x r.field) [
      | true ↦ λ t. subst (λ y. value_of (records_reaped m file by) y r.field ≡ value_of m y r.field) own (other_stays m (records_reaped m file by) rows shaped before kept r i t)
      | false ↦ λ t. elim (x.0 == by.0) as (λ b. (x.0 == by.0) ≡ b → value_of (records_reaped m file by) x r.field ≡ value_of m x r.field) [
        | true ↦ λ u.
            let is : x ≡ by = one_session x by u in
            subst (λ y. value_of (records_reaped m file by) y r.field ≡ value_of m y r.field) (sym is) (reaped_own_value by m file r.field (not_own rows file by gone r i (own ∙ is)))
        | false ↦ λ u. reaped_value by m file x r.field u (ap (λ b. b && same (file_of r.field) file) t)
      ] refl
    ] refl

-- ## What a reap makes

-- handles that are taken away are of no new file
pub reap_births : (m : RecordMap) (file : List ℕ) (by : Session) → MakeNone (reap_effects m file by)
reap_births m file by = fewer_each (reap_effects m file by) (λ e i dir.
    let q = In-map (λ (h : ℕ × Modes). RemoveHandle file by h.0) e (own_of by (handles_of (node_of (get m file)))) i in
    ap (makes dir) q.1.1)

pub reap_makes : (journal : List Item) (me n : ℕ) (file : List ℕ) (by : Session) (id : List ℕ) → IsMade (journal ++ reap_item me n file by ∷ []) id → IsMade journal id
reap_makes journal me n file by id m = elim (made_before journal (reap_item me n file by) id m) as (λ _. IsMade journal id) [ inl p ↦ p | inr p ↦ absurd (cc p) ]

-- ## Numbers of reaps

one_reap : (b : Bool) (is : List Item) (n others : ℕ) (i : Item) → i.n ≡ n + 1 → AreNumbered 1 is (cond b n others + 1) → AreNumbered 1 (is ++ cond b (i ∷ []) []) (cond b (n + 1) others + 1)
one_reap true is n others i e h = number_more 1 is (n + 1) i h e
one_reap false is n others i e h = subst (λ js. AreNumbered 1 js (others + 1)) (sym (append-nil is)) h

module _ (o : Counts) (skew greatest : ℕ) (s : Server) (journal : List Item) (file : List ℕ) (by : Session) (sh : ServersHold (sight_of o s journal)) (sf : ServersFit (sight_of o s journal))
    (gone : has_own s.rows file by ≡ false) (free : reap_blocker (selves_in s.records file) s.rows by file ≡ None) where
  abbrev item : Item
  item = reap_item s.me (s.reaps + 1) file by

  abbrev after : Sight
  after = sight_of o (with_reap file by s) (journal ++ item ∷ [])

  promises : PromisesKept after.records s.rows
  promises = promises_reaped s.records s.rows file by sf.sound.records free sh.promises

  -- whoever relies on what was before can go on, also the session that loses its handles
  pub reap_relied : (x : Session) → Relies skew greatest x (sight_of o s journal) after
  reap_relied x = record {
    given = λ k. omega arith;
    older = λ r i old. record { row = r; stood = i; number = refl; session = refl; field = refl; kind = refl };
    kept = λ r i own live. record { row = r; stands = i; number = refl; lasts = omega arith };
    values = λ r i old own. inr (value_same s.records s.rows file by sf.shaped sh.promises promises gone x r i own);
    dirs = λ id was. made_one journal item id Dir was;
    made = λ id was. made_more journal item id was;
    gone = λ id was none. still_gone s.records after.records id (kind_same s.records file by id) none;
    items = items-other x journal item refl;
  }

  -- ## The servers

  serial : JournalSerial after.journal after.records
  serial = serial_push first_space journal (nodes_of s.records) (nodes_of after.records) item sh.serial refl refl (sym (reaped_nodes by s.records (asker item.by) file))

  reaped : ReapsInOrder after.reaps after.journal
  reaped k =
      let more : items_at k after.journal ≡ items_at k journal ++ cond (k == s.me) (item ∷ []) [] =
      filter-append (λ (i : Item). is_server k i.by) journal (item ∷ []) ∙ ap (λ b. items_at k journal ++ cond b (item ∷ []) []) (nat_eq_equiv.symm s.me k) in
      subst (λ is. AreNumbered 1 is (after.reaps k + 1)) (sym more) (one_reap (k == s.me) (items_at k journal) s.reaps (o.reaps k) item refl (sh.reaped k))

  sound : AreSound after.records
  sound = record {
    space = subst IsSound (sym (reaped_nodes by s.records by file)) (step_sound (nodes_of s.records) by (op.Reap file by) sf.sound.space tt);
    records = after_all_kept s.records (reap_effects s.records file by) sf.sound.records;
  }

  made_still : NodesMade after.records after.journal
  made_still id kind p = made-append journal item id ∙ ap (λ x. or_else x None) (sf.made id kind (sym (kind_same s.records file by id) ∙ p))

  pub reap_holds : ServersHold after
  reap_holds = record { apart = sh.apart; promises = promises; serial = serial; reaped = reaped }

  pub reap_fits : ServersFit after
  reap_fits = record { shaped = sf.shaped; counted = sf.counted; given = sf.given; sound = sound; made = made_still }

  -- ## Identifiers

  pub reap_reserved : (reserved : Reserved) → FreshReserved reserved s.records journal → FreshReserved reserved after.records after.journal
  reap_reserved reserved f =
      reserved_later reserved after.records journal after.journal (reap_makes journal s.me (s.reaps + 1) file by)
      (reserved_there reserved s.records after.records journal (fewer_then s.records (reap_effects s.records file by) (reap_births s.records file by)) f)

-- ## All parts

pub reap_keeps : (o : Counts) (skew greatest : ℕ) (s : Server) (journal : List Item) (replied : Session → List Item) (clients : Session → Settled) (file : List ℕ) (by : Session) → AllHold skew greatest (sight_of o s journal) replied clients → has_own s.rows file by ≡ false
    → reap_blocker (selves_in s.records file) s.rows by file ≡ None → AllHold skew greatest (sight_of o (with_reap file by s) (journal ++ reap_item s.me (s.reaps + 1) file by ∷ [])) replied clients
reap_keeps o skew greatest s journal replied clients file by h gone free =
    let after : Sight = sight_of o (with_reap file by s) (journal ++ reap_item s.me (s.reaps + 1) file by ∷ []) in
    let rely : (x : Session) → Relies skew greatest x (sight_of o s journal) after = reap_relied o skew greatest s journal file by h.servers h.kept gone free in
    record {
      servers = reap_holds o skew greatest s journal file by h.servers h.kept gone free;
      kept = reap_fits o skew greatest s journal file by h.servers h.kept gone free;
      sessions = λ x. relied_holds skew greatest x (sight_of o s journal) after (clients x) (rely x) (h.fitting x) (all_anew skew greatest (sight_of o s journal) replied clients h x) (replied x) (h.sessions x);
      fitting = λ x. relied_fits skew greatest x (sight_of o s journal) after (clients x) (rely x) (h.fitting x);
      reserved = reap_reserved o skew greatest s journal file by h.servers h.kept gone free (reserved_by clients) h.reserved;
    }
