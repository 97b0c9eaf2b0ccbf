-- What rows tell their sessions of the others' modes.
use Rattle.std.proofs.Common.{◌≡◌, ℕ, ◌==◌, ◌&&◌, ◌||◌, not, Bool, true, false, List, map, refl, sym, ap, ◌∙◌, subst, inl, inr}
use Rattle.std.specs.Prelude.{Option, Some, is_some}
use Rattle.std.specs.List.{filter}
use Rattle.std.proofs.lemmas.Bool.{or_from}
use mathlib.Core.Path.{fun_ext}
use Rattle.fs_ident.specs.In.{In}
use Rattle.fs_ident.specs.declared.actor.LeaseNo.{LeaseNo}
use Rattle.fs_ident.proofs.Booleans.{second}
use Rattle.fs_modes.specs.declared.modes.Mode.{Mode}
use Rattle.fs_field.specs.declared.field.Field.{Field}
use Rattle.fs_field.specs.declared.field.Field.TheVariants.{SelfW, Other}
use Rattle.fs_field.specs.declared.lease_kind.LeaseKind.{LeaseKind}
use Rattle.fs_field.specs.declared.row.Row.{Row}
use Rattle.fs_field.specs.declared.value.Value.TheVariants as value
use Rattle.fs_field.specs.Conflict.{is_self, has_fixed, plain_conflict, mode_conflict, NoConflict}
use Rattle.fs_field.specs.Field.{tells_no_mode}
use Rattle.fs_field.specs.Table.{renewed_row, with_row}
use Rattle.fs_moderows.specs.Kept.{others_may_have, KeptPromises}
use Rattle.fs_moderows.specs.Table.{is_of_mode}
use Rattle.fs_moderows.proofs.Tables.{renewed_tells}
use Rattle.fs_moderows.proofs.Witnesses.{fixed_with, covered_filter, covered_map, witness_stays}
use Rattle.fs_moderows.proofs.Promises.{kept_apart, kept_holds, holds_kept, holds_still, fewer_kept, may_with, promise_is}
use Rattle.fs_record.specs.Fresh.{records_after_gift}
use Rattle.fs_record.specs.Records.{RecordMap}
use Rattle.fs_record.specs.ValueOf.{value_of, selves_in, selves_of, handles_of, is_other}
use Rattle.fs_server.specs.Plan.{is_shaped}
use Rattle.fs_serial.specs.Parts.{ServersHold, ServersFit}
use Rattle.fs_serial.specs.Rows.{PromisesKept, RowsShaped}
use Rattle.fs_serial.specs.Sight.{Sight}
use Rattle.fs_serial.proofs.Lists.Journals.{there_is}
use Rattle.fs_serial.proofs.Grants.GiftedRecords.{node_stays}
use Rattle.fs_serial.proofs.Grants.Leased.{In-with_row}
use Rattle.fs_serial.proofs.Lists.Modes.{others_alike}

-- ## What was promised

promised_on : (field : Field) (kind : LeaseKind) (promise : Option Bool) → (tells_no_mode field || is_of_mode field kind promise) ≡ true → (f : List ℕ) (mode : Mode) → field ≡ Other f mode → is_some promise ≡ true
promised_on (Other g n) kind promise h f mode e = second _ (is_some promise) h
promised_on field kind promise h f mode e = absurd (cc)

-- a row on what others tell of a mode promises it
pub promised : (r : Row) → is_shaped r ≡ true → (f : List ℕ) (mode : Mode) → r.field ≡ Other f mode → (p : Bool) × (r.promise ≡ Some p)
promised r h f mode e = there_is r.promise (promised_on r.field r.kind r.promise h f mode e)

-- and that is so
pub promise_true : (m : RecordMap) (rows : List Row) → PromisesKept m rows → (r : Row) → In r rows → (f : List ℕ) (mode : Mode) (p : Bool) → r.field ≡ Other f mode → r.promise ≡ Some p → value_of m r.session r.field ≡ value.Other p
promise_true m rows kept r i f mode p fe pe =
    ap (value_of m r.session) fe ∙ ap value.Other (sym (promise_is (selves_in m) rows kept r i f mode p fe pe ∙ others_alike m f mode r.session))

other_is : (field : Field) → is_other field ≡ true → (f : List ℕ) × (mode : Mode) × (field ≡ Other f mode)
other_is (Other f mode) h = (f, mode, refl)
other_is field h = absurd (cc)

-- so it is still so where promises are still kept
pub other_stays : (m after : RecordMap) (rows : List Row) → RowsShaped rows → PromisesKept m rows → PromisesKept after rows → (r : Row) → In r rows → is_other r.field ≡ true → value_of after r.session r.field ≡ value_of m r.session r.field
other_stays m after rows shaped before later r i h =
    let q = other_is r.field h in
    let p = promised r (shaped r i) q.0 q.1 q.2 in
    promise_true after rows later r i q.0 q.1 p.0 q.2 p.1 ∙ sym (promise_true m rows before r i q.0 q.1 p.0 q.2 p.1)

-- ## No conflict

-- no two rows conflict, plainly or over a mode
pub no_conflict : (s : Sight) → ServersHold s → ServersFit s → NoConflict (selves_in s.records) s.rows
no_conflict s h f a b i j = or_from (plain_conflict a b) (mode_conflict (selves_in s.records) s.rows a b) (h.apart a b i j) (kept_apart (selves_in s.records) s.rows h.promises a b i j)

-- ## Rows that come and go

-- rows that go break no promise
pub promises_filtered : (m : RecordMap) (keep : Row → Bool) (rows : List Row) → PromisesKept m rows → PromisesKept m (filter keep rows)
promises_filtered m keep rows = fewer_kept (selves_in m) (filter keep rows) rows (covered_filter keep rows)

-- nor do rows that end later
pub promises_renewed : (m : RecordMap) (n : LeaseNo) (until : ℕ) (rows : List Row) → PromisesKept m rows → PromisesKept m (map (renewed_row n until) rows)
promises_renewed m n until rows = fewer_kept (selves_in m) (map (renewed_row n until) rows) rows (covered_map (renewed_row n until) (renewed_tells n until) rows)

plain_self : (f : List ℕ) (n : Mode) (field : Field) → tells_no_mode field ≡ true → is_self f n field ≡ false
plain_self f n (SelfW g m) h = absurd (cc)
plain_self f n field h = refl

plain_other : (f : List ℕ) (n : Mode) (field : Field) → tells_no_mode field ≡ true → field ≡ Other f n → ⊥
plain_other f n (Other g m) h e = absurd (cc)
plain_other f n field h e = absurd (cc)

-- nor does a row that is on no mode
pub promises_beside : (m : RecordMap) (r : Row) (rows : List Row) → tells_no_mode r.field ≡ true → PromisesKept m rows → PromisesKept m (with_row r rows)
promises_beside m r rows plain kept a i = elim (In-with_row a r rows i) [
  | inl q ↦ holds_kept (selves_in m) (with_row r rows) a.session a.field a.promise (λ h n e. absurd (plain_other h n r.field plain (ap (λ (z : Row). z.field) (sym q) ∙ e)))
  | inr j ↦ holds_kept (selves_in m) (with_row r rows) a.session a.field a.promise (λ h n e.
      let none : is_self h n r.field ≡ false = plain_self h n r.field plain in
      holds_still a.promise (has_fixed (selves_in m) rows h n a.session a.session) (others_may_have (selves_in m h) rows h n a.session) (has_fixed (selves_in m) (with_row r rows) h n a.session a.session) (others_may_have (selves_in m h) (with_row r rows) h n a.session)
      (λ t w. witness_stays (selves_in m) rows (with_row r rows) h n a.session a.session (λ s k. fixed_with r rows h n s (λ u. let wrong : true ≡ false = sym u ∙ none in absurd (cc)) k) w)
      (may_with (selves_in m h) r rows h n a.session (ap (λ b. b && not (r.session.0 == a.session.0)) none))
      (kept_holds (selves_in m) rows a.session a.field a.promise (kept a j) h n e))
]

-- ## Records

-- a number that a directory gives changes no handles
pub promises_gift : (m : RecordMap) (rows : List Row) (dir : List ℕ) (k : ℕ) → PromisesKept m rows → PromisesKept (records_after_gift m dir (Some k)) rows
promises_gift m rows dir k = subst (λ selves. KeptPromises selves rows) (fun_ext (λ f. ap (λ o. selves_of (handles_of o)) (sym (node_stays m dir k f))))
