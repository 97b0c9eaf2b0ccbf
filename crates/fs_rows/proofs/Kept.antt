-- What keeps a table one.
use Rattle.std.proofs.Common.{◌≡◌, ℕ, Bool, true, false, List, refl, ap, sym, ◌∙◌, map, inl, inr}
use Rattle.std.specs.Prelude.{Option, Some, None, Result, Ok, Err, IfOk, OnErr}
use Rattle.std.specs.List.{filter, find, list_any}
use Rattle.fs_ident.specs.declared.actor.LeaseNo.{LeaseNo}
use Rattle.fs_ident.specs.declared.actor.TxnNo.{TxnNo}
use Rattle.fs_ident.specs.declared.actor.Session.{Session}
use Rattle.fs_ident.specs.declared.memory.Memory.{Memory}
use Rattle.fs_field.specs.declared.asked.Asked.{Asked}
use Rattle.fs_field.specs.declared.asked.Asked.TheVariants.{Wait}
use Rattle.fs_field.specs.declared.field.Field.{Field}
use Rattle.fs_field.specs.declared.lease_kind.LeaseKind.{LeaseKind}
use Rattle.fs_field.specs.declared.row.Row.{Row}
use Rattle.fs_ident.specs.In.{In}
use Rattle.fs_field.specs.Conflict.{plain_conflict, stands_against}
use Rattle.fs_field.specs.Field.{tells_no_mode}
use Rattle.fs_field.specs.Table.{has_no, no_before, with_row, renewed_row, locked_row, unlocked_row, lock_on}
use Rattle.fs_ident.proofs.Standing.{In-filter, In-put, In-map, none_pass}
use Rattle.fs_rows.specs.Table.{IsTable}
use Rattle.fs_rows.specs.Answer.{answer_by, answer, given_row, rows_after, IsLeastAgainst}
use Rattle.fs_field.proofs.Order.{ordered_filter, ordered_map, ordered_put, found_least}
use Rattle.fs_ident.proofs.Passing.{found}
use Rattle.fs_field.proofs.Leases.{SameLease, renewed_same, locked_same, unlocked_same, NoPlainConflict-filter, NoPlainConflict-map, NoPlainConflict-with_row}

pub filtered_table : (test : Row → Bool) (rows : List Row) → IsTable rows → IsTable (filter test rows)
filtered_table test rows t = record {
  ordered = ordered_filter test rows t.ordered;
  off_modes = λ row i. t.off_modes row (In-filter test row rows i);
  free = NoPlainConflict-filter test rows t.free;
}

pub mapped_table : (f : Row → Row) → ((r : Row) → SameLease r (f r)) → (rows : List Row) → IsTable rows → IsTable (map f rows)
mapped_table f same rows t = record {
  ordered = ordered_map f (λ r. (same r).number) rows t.ordered;
  off_modes = λ row i. let q : (x : Row) × (In x rows × (row ≡ f x)) = In-map f row rows i in ap (λ (z : Row). tells_no_mode z.field) q.1.1 ∙ ap tells_no_mode (same q.0).field ∙ t.off_modes q.0 q.1.0;
  free = NoPlainConflict-map f same rows t.free;
}

pub renewed_table : (number : LeaseNo) (until : ℕ) (rows : List Row) → IsTable rows → IsTable (map (renewed_row number until) rows)
renewed_table number until rows t = mapped_table (renewed_row number until) (renewed_same number until) rows t

pub locked_table : (number : LeaseNo) (txn : TxnNo) (rows : List Row) → IsTable rows → IsTable (map (locked_row number txn) rows)
locked_table number txn rows t = mapped_table (locked_row number txn) (locked_same number txn) rows t

pub unlocked_table : (txn : TxnNo) (rows : List Row) → IsTable rows → IsTable (map (unlocked_row txn) rows)
unlocked_table txn rows t = mapped_table (unlocked_row txn) (unlocked_same txn) rows t

-- one more row, whose number is new and which conflicts with none
pub put_table : (row : Row) (rows : List Row) → list_any (has_no row.no) rows ≡ false → tells_no_mode row.field ≡ true → ((x : Row) → In x rows → plain_conflict row x ≡ false) → IsTable rows → IsTable (with_row row rows)
put_table row rows new plain free t = record {
  ordered = ordered_put row rows new t.ordered;
  off_modes = λ x i. elim (In-put (λ r. no_before row.no r.no) x row rows i) [
    | inl e ↦ ap (λ (z : Row). tells_no_mode z.field) e ∙ plain
    | inr j ↦ t.off_modes x j
  ];
  free = NoPlainConflict-with_row row rows free t.free;
}

-- the table stays one after each answer
after_by : (lock : Option TxnNo) (against : Option Row) (row : Row) (rows : List Row) → find (stands_against row.session row.field row.kind) rows ≡ against → list_any (has_no row.no) rows ≡ false → tells_no_mode row.field ≡ true → IsTable rows → IsTable (rows_after (answer_by lock against) row rows)
after_by (Some txn) against row rows e new plain t = t
after_by None (Some other) row rows e new plain t = t
after_by None None row rows e new plain t = put_table row rows new plain (none_pass (stands_against row.session row.field row.kind) rows e) t

pub answered_table : (number : LeaseNo) (session : Session) (field : Field) (kind : LeaseKind) (until : ℕ) (rows : List Row) → list_any (has_no number) rows ≡ false → tells_no_mode field ≡ true → IsTable rows
    → IsTable (rows_after (answer rows session field kind) (given_row number session field kind until) rows)
answered_table number session field kind until rows new plain t = after_by (lock_on field rows) (find (stands_against session field kind) rows) (given_row number session field kind until) rows refl new plain t

-- whoever waits waits for the least
least_by : (lock : Option TxnNo) (against : Option Row) (rows : List Row) (session : Session) (field : Field) (kind : LeaseKind) (blocker : LeaseNo) → IsTable rows → find (stands_against session field kind) rows ≡ against → answer_by lock against ≡ Wait blocker → IsLeastAgainst rows session field kind blocker
least_by (Some txn) against rows session field kind blocker t e h = absurd (cc)
least_by None None rows session field kind blocker t e h = absurd (cc)
least_by None (Some row) rows session field kind blocker t e h =
    let same : row.no ≡ blocker = cc in
    let one : In row rows × (stands_against session field kind row ≡ true) = found (stands_against session field kind) rows row e in
    record {
      row = row;
      stands = one.0;
      against = one.1;
      same = same;
      least = λ other i against. elim (found_least (stands_against session field kind) rows row t.ordered e other i against) [
        | inl p ↦ inl p
        | inr p ↦ inr (ap (λ n. no_before n other.no) (sym same) ∙ p)
      ];
    }

pub waits_for_least : (rows : List Row) (session : Session) (field : Field) (kind : LeaseKind) (blocker : LeaseNo) → IsTable rows → answer rows session field kind ≡ Wait blocker → IsLeastAgainst rows session field kind blocker
waits_for_least rows session field kind blocker t h = least_by (lock_on field rows) (find (stands_against session field kind) rows) rows session field kind blocker t refl h

-- after a question, whatever it was answered
pub asked_table : (asked : Result Asked Memory) (number : LeaseNo) (session : Session) (field : Field) (kind : LeaseKind) (until : ℕ) (old new : List Row) → list_any (has_no number) old ≡ false → tells_no_mode field ≡ true → IsTable old
    → IfOk asked (λ a. a ≡ answer old session field kind) → IfOk asked (λ a. new ≡ rows_after a (given_row number session field kind until) old) → OnErr asked (new ≡ old) → IsTable new
asked_table (Ok a) number session field kind until old new fresh plain t p q r =
    let e : new ≡ rows_after (answer old session field kind) (given_row number session field kind until) old = q ∙ ap (λ (a : Asked). rows_after a (given_row number session field kind until) old) p in
    rw e (answered_table number session field kind until old fresh plain t)
asked_table (Err m) number session field kind until old new fresh plain t p q r = let e : new ≡ old = r in rw e t

pub asked_least : (asked : Result Asked Memory) (session : Session) (field : Field) (kind : LeaseKind) (rows : List Row) → IsTable rows → IfOk asked (λ a. a ≡ answer rows session field kind) → (blocker : LeaseNo) → asked ≡ Ok (Wait blocker) → IsLeastAgainst rows session field kind blocker
asked_least (Ok a) session field kind rows t p blocker h = let e : a ≡ Wait blocker = cc in waits_for_least rows session field kind blocker t (sym p ∙ e)
asked_least (Err m) session field kind rows t p blocker h = absurd (cc)
