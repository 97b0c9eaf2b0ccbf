-- Rows of one session that are put into a table one after the other.
use Rattle.std.proofs.Common.{◌≡◌, ◌==◌, not, ◌&&◌, Bool, true, false, List, [], ◌∷◌, ◌++◌, refl, ap, cond, ◌∙◌}
use Rattle.std.specs.Prelude.{Option, Some, None, is_some}
use Rattle.std.specs.Cmp.{nat_eq_equiv}
use Rattle.std.specs.List.{find}
use Rattle.std.proofs.Math.Bool.{and-false}
use Rattle.fs_ident.specs.declared.actor.TxnNo.{TxnNo}
use Rattle.fs_ident.specs.declared.actor.Session.{Session}
use Rattle.fs_ident.specs.In.{In}
use Rattle.fs_ident.specs.Ordered.{put_before}
use Rattle.fs_ident.proofs.Standing.{none_pass}
use Rattle.fs_field.specs.declared.asked.Asked.TheVariants.{Granted}
use Rattle.fs_field.specs.declared.field.Field.{Field}
use Rattle.fs_field.specs.declared.lease_kind.LeaseKind.{LeaseKind}
use Rattle.fs_field.specs.declared.row.Row.{Row}
use Rattle.fs_field.specs.Conflict.{stands_against, meets}
use Rattle.fs_field.specs.Field.{same_field}
use Rattle.fs_field.specs.Table.{no_before, with_row, lock_on}
use Rattle.fs_rows.specs.Answer.{answer_by, answer}
use Rattle.fs_rows.specs.Granted.{with_rows}

-- a row that does not pass is not found
pub find_put : {X : Type 0} (test first : X → Bool) (x : X) (xs : List X) → test x ≡ false → find test (put_before first x xs) ≡ find test xs
find_put test first x [] h = ap (λ b. cond b (Some x) None) h
find_put test first x (y ∷ ys) h =
    elim (first y) as (λ b. find test (cond b (x ∷ y ∷ ys) (y ∷ put_before first x ys)) ≡ find test (y ∷ ys)) [
      | true ↦ ap (λ b. cond b (Some x) (find test (y ∷ ys))) h
      | false ↦ ap (cond (test y) (Some y)) (find_put test first x ys h)
    ]

-- a row that no transaction keeps locks nothing
pub lock_put : (field : Field) (first : Row → Bool) (r : Row) (rows : List Row) → (same_field r.field field && is_some r.lock) ≡ false → lock_on field (put_before first r rows) ≡ lock_on field rows
lock_put field first r [] h = ap (λ b. cond b r.lock None) h
lock_put field first r (y ∷ ys) h =
    elim (first y) as (λ b. lock_on field (cond b (r ∷ y ∷ ys) (y ∷ put_before first r ys)) ≡ lock_on field (y ∷ ys)) [
      | true ↦ ap (λ b. cond b r.lock (lock_on field (y ∷ ys))) h
      | false ↦ ap (cond (same_field y.field field && is_some y.lock) y.lock) (lock_put field first r ys h)
    ]

-- a session's own row stands against none of its questions
own_goes : (r : Row) (s : Session) (g : Field) (l : LeaseKind) → r.session ≡ s → stands_against s g l r ≡ false
own_goes r s g l own = ap (λ (z : Session). not (s.0 == z.0) && meets g l r.field r.kind) own ∙ ap (λ b. not b && meets g l r.field r.kind) (nat_eq_equiv.refl s.0)

-- what a session is answered does not change by its own new rows
pub same_answer : (r : Row) (s : Session) (rows : List Row) (g : Field) (l : LeaseKind) → r.session ≡ s → r.lock ≡ None → answer (with_row r rows) s g l ≡ answer rows s g l
same_answer r s rows g l own free =
    ap (λ o. answer_by o (find (stands_against s g l) (with_row r rows))) (lock_put g (λ x. no_before r.no x.no) r rows (ap (λ o. same_field r.field g && is_some o) free ∙ and-false (same_field r.field g)))
    ∙ ap (answer_by (lock_on g rows)) (find_put (stands_against s g l) (λ x. no_before r.no x.no) r rows (own_goes r s g l own))

given_alone : (lock : Option TxnNo) (against : Option Row) (told : Option Bool) → answer_by lock against ≡ Granted told → against ≡ None
given_alone (Some txn) against told h = absurd (cc)
given_alone None (Some row) told h = absurd (cc)
given_alone None None told h = refl

-- no row stands against a lease that is granted
pub granted_goes : (rows : List Row) (s : Session) (f : Field) (k : LeaseKind) (told : Option Bool) → answer rows s f k ≡ Granted told → (x : Row) → In x rows → stands_against s f k x ≡ false
granted_goes rows s f k told h = none_pass (stands_against s f k) rows (given_alone (lock_on f rows) (find (stands_against s f k) rows) told h)

-- one row more at the end is put in last
pub with_rows-append : (a : List Row) (r : Row) (rows : List Row) → with_rows (a ++ r ∷ []) rows ≡ with_row r (with_rows a rows)
with_rows-append [] r rows = refl
with_rows-append (x ∷ xs) r rows = with_rows-append xs r (with_row x rows)
