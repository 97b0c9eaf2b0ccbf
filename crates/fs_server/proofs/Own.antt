-- Rows that a session is given, which change none of its own answers.
use Rattle.std.proofs.Common.{◌≡◌, ◌==◌, not, ◌&&◌, ◌||◌, ℕ, Bool, true, false, List, [], ◌∷◌, refl, ap, cond, ◌∙◌}
use mathlib.Core.Path.{fun_ext}
use Rattle.std.specs.Prelude.{Option, Some, None, is_some}
use Rattle.std.specs.Cmp.{nat_eq_equiv}
use Rattle.std.specs.List.{find, list_any}
use Rattle.std.proofs.Math.Bool.{and-false}
use Rattle.fs_ident.specs.declared.actor.Session.{Session}
use Rattle.fs_ident.specs.Ordered.{put_before}
use Rattle.fs_modes.specs.declared.modes.Mode.{Mode}
use Rattle.fs_modes.specs.Modes.{has}
use Rattle.fs_field.specs.declared.asked.Asked.TheVariants.{Granted}
use Rattle.fs_field.specs.declared.field.Field.{Field}
use Rattle.fs_field.specs.declared.field.Field.TheVariants.{SelfW, Other}
use Rattle.fs_field.specs.declared.row.Row.{Row}
use Rattle.fs_field.specs.Conflict.{Selves, is_self, is_fixed, has_fixed, can_fail, mode_meets}
use Rattle.fs_field.specs.Field.{same_field, same_mode}
use Rattle.fs_field.specs.Table.{no_before, with_row, lock_on}
use Rattle.fs_ident.specs.Ident.{same}
use Rattle.fs_rows.proofs.Granting.{find_put, lock_put}
use Rattle.fs_moderows.specs.Answer.{Opens, answer_self, answer_other, has_fixed_other, is_self_of_other, stands_against_self, unless_locked, waits_or}

-- one item more that does not pass
any_put : {X : Type 0} (test first : X → Bool) (x : X) (xs : List X) → test x ≡ false → list_any test (put_before first x xs) ≡ list_any test xs
any_put test first x [] h = ap (λ b. b || false) h
any_put test first x (y ∷ ys) h =
    elim (first y) as (λ b. list_any test (cond b (x ∷ y ∷ ys) (y ∷ put_before first x ys)) ≡ list_any test (y ∷ ys)) [
      | true ↦ ap (λ b. b || list_any test (y ∷ ys)) h
      | false ↦ ap (λ b. test y || b) (any_put test first x ys h)
    ]

-- whether another session is fixed does not change
fixed_beside : (r : Row) (rows : List Row) (f : List ℕ) (m : Mode) (s : Session) → (r.session.0 == s.0) ≡ false → is_fixed (with_row r rows) f m s ≡ is_fixed rows f m s
fixed_beside r rows f m s other = ap not (any_put (λ (x : Row). is_self f m x.field && (x.session.0 == s.0)) (λ (x : Row). no_before r.no x.no) r rows (ap (λ b. is_self f m r.field && b) other ∙ and-false (is_self f m r.field)))

guarded : (a b c d e : Bool) → (b ≡ false → d ≡ e) → (((not a && not b) && c) && d) ≡ (((not a && not b) && c) && e)
guarded true b c d e k = refl
guarded false true c d e k = refl
guarded false false true d e k = k refl
guarded false false false d e k = refl

-- nor whether a session other than this one has the mode and is fixed
other_fixed : (selves : Selves) (r : Row) (rows : List Row) (f : List ℕ) (m : Mode) (x : Session) → has_fixed selves (with_row r rows) f m x r.session ≡ has_fixed selves rows f m x r.session
other_fixed selves r rows f m x = ap (λ test. list_any test (selves f)) (fun_ext (λ e. guarded (e.0.0 == x.0) (e.0.0 == r.session.0) (has e.1 m) (is_fixed (with_row r rows) f m e.0) (is_fixed rows f m e.0) (λ other. fixed_beside r rows f m e.0 (nat_eq_equiv.symm r.session.0 e.0.0 ∙ other))))

meets_same : (selves : Selves) (r : Row) (rows : List Row) (x : Session) (f : Field) (promise : Option Bool) (g : List ℕ) (m : Mode) → mode_meets selves (with_row r rows) x f promise r.session (SelfW g m) ≡ mode_meets selves rows x f promise r.session (SelfW g m)
meets_same selves r rows x (Other f n) promise g m = ap (λ b. (same f g && same_mode n m) && can_fail promise b) (other_fixed selves r rows f n x)
meets_same selves r rows x f promise g m = refl

stands_same : (opens : Opens) (r : Row) (rows : List Row) (f : List ℕ) (m : Mode) → stands_against_self opens (with_row r rows) r.session f m ≡ stands_against_self opens rows r.session f m
stands_same opens r rows f m = fun_ext (λ (x : Row). ap (λ b. not (x.session.0 == r.session.0) && b) (meets_same (λ g. opens) r rows x.session x.field x.promise f m))

-- a row that no transaction keeps locks nothing
locks_none : (r : Row) (rows : List Row) (field : Field) → r.lock ≡ None → lock_on field (with_row r rows) ≡ lock_on field rows
locks_none r rows field free = lock_put field (λ (x : Row). no_before r.no x.no) r rows (ap (λ o. same_field r.field field && is_some o) free ∙ and-false (same_field r.field field))

-- what the session is answered that would change what it tells of a mode
pub same_self : (opens : Opens) (r : Row) (rows : List Row) (f : List ℕ) (m : Mode) → r.lock ≡ None → answer_self opens (with_row r rows) r.session f m ≡ answer_self opens rows r.session f m
same_self opens r rows f m free =
    ap (λ o. unless_locked o (waits_or (find (stands_against_self opens (with_row r rows) r.session f m) (with_row r rows)) None)) (locks_none r rows (SelfW f m) free)
    ∙ ap (λ test. unless_locked (lock_on (SelfW f m) rows) (waits_or (find test (with_row r rows)) None)) (stands_same opens r rows f m)
    ∙ ap (λ o. unless_locked (lock_on (SelfW f m) rows) (waits_or o None)) (find_put (stands_against_self opens rows r.session f m) (λ (x : Row). no_before r.no x.no) r rows
    (ap (λ b. not b && mode_meets (λ g. opens) rows r.session r.field r.promise r.session (SelfW f m)) (nat_eq_equiv.refl r.session.0)))

-- what the session is answered that would know what others have of a mode
pub same_other : (opens : Opens) (r : Row) (rows : List Row) (f : List ℕ) (m : Mode) → r.lock ≡ None → answer_other opens (with_row r rows) r.session f m ≡ answer_other opens rows r.session f m
same_other opens r rows f m free =
    ap (λ o. unless_locked o (cond (has_fixed_other opens (with_row r rows) f m r.session) (Granted (Some true)) (waits_or (find (is_self_of_other f m r.session) (with_row r rows)) (Some false)))) (locks_none r rows (Other f m) free)
    ∙ ap (λ b. unless_locked (lock_on (Other f m) rows) (cond b (Granted (Some true)) (waits_or (find (is_self_of_other f m r.session) (with_row r rows)) (Some false)))) (other_fixed (λ g. opens) r rows f m r.session)
    ∙ ap (λ o. unless_locked (lock_on (Other f m) rows) (cond (has_fixed_other opens rows f m r.session) (Granted (Some true)) (waits_or o (Some false)))) (find_put (is_self_of_other f m r.session) (λ (x : Row). no_before r.no x.no) r rows
    (ap (λ b. is_self f m r.field && not b) (nat_eq_equiv.refl r.session.0) ∙ and-false (is_self f m r.field)))
