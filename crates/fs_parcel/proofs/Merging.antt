-- One list in order of the rows of two tables.
use Rattle.std.proofs.Common.{◌≡◌, ◌++◌, ℕ, true, false, List, [], ◌∷◌, refl, ap, cond, sym, ◌∙◌, subst, reverse, length, ◌+◌, arith}
use Rattle.std.specs.Prelude.{Option, Some, None, MatchOption}
use Rattle.std.specs.Option.{option_to_list}
use Rattle.std.proofs.lemmas.List.{reverse-append, append-nil}
use Rattle.fs_ident.proofs.Booleans.{first, second}
use Rattle.fs_ident.proofs.Passing.{all-In}
use Rattle.fs_ident.proofs.Standing.{In-put_here}
use Rattle.fs_field.specs.declared.row.Row.{Row}
use Rattle.fs_field.specs.Table.{is_ordered, no_before, with_row}
use Rattle.fs_rows.specs.Granted.{with_rows}
use Rattle.fs_parcel.specs.Merged.{AreFalling, IsLeastTaken, both_of, is_first}
use Rattle.fs_parcel.specs.Rows.{in_one_list}
use Rattle.fs_parcel.proofs.Both.{all_behind, leads, leads_on, ordered_before}

-- ## The first of two lists in order

-- where the other comes first, so it does of all
first_plain : (x : Row) (xs ys : List Row) → is_first (x ∷ xs) ys ≡ true → is_ordered ys ≡ true
    → in_one_list (x ∷ xs) ys ≡ x ∷ in_one_list xs ys
first_plain x xs [] h o = refl
first_plain x xs (y ∷ ys) h o = all_behind x (y ∷ ys) xs (leads_on x y ys h (first (leads y ys) (is_ordered ys) o))

-- of two rows in order that are put together one comes first
other_first : (x y : Row) (xs : List Row) → no_before x.no y.no ≡ false → is_ordered (with_row y (x ∷ xs)) ≡ true → no_before y.no x.no ≡ true
other_first x y xs h o =
    elim (no_before y.no x.no) as (λ b. is_ordered (cond b (y ∷ x ∷ xs) (x ∷ with_row y xs)) ≡ true → b ≡ true) [
      | true ↦ λ _. refl
      | false ↦ λ g.
          let wrong : true ≡ false = sym (all-In (λ s. no_before x.no s.no) (with_row y xs) (first (leads x (with_row y xs)) (is_ordered (with_row y xs)) g) y (In-put_here (λ r. no_before y.no r.no) y xs)) ∙ h in
          absurd (cc)
    ] o

first_modes : (y : Row) (xs ys : List Row) → is_first xs (y ∷ ys) ≡ false → is_ordered (y ∷ ys) ≡ true → is_ordered (in_one_list xs (y ∷ ys)) ≡ true → in_one_list xs (y ∷ ys) ≡ y ∷ in_one_list xs ys
first_modes y [] ys h o a = all_behind y ys [] (first (leads y ys) (is_ordered ys) o)
first_modes y (x ∷ xs) ys h o a =
    let front : no_before y.no x.no ≡ true = other_first x y xs h (ordered_before ys (with_row y (x ∷ xs)) a) in
    ap (λ b. with_rows ys (cond b (y ∷ x ∷ xs) (x ∷ with_row y xs))) front
    ∙ all_behind y ys (x ∷ xs) (first (leads y ys) (is_ordered ys) o)

-- ## In falling order

last_first : (xs : List Row) (x : Row) → reverse (xs ++ x ∷ []) ≡ x ∷ reverse xs
last_first xs x = reverse-append xs (x ∷ [])

behind_first : (x : Row) (rows : List Row) → is_ordered (x ∷ rows) ≡ true → is_ordered rows ≡ true
behind_first x rows o = second (leads x rows) (is_ordered rows) o

from_plain : (x : Row) (xs ys : List Row) → AreFalling (xs ++ x ∷ []) ys → is_first (reverse (xs ++ x ∷ [])) (reverse ys) ≡ true → IsLeastTaken (Some x) (xs ++ x ∷ []) ys xs ys
from_plain x xs ys f h =
    let e = last_first xs x in
    let k : is_first (x ∷ reverse xs) (reverse ys) ≡ true = ap (λ l. is_first l (reverse ys)) (sym e) ∙ h in
    let next : both_of (xs ++ x ∷ []) ys ≡ x ∷ both_of xs ys = ap (λ l. in_one_list l (reverse ys)) e ∙ first_plain x (reverse xs) (reverse ys) k f.modes_falls in
    record {
      falling = record {
        plain_falls = behind_first x (reverse xs) (ap is_ordered (sym e) ∙ f.plain_falls);
        modes_falls = f.modes_falls;
        all = behind_first x (both_of xs ys) (ap is_ordered (sym next) ∙ f.all);
      };
      next = next;
    }

from_modes : (y : Row) (xs ys : List Row) → AreFalling xs (ys ++ y ∷ []) → is_first (reverse xs) (reverse (ys ++ y ∷ [])) ≡ false → IsLeastTaken (Some y) xs (ys ++ y ∷ []) xs ys
from_modes y xs ys f h =
    let e = last_first ys y in
    let k : is_first (reverse xs) (y ∷ reverse ys) ≡ false = ap (is_first (reverse xs)) (sym e) ∙ h in
    let o : is_ordered (y ∷ reverse ys) ≡ true = ap is_ordered (sym e) ∙ f.modes_falls in
    let a : is_ordered (in_one_list (reverse xs) (y ∷ reverse ys)) ≡ true =
    ap (λ l. is_ordered (in_one_list (reverse xs) l)) (sym e) ∙ f.all in
    let next : both_of xs (ys ++ y ∷ []) ≡ y ∷ both_of xs ys =
    ap (in_one_list (reverse xs)) e ∙ first_modes y (reverse xs) (reverse ys) k o a in
    record {
      falling = record {
        plain_falls = f.plain_falls;
        modes_falls = behind_first y (reverse ys) o;
        all = behind_first y (both_of xs ys) (ap is_ordered (sym next) ∙ f.all);
      };
      next = next;
    }

-- a table that stands first is not empty
pub plain_taken : (r : Option Row) (xs ys new : List Row) → AreFalling xs ys → is_first (reverse xs) (reverse ys) ≡ true → xs ≡ new ++ option_to_list r → (r ≡ None → xs ≡ []) → IsLeastTaken r xs ys new ys
plain_taken (Some x) xs ys new f h e n = subst (λ l. IsLeastTaken (Some x) l ys new ys) (sym e) (from_plain x new ys (subst (λ l. AreFalling l ys) e f) (ap (λ l. is_first (reverse l) (reverse ys)) (sym e) ∙ h))
plain_taken None xs ys new f h e n = let wrong : true ≡ false = sym h ∙ ap (λ l. is_first (reverse l) (reverse ys)) (n refl) in absurd (cc)

none_first : (xs : List Row) → is_first xs [] ≡ false → xs ≡ []
none_first [] h = refl
none_first (x ∷ xs) h = absurd (cc)

pub modes_taken : (r : Option Row) (xs ys new : List Row) → AreFalling xs ys → is_first (reverse xs) (reverse ys) ≡ false → ys ≡ new ++ option_to_list r → (r ≡ None → ys ≡ []) → IsLeastTaken r xs ys xs new
modes_taken (Some y) xs ys new f h e n = subst (λ l. IsLeastTaken (Some y) xs l xs new) (sym e) (from_modes y xs new (subst (AreFalling xs) e f) (ap (λ l. is_first (reverse xs) (reverse l)) (sym e) ∙ h))
modes_taken None xs ys new f h e n =
    let none : ys ≡ [] = n refl in
    let same : new ≡ ys = sym (append-nil new) ∙ sym e in
    record {
      falling = subst (AreFalling xs) (sym same) f;
      next = ap (λ l. in_one_list (reverse xs) (reverse l)) none ∙ none_first (reverse xs) (ap (λ l. is_first (reverse xs) (reverse l)) (sym none) ∙ h);
    }

-- two lists in order, turned round, fall
pub turned_fall : (plain modes : List Row) (xs ys : List Row) → is_ordered plain ≡ true → is_ordered modes ≡ true → is_ordered (in_one_list plain modes) ≡ true → reverse xs ≡ plain → reverse ys ≡ modes → AreFalling xs ys
turned_fall plain modes xs ys p q a e g = record {
  plain_falls = ap is_ordered e ∙ p;
  modes_falls = ap is_ordered g ∙ q;
  all = ap (λ l. is_ordered (in_one_list l (reverse ys))) e ∙ ap (λ l. is_ordered (in_one_list plain l)) g ∙ a;
}

-- where nothing is taken out of a vector it is empty
pub emptied : (r : Option Row) (n k : ℕ) (xs : List Row) → MatchOption r ((n ≡ 0) × (k ≡ 0)) (λ _. k + 1 ≡ n) → length xs ≡ n → r ≡ None → xs ≡ []
emptied None n k [] m e q = refl
emptied None n k (x ∷ xs) m e q = let none : n ≡ 0 = m.0 in absurd (omega arith)
emptied (Some x) n k xs m e q = absurd (cc)
