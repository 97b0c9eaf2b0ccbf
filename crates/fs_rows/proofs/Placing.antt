-- Rows that are put into a table whose place is searched: what is in order with one row more is so without it.
use Rattle.std.proofs.Common.{◌≡◌, ◌&&◌, ◌∷◌, Bool, true, false, List, [], refl, cond}
use Rattle.std.specs.List.{list_all}
use Rattle.fs_ident.specs.Ordered.{put_before}
use Rattle.fs_ident.proofs.Booleans.{both, joined}
use Rattle.fs_field.specs.declared.row.Row.{Row}
use Rattle.fs_field.specs.Table.{no_before, is_ordered, with_row}
use Rattle.fs_rows.specs.Granted.{with_rows}

others_pass : (test first : Row → Bool) (r : Row) (rows : List Row) → list_all test (put_before first r rows) ≡ true → list_all test rows ≡ true
others_pass test first r [] h = refl
others_pass test first r (x ∷ xs) h = elim (first x) as (λ b. list_all test (cond b (r ∷ x ∷ xs) (x ∷ put_before first r xs)) ≡ true → (test x && list_all test xs) ≡ true) [
  | true ↦ λ g. (both (test r) (test x && list_all test xs) g).1
  | false ↦ λ g. let q = both (test x) (list_all test (put_before first r xs)) g in joined (test x) (list_all test xs) q.0 (others_pass test first r xs q.1)
] h

ordered_without : (first : Row → Bool) (r : Row) (rows : List Row) → is_ordered (put_before first r rows) ≡ true → is_ordered rows ≡ true
ordered_without first r [] h = refl
ordered_without first r (x ∷ xs) h = elim (first x) as (λ b. is_ordered (cond b (r ∷ x ∷ xs) (x ∷ put_before first r xs)) ≡ true → is_ordered (x ∷ xs) ≡ true) [
  | true ↦ λ g. (both (list_all (λ s. no_before r.no s.no) (x ∷ xs)) (is_ordered (x ∷ xs)) g).1
  | false ↦ λ g.
      let q = both (list_all (λ s. no_before x.no s.no) (put_before first r xs)) (is_ordered (put_before first r xs)) g in
      joined (list_all (λ s. no_before x.no s.no) xs) (is_ordered xs) (others_pass (λ s. no_before x.no s.no) first r xs q.0) (ordered_without first r xs q.1)
] h

-- and without all of several
pub ordered_before : (more rows : List Row) → is_ordered (with_rows more rows) ≡ true → is_ordered rows ≡ true
ordered_before [] rows h = h
ordered_before (m ∷ ms) rows h = ordered_without (λ r. no_before m.no r.no) m rows (ordered_before ms (with_row m rows) h)
