-- The children of a directory: pairs of a name and an identifier, strictly in order of name.
use Rattle.std.specs.Prelude.{ℕ, not, List, map, Option}
use Rattle.std.specs.Ordering.{nat_cmp, eq_by_cmp}
use Rattle.std.specs.Cmp.Lexicographic.{slice_cmp}
use Rattle.std.specs.FinMap.Entries.{find, put, where_key}

abbrev pub Children : Type 0
Children = List (List ℕ × List ℕ)

-- the child of that name
abbrev pub child_at : Children → List ℕ → Option (List ℕ)
child_at children name = find (slice_cmp nat_cmp) name children

-- with that child, before the first one whose name is greater
abbrev pub with_child : Children → List ℕ → List ℕ → Children
with_child children name id = put (slice_cmp nat_cmp) name id children

-- without the child of that name
abbrev pub without_child : Children → List ℕ → Children
without_child children name = where_key (slice_cmp nat_cmp) (λ other. not (eq_by_cmp (slice_cmp nat_cmp) name other)) children

abbrev pub names_of : Children → List (List ℕ)
names_of children = map (λ c. c.0) children
