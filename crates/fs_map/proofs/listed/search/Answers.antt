use Rattle.std.proofs.Common.{rules, List, ℕ}
use Rattle.std.specs.Ordering.{nat_cmp}
use Rattle.std.specs.Cmp.Lexicographic.{slice_cmp}
use Rattle.std.proofs.lemmas.Fn.{always_returns_same}
use Rattle.fs_map.proofs.Found.{searched}
use Rattle.fs_map.proofs.listed.search.Goals as goal

pub returns : goal.returns
returns g c =
    let facts = c.binary_search_by.ensures in
    let by_numbers = facts.position (λ (entry : List ℕ × g.row.V.Denot). slice_cmp nat_cmp entry.0 c.args.numbers.now) (always_returns_same _ _ _ (λ a r q k. search rules)) in
    let all = searched _ _ _ c.requires facts.bound by_numbers in
    record { within = all.0; found = all.1; absent = all.2 }
