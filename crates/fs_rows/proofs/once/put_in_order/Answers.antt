use Rattle.std.proofs.Common.{◌∙◌, ap, sym, arith}
use Rattle.std.specs.Prelude.{◌==◌}
use Rattle.std.proofs.lemmas.Bool.Decides.{nat_tests}
use Rattle.std.proofs.lemmas.List.Filters.{dedup_is}
use Rattle.std.proofs.lemmas.List.Sorted.{list_any-IsPermutation}
use Rattle.std.proofs.lemmas.Map.Keys.{IsStrictlyIncreasing-dedup}
use Rattle.fs_rows.proofs.Bearing.{bears}
use Rattle.fs_rows.proofs.InOrder.{told_once}
use Rattle.fs_rows.proofs.once.put_in_order.Goals as goal

pub returns : goal.returns
returns c =
    let is = dedup_is _ _ _ c.dedup.ensures.filtered in record {
      rising = rw is (IsStrictlyIncreasing-dedup _ c.sort_unstable.ensures.sorted);
      same = λ k. ap (bears k) is ∙ told_once _ (λ x y h. grind (arith, nat_tests)) k _ ∙ sym (list_any-IsPermutation (λ b. b == k) _ _ c.sort_unstable.ensures.permutation);
    }
