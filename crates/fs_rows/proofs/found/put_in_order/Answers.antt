use Rattle.std.proofs.Common.{ap, sym, ◌∙◌}
use Rattle.std.proofs.lemmas.List.Filters.{dedup_is}
use Rattle.std.proofs.lemmas.List.Kept.{IsStrictlySortedBy-dedup}
use Rattle.std.proofs.lemmas.List.Sorted.{list_any-IsPermutation}
use Rattle.fs_field.specs.Table.{same_no}
use Rattle.fs_rows.specs.Index.{has_number}
use Rattle.fs_rows.proofs.InOrderOf.{no_total, ties, rising_is, told_once}
use Rattle.fs_rows.proofs.found.put_in_order.Goals as goal

pub returns : goal.returns
returns c =
    let is = dedup_is _ _ _ c.dedup.ensures.filtered in record {
      rising = rw is (rising_is _ (IsStrictlySortedBy-dedup no_total ties _ c.sort_unstable.ensures.sorted));
      same = λ k. ap (has_number k) is ∙ told_once k _ ∙ sym (list_any-IsPermutation (λ n. same_no n k) _ _ c.sort_unstable.ensures.permutation);
    }
