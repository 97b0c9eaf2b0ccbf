use Rattle.std.proofs.Common.{subst, ◌∙◌}
use Rattle.fs_view.specs.Index.{IsIndexOf}
use Rattle.fs_view.proofs.Found.{found_again}
use Rattle.fs_view.proofs.twin.copy.Goals as goal

pub returns-clause-found : goal.returns-clause-found
returns-clause-found c =
    found_again c.args.leases.now.kept.items _ c.args.leases.now.numbers.keys _ c.args.leases.now.index _ c.args.leases.now.least (c.in_ok-kept.ensures ∙ c.deref.ensures.value) c.in_ok-numbers.ensures.cases
    (subst (IsIndexOf c.index_of-index.result) c.deref-2.ensures.value c.index_of-index.ensures) c.requires
