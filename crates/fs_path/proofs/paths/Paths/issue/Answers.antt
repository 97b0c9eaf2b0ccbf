use Rattle.fs_path.proofs.Needing.{needed_once_issued}
use Rattle.fs_path.proofs.paths.Paths.issue.Goals as goal

pub invariant_of-self : goal.invariant_of-self
invariant_of-self c =
    let i = c.self.invariant in
    let needed = needed_once_issued c.issue.result c.new.result c.self.inside.issued c.items_mut.result.now.items c.issue.new.issued.items c.self.inside.held c.issue.ensures.ok c.issue.ensures.err c.items_mut.ensures.value i.2 in
    (c.issue.ensures.index, i.1, needed, i.3)
