use Rattle.fs_path.specs.Returns.{without_no}
use Rattle.fs_path.proofs.Needing.{needed_once_back}
use Rattle.fs_path.proofs.paths.Paths.release.Goals as goal

pub invariant_of-self : goal.invariant_of-self
invariant_of-self c =
    let e = c.release.ensures in
    let issued = without_no c.args.no c.items_mut.result.now.items in
    (e.over, e.had, needed_once_back issued c.release.new.issued.items c.items_mut-2.result.now.items c.release.new.held.items e.issued e.held, c.self.invariant.3)
