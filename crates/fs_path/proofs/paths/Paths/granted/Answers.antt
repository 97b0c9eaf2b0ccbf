use Rattle.fs_path.proofs.Needing.{needed_once_held}
use Rattle.fs_path.proofs.paths.Paths.granted.Goals as goal

pub invariant_of-self : goal.invariant_of-self
invariant_of-self c =
    let i = c.self.invariant in
    let needed = needed_once_held c.take_held.result c.new.result c.self.inside.issued c.self.inside.held c.items_mut.result.now.items c.take_held.new.held.items c.take_held.ensures.ok c.take_held.ensures.err c.items_mut.ensures.value i.2 in
    (i.0, c.take_held.ensures.index, needed, i.3)
