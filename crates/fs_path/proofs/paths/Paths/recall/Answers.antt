use Rattle.fs_path.specs.Returns.{is_of}
use Rattle.fs_path.proofs.Needing.{needed_once_asked}
use Rattle.fs_path.proofs.paths.Paths.recall.Goals as goal

pub invariant_of-self : goal.invariant_of-self
invariant_of-self c =
    let i = c.self.invariant in
    let needed = needed_once_asked (is_of c.args.no) c.self.inside.issued c.as_slice.result.now c.self.inside.held c.items_mut.result.now.items c.give_one_back.new.held.items c.give_one_back.ensures.held c.as_slice.ensures c.items_mut.ensures.value i.2 in
    (i.0, c.give_one_back.ensures.had, needed, i.3)
