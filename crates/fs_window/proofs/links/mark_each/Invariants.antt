use Rattle.std.proofs.Common.{◌≡◌, ◌++◌, map, take, drop}
use Rattle.fs_window.specs.Post.{link_sent}
use Rattle.fs_window.proofs.links.mark_each.Given as goal

abbrev pub invariant-loop-entry : goal.invariant-loop-entry
invariant-loop-entry l = l.links ≡ map (λ e. (e.0, link_sent e.1)) (take l.entry-index l.fn.links) ++ drop l.entry-index l.fn.links
