use Rattle.std.proofs.Common.{◌≡◌, take}
use Rattle.fs_model.specs.Children.{names_of}
use Rattle.fs_model.proofs.children.names.Given as goal

abbrev pub invariant-loop-child : goal.invariant-loop-child
invariant-loop-child l = l.names ≡ names_of (take l.child-index l.children)
