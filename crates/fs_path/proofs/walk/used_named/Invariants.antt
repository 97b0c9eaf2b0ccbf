use Rattle.std.proofs.Common.{◌≡◌, drop}
use Rattle.fs_path.specs.Index.{used_named}
use Rattle.fs_path.proofs.walk.used_named.Given as goal

abbrev pub invariant-loop-name : goal.invariant-loop-name
invariant-loop-name l = used_named l.names l.held ≡ used_named (drop l.name-index l.names) l.held
