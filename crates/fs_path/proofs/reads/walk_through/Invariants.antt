use Rattle.std.proofs.Common.{◌≡◌, drop}
use Rattle.fs_path.specs.Tables.{through}
use Rattle.fs_path.proofs.reads.walk_through.Given as goal

abbrev pub invariant-loop-l : goal.invariant-loop-l
invariant-loop-l l = through l.file l.issued ≡ through l.file (drop l.l-index l.issued)
