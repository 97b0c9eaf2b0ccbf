use Rattle.std.proofs.Common.{drop}
use Rattle.fs_server.proofs.Losing.{AreLosing}
use Rattle.fs_server.proofs.reaps.lose_all.Given as goal

abbrev pub invariant-loop-file : goal.invariant-loop-file
invariant-loop-file l = AreLosing l.at l.files (drop l.file-index l.files) l.lost
