use Rattle.std.proofs.Common.{◌≡◌, drop}
use Rattle.std.specs.Prelude.{None}
use Rattle.std.specs.Option.{option_copied}
use Rattle.fs_view.specs.View.{taken_from}
use Rattle.fs_view.proofs.known.taken_of.Given as goal

abbrev pub invariant-loop-kept : goal.invariant-loop-kept
invariant-loop-kept l = taken_from l.now l.field l.kind (option_copied l.best) (drop l.kept-index l.leases) ≡ taken_from l.now l.field l.kind None l.leases
