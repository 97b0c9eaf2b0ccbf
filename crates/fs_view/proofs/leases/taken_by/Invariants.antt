use Rattle.std.proofs.Common.{◌≡◌, drop}
use Rattle.std.specs.Prelude.{None}
use Rattle.std.specs.Option.{option_copied}
use Rattle.fs_view.specs.Index.{taken_by}
use Rattle.fs_view.proofs.leases.taken_by.Given as goal

abbrev pub invariant-loop-no : goal.invariant-loop-no
invariant-loop-no l = taken_by l.now l.field l.kind l.leases.kept.items (option_copied l.best) (drop l.no-index l.numbers) ≡ taken_by l.now l.field l.kind l.leases.kept.items None l.numbers
