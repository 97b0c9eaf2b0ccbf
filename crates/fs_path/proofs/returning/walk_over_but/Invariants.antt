use Rattle.std.proofs.Common.{◌≡◌, drop}
use Rattle.std.specs.List.{list_any}
use Rattle.fs_path.specs.Leases.{goes_over}
use Rattle.fs_path.specs.Returns.{without_no}
use Rattle.fs_path.proofs.returning.walk_over_but.Given as goal

abbrev pub invariant-loop-l : goal.invariant-loop-l
invariant-loop-l l = list_any (goes_over l.file) (without_no l.no l.issued) ≡ list_any (goes_over l.file) (without_no l.no (drop l.l-index l.issued))
