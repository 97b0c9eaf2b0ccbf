use Rattle.std.proofs.Common.{◌≡◌, drop}
use Rattle.std.specs.Prelude.{option_map}
use Rattle.std.specs.List.{find}
use Rattle.fs_path.specs.Leases.{PathLease, goes_into}
use Rattle.fs_path.proofs.reads.walk_first_issued.Given as goal

abbrev pub invariant-loop-l : goal.invariant-loop-l
invariant-loop-l l = option_map (λ (l : PathLease). l.no) (find (goes_into l.map l.me l.prefix) l.issued) ≡ option_map (λ (l : PathLease). l.no) (find (goes_into l.map l.me l.prefix) (drop l.l-index l.issued))
