use Rattle.std.proofs.Common.{◌≡◌, drop}
use Rattle.std.specs.Prelude.{option_map}
use Rattle.std.specs.List.{find}
use Rattle.fs_path.specs.Leases.{goes_into}
use Rattle.fs_path.specs.Tables.{lease_of}
use Rattle.fs_path.proofs.reads.walk_first_held.Given as goal

abbrev pub invariant-loop-h : goal.invariant-loop-h
invariant-loop-h l = option_map (λ h. (lease_of h).no) (find (λ h. goes_into l.map l.me l.prefix (lease_of h)) l.held) ≡ option_map (λ h. (lease_of h).no) (find (λ h. goes_into l.map l.me l.prefix (lease_of h)) (drop l.h-index l.held))
