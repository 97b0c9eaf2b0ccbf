use Rattle.std.proofs.Common.{◌≡◌, ◌++◌, drop, map}
use Rattle.std.specs.List.{filter}
use Rattle.fs_client.specs.Live.{is_ending}
use Rattle.fs_client.specs.Turns.{pair_of}
use Rattle.fs_client.proofs.live.each_ending.Given as goal

abbrev pub invariant-loop-kept : goal.invariant-loop-kept
invariant-loop-kept l = l.pairs ++ map pair_of (filter (is_ending l.reading l.soon) (drop l.kept-index l.leases)) ≡ map pair_of (filter (is_ending l.reading l.soon) l.leases)
