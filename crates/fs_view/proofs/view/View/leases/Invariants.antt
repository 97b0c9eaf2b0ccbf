use Rattle.std.proofs.Common.{◌≡◌, take, map}
use Rattle.fs_view.specs.ViewLease.{seen_of}
use Rattle.fs_view.proofs.view.View.leases.Given as goal

abbrev pub invariant-loop-kept : goal.invariant-loop-kept
invariant-loop-kept l = l.seen ≡ map seen_of (take l.kept-index l.self.leases)
