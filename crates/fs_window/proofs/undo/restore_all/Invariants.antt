use Rattle.std.proofs.Common.{◌≡◌, IsTrue, vec_len}
use Rattle.fs_window.specs.Peers.{are_peers_in_order}
use Rattle.fs_window.specs.Undo.{ends_undone}
use Rattle.fs_window.proofs.undo.restore_all.Given as goal

-- the steps that are left, undone on the links as they are
abbrev pub invariant-loop-step : goal.invariant-loop-step
invariant-loop-step l = record {
  undone : ends_undone l.steps.items l.links ≡ ends_undone l.fn.undo l.fn.links;
  ordered : IsTrue (are_peers_in_order l.links);
}

abbrev pub decreases-loop-step : goal.decreases-loop-step
decreases-loop-step l = vec_len l.steps
