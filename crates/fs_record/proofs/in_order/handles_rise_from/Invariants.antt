use Rattle.std.proofs.Common.{◌≡◌, drop}
use Rattle.std.specs.Prelude.{◌&&◌}
use Rattle.fs_model.specs.Handles.{handles_are_in_order, is_before_all}
use Rattle.fs_record.proofs.in_order.handles_rise_from.Given as goal

-- what is left after the last one answers for all
abbrev pub invariant-loop-x : goal.invariant-loop-x
invariant-loop-x l =
    (is_before_all l.last (drop l.x-index l.rest) && handles_are_in_order (drop l.x-index l.rest)) ≡ (is_before_all l.fn.first l.rest && handles_are_in_order l.rest)
