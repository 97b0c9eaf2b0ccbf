use Rattle.std.proofs.Common.{sym, ap, ◌∙◌}
use Rattle.std.specs.List.{position}
use Rattle.fs_serial.specs.Cluster.{is_with}
use Rattle.fs_world.proofs.PoppedFirst.{none_taken, taken_off}
use Rattle.fs_world.proofs.servers.removals.remove_first.Goals as goal

pub returns-in-Some : goal.returns-in-Some
returns-in-Some g c = c.remove.ensures.rest
    ∙ taken_off (is_with c.args.k) c.args.messages.now c.in-Some.at (sym (ap (position (is_with c.args.k)) c.as_slice.ensures)
    ∙ sym c.in-Some.ensures.same)

pub returns-in-None : goal.returns-in-None
returns-in-None g c = none_taken (is_with c.args.k) c.args.messages.now (sym (ap (position (is_with c.args.k)) c.as_slice.ensures)
    ∙ sym c.in-None.ensures.same)
