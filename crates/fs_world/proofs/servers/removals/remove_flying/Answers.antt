use Rattle.std.proofs.Common.{sym, ap, ◌∙◌}
use Rattle.std.specs.List.{position}
use Rattle.fs_serial.specs.Cluster.{is_between}
use Rattle.fs_world.proofs.PoppedFirst.{none_taken, taken_off}
use Rattle.fs_world.proofs.servers.removals.remove_flying.Goals as goal

pub returns-in-Some : goal.returns-in-Some
returns-in-Some c = c.remove.ensures.rest ∙ taken_off (is_between c.args.from c.args.to) c.args.in_flight.now c.in-Some.at
    (sym (ap (position (is_between c.args.from c.args.to)) c.as_slice.ensures) ∙ sym c.in-Some.ensures.same)

pub returns-in-None : goal.returns-in-None
returns-in-None c = none_taken (is_between c.args.from c.args.to) c.args.in_flight.now
    (sym (ap (position (is_between c.args.from c.args.to)) c.as_slice.ensures) ∙ sym c.in-None.ensures.same)
