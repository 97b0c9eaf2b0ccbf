use Rattle.fs_schedule.proofs.Making.{made_of}
use Rattle.fs_schedule.proofs.made.make.Goals as goal

pub returns : goal.returns
returns c =
    made_of c.args.n c.new-events.result c.add_joins.new.events c.add_dirs.new.events c.add_blocks.new.events
    c.new-events.ensures c.in_ok-add_joins.ensures c.in_ok-add_dirs.ensures c.in_ok-add_blocks.ensures
