use Rattle.std.proofs.Common.{◌∙◌, ap}
use Rattle.fs_model.specs.declared.op.Op.{Op}
use Rattle.fs_schedule.specs.Made.{block, creates_dir, session, with_events}
use Rattle.fs_schedule.proofs.Making.{each_none, each_more}
use Rattle.fs_schedule.proofs.made.add_dirs.Goals as goal

pub loop-k-init : goal.loop-k-init
loop-k-init c = each_none c.args.events.now (λ k. block (session 1) (creates_dir k))

pub loop-k-preserved : goal.loop-k-preserved
loop-k-preserved c = each_more (λ k. block (session 1) (creates_dir k)) c.loop-k.k c.args.events.now c.loop-k.events c.add_block.new.events c.loop-k.invariant (c.in_ok-add_block.ensures ∙ ap (λ (o : Op). with_events c.loop-k.events (block (session 1) o)) c.in_ok-create_dir.ensures)
