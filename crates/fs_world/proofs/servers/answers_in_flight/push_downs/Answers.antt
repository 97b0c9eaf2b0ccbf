use Rattle.std.proofs.Common.{ap, sym, ◌∙◌, arith}
use Rattle.fs_world.specs.Served.{with_down}
use Rattle.fs_world.proofs.AllDowns.{downs_more}
use Rattle.fs_world.proofs.servers.answers_in_flight.push_downs.Goals as goal

pub loop-pushed-preserved : goal.loop-pushed-preserved
loop-pushed-preserved c = record {
  within = omega arith;
  sessions = c.in-Ok.ensures.ok
      ∙ ap (with_down c.args.k c.index-send-pushed.result) c.loop-pushed.invariant.sessions
      ∙ sym (downs_more c.args.k c.args.send.now c.loop-pushed.pushed c.index-send-pushed.result c.args.sessions.now
      c.loop-pushed-test.true c.index-send-pushed.is);
}
