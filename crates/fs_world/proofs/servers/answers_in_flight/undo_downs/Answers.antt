use Rattle.std.proofs.Common.{◌≡◌, ℕ, ◌+◌, ◌-◌, ◌<◌, length, take, ap, ◌∙◌, arith}
use Rattle.fs_world.specs.Served.{with_downs}
use Rattle.fs_world.proofs.AllDowns.{downs_more}
use Rattle.fs_world.proofs.servers.answers_in_flight.undo_downs.Goals as goal

pub loop-left-preserved : goal.loop-left-preserved
loop-left-preserved c =
    let send = c.args.send.now in
    let rest = c.loop-left.left - 1 in
    let all : c.loop-left.left ≡ rest + 1 = omega arith in
    let below : rest < length send = omega arith in
    record {
      within = omega arith;
      sessions = λ before begun. c.undo_down.ensures (with_downs c.args.k (take rest send) before)
          (c.loop-left.invariant.sessions before begun
          ∙ ap (λ (n : ℕ). with_downs c.args.k (take n send) before) all
          ∙ downs_more c.args.k send rest c.index-send-left.result before below c.index-send-left.is);
    }
