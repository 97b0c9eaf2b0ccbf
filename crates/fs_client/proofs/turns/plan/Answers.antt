use Rattle.fs_client.proofs.Planning.{turn_is, turn_can}
use Rattle.fs_client.proofs.turns.plan.Goals as goal

pub returns : goal.returns
returns c = record {
  plan = turn_is c.args.now c.args.client.now c.at-at.result c.turn.result c.at-at.ensures c.turn.ensures.plan;
  can = turn_can c.args.now c.args.client.now c.at-at.result c.turn.result c.requires.client c.requires.reading c.at-at.ensures c.turn.ensures.plan c.turn.ensures.can;
}
