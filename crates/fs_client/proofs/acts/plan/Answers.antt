use Rattle.fs_client.proofs.Planning.{act_is, act_can, act_spent, act_only}
use Rattle.fs_client.proofs.acts.plan.Goals as goal

pub returns : goal.returns
returns c = record {
  plan = act_is c.args.now c.args.op.now c.args.client.now c.at-at.result c.requires.client c.requires.reading c.at-at.ensures c.act.result c.act.ensures.plan;
  can = act_can c.args.now c.args.op.now c.args.client.now c.at-at.result c.requires.client c.requires.reading c.at-at.ensures c.act.result c.act.ensures.plan c.act.ensures.can;
  spent = act_spent c.args.now c.args.op.now c.args.client.now c.at-at.result c.requires.client c.requires.reading c.at-at.ensures c.act.result c.act.ensures.spent;
  only = act_only c.args.now c.args.op.now c.args.client.now c.at-at.result c.requires.client c.requires.reading c.at-at.ensures c.act.result c.act.ensures.plan c.act.ensures.can c.act.ensures.spent;
}
