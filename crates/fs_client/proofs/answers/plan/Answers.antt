use Rattle.fs_client.proofs.Planning.{answer_is, answer_can}
use Rattle.fs_client.proofs.answers.plan.Goals as goal

pub returns : goal.returns
returns c = record {
  plan = answer_is c.args.now c.args.from c.args.a.now c.args.client.now c.at-at.result c.answer.result c.at-at.ensures c.answer.ensures.plan;
  can = answer_can c.args.now c.args.from c.args.a.now c.args.client.now c.at-at.result c.answer.result c.requires.client c.requires.reading c.at-at.ensures c.answer.ensures.plan c.answer.ensures.can;
}
