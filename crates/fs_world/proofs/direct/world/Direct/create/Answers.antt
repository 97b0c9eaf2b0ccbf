use Rattle.std.proofs.Common.{◌∙◌}
use Rattle.std.proofs.lemmas.Result.{IfOk-weaker, on_ok_weaker}
use Rattle.fs_world.specs.Direct.{candidate, create_answer}
use Rattle.fs_world.proofs.Creates.{IsCreated, created, left_by}
use Rattle.fs_world.proofs.direct.world.Direct.create.Goals as goal

parts : (c : goal.After-create_as) → IsCreated c.args.self.now.space c.args.self.now.next c.args.by c.args.dir.now
    c.in_ok-tried-in-Some.tried c.in_ok-plain.plain c.next-number.result
    (create_answer c.args.self.now.space c.args.self.now.next c.args.by c.args.dir.now c.args.name.now c.args.kind
    (candidate c.args.self.now.next c.args.dir.now))
parts c = created c.args.self.now.space c.args.self.now.next c.args.by c.args.dir.now c.args.name.now c.args.kind
    c.in_ok-tried-in-Some.tried c.in_ok-plain.plain c.in-Some.id c.in_ok-id.field-0 c.next-number.result
    c.in_ok-tried-in-Some.ensures c.in_ok-plain.ensures c.in-Some.is c.in_ok-id.ensures c.next-number.ensures

pub returns-in_ok-tried-in-Some-clause-op : goal.returns-in_ok-tried-in-Some-clause-op
returns-in_ok-tried-in-Some-clause-op c = IfOk-weaker c.create_as.result _ _ (λ d h. h ∙ (parts c).op) c.create_as.ensures.op

pub returns-in_ok-tried-in-Some-clause-reply : goal.returns-in_ok-tried-in-Some-clause-reply
returns-in_ok-tried-in-Some-clause-reply c = IfOk-weaker c.create_as.result _ _ (λ d h. h ∙ (parts c).reply) c.create_as.ensures.reply

pub returns-in_ok-tried-in-Some-clause-twin : goal.returns-in_ok-tried-in-Some-clause-twin
returns-in_ok-tried-in-Some-clause-twin c = IfOk-weaker c.create_as.result _ _ (λ d h. h ∙ (parts c).reply) c.create_as.ensures.twin

pub returns-in_ok-tried-in-Some-clause-world : goal.returns-in_ok-tried-in-Some-clause-world
returns-in_ok-tried-in-Some-clause-world c = on_ok_weaker c.create_as.result (λ h. h
    ∙ left_by c.args.self.now (create_answer c.args.self.now.space c.args.self.now.next c.args.by c.args.dir.now c.args.name.now
    c.args.kind (candidate c.args.self.now.next c.args.dir.now)) _ _ (parts c).space (parts c).next) c.create_as.ensures.world
