use Rattle.std.proofs.Common.{◌≡◌, ap, ◌∙◌}
use Rattle.fs_ident.specs.declared.actor.Peer.TheVariants.{Client}
use Rattle.fs_model.specs.declared.op.Op.{Op}
use Rattle.fs_model.specs.declared.reply.Reply.{Reply}
use Rattle.fs_msg.specs.declared.item.Item.{Item}
use Rattle.fs_world.specs.Direct.{Answer, answer, item_of}
use Rattle.fs_world.proofs.Creates.{carried_by}
use Rattle.fs_world.proofs.direct.world.Direct.answer.Goals as goal

pub returns-in-Ok-clause-world : goal.returns-in-Ok-clause-world
returns-in-Ok-clause-world c =
    let a : Answer = answer c.args.self.now.space c.args.self.now.next c.args.by c.args.op.now in
    let x : Item = record { by = Client c.args.by; n = c.args.n; op = c.in-Ok.field-0.op; reply = c.in-Ok.field-0.reply } in
    let item : x ≡ item_of c.args.by c.args.n a =
    ap (λ (o : Op). let i : Item = record x { op = o } in i) c.in-Ok.ensures.op ∙ ap (λ (r : Reply). let i : Item =
    record { by = Client c.args.by; n = c.args.n; op = a.op; reply = r } in i) c.in-Ok.ensures.reply in
    carried_by c.args.self.now c.args.by c.args.n a c.carry_out.new.self c.push.new.self c.blank.result x c.len-at.result c.put.new.journal
    c.in-Ok.ensures.world c.in_ok-push.ensures.ok c.len-at.ensures item c.put.ensures
