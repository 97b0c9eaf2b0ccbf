use Rattle.std.proofs.Common.{◌≡◌, ap, subst}
use Rattle.fs_window.specs.LinkEnd.{LinkEnd, IsLinkEnd}
use Rattle.fs_window.proofs.AsBefore.{taken_so}
use Rattle.fs_window.proofs.window.Window.take_with_undo.Goals as goal

pub change_to-requires : goal.change_to-requires
change_to-requires c =
    let own : IsLinkEnd c.args.self.now = subst (λ (l : LinkEnd). IsLinkEnd l) c.self.view_is c.self.invariant in
    let sent : c.change_to.inside.sent ≡ c.args.self.now.sent = ap (λ (l : LinkEnd). l.sent) c.change_to.view_is in
    record {
      can_be = rw (sent, c.new.ensures) (taken_so c.args.self.now c.args.p.now c.acked_after-acked.result c.done_count.result c.saturating_add-got.result c.in_ok-slots.slots own c.done_count.ensures.few
          c.acked_after-acked.ensures.rises c.acked_after-acked.ensures.within c.done_count.ensures.count c.in_ok-slots.ensures.change);
    }
