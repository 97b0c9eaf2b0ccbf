use Rattle.std.proofs.Common.{◌∙◌, refl}
use Rattle.fs_window.specs.declared.was.Was.{Was}
use Rattle.fs_window.specs.LinkEnd.{LinkEnd}
use Rattle.fs_window.proofs.AsBefore.{can_hold, end_again, queues_again}
use Rattle.fs_window.proofs.window.Window.change_to.Goals as goal

pub returns-clause-was : goal.returns-clause-was
returns-clause-was c =
    let width = c.self.inside.width in
    let old : LinkEnd = record { width = width; acked = c.self.inside.acked; sent = c.self.inside.sent; waiting = c.self.inside.waiting; got = c.self.inside.got; kept = c.self.inside.kept } in
    let now : LinkEnd = record { width = width; acked = c.replace.new.dest; sent = c.replace-2.new.dest; waiting = c.make_change.new.queue; got = c.replace-3.new.dest; kept = c.make_change-2.new.queue } in
    let was : Was = record { acked = c.replace.result; sent = c.replace-2.result; got = c.replace-3.result; waiting = c.make_change.result; kept = c.make_change-2.result } in
    end_again was now old
    (queues_again was now old refl c.replace.ensures.value c.replace-2.ensures.value c.replace-3.ensures.value c.make_change.ensures.back c.make_change-2.ensures.back)
    (can_hold old c.self.invariant c.make_change.ensures.was_few)
    ∙ c.self.view_is
