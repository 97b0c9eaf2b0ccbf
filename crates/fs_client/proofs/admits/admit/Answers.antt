use Rattle.std.proofs.Common.{List, length, ap, ◌∙◌, take, drop}
use Rattle.fs_msg.specs.declared.entry.Entry.{Entry}
use Rattle.fs_view.specs.View.{View}
use Rattle.fs_client.specs.Admitted.{freed}
use Rattle.fs_client.specs.Client.{begun}
use Rattle.fs_client.proofs.AdmittedFront.{shipped_is}
use Rattle.fs_client.proofs.admits.admit.Goals as goal

pub returns-clause-ok : goal.returns-clause-ok
returns-clause-ok c =
    shipped_is c.args.now c.args.count (length c.front-some.result.now) c.args.over c.args.client.now c.begin.new.client c.free_all.new.view c.drop_front.new.log.items
    (ap length (c.front-some.ensures ∙ ap (take c.args.count) c.as_slice.ensures))
    (c.begin.ensures ∙ ap (λ (w : View). begun c.args.now (record c.args.client.now { view = w })) c.in_ok-admit_front.ensures.ok)
    (c.free_all.ensures ∙ ap (λ (es : List Entry). freed es c.begin.new.client.view) (c.front.ensures ∙ ap (take c.args.count) c.as_slice-2.ensures))
    (c.drop_front.ensures ∙ ap (drop c.args.count) c.items_mut.ensures.value)
