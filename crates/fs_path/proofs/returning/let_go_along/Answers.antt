use Rattle.std.proofs.Common.{ap, get_or, not, sym, ◌∙◌}
use Rattle.std.specs.List.{filter, list_any}
use Rattle.fs_path.specs.Freed.{leaves_at}
use Rattle.fs_path.specs.Leases.{goes_over}
use Rattle.fs_path.proofs.Freed.{without_more, without_none, without_same}
use Rattle.fs_path.proofs.returning.let_go_along.Goals as goal
use Rattle.fs_path.proofs.returning.let_go_along.Goals.{then-not-any_over, else-not-any_over}

pub loop-file-init : goal.loop-file-init
loop-file-init c = record {
  had = c.requires.had;
  whole = c.requires.whole;
  left = without_none c.args.issued.now c.args.held.now.items;
}

pub loop-file-preserved : goal.loop-file-preserved
loop-file-preserved c =
    let over = ap (λ f. list_any (goes_over f) c.args.issued.now) (sym c.file-item.is) ∙ sym c.any_over.ensures in
    elim c.if-not-any_over.branch [
      | then-not-any_over w ↦ rw (w.held-is, w.had-is) (record {
        had = w.let_go_at.ensures.had;
        whole = w.let_go_at.ensures.whole;
        left =
            w.let_go_at.ensures.held
            ∙ ap (λ f. filter (λ h. not (leaves_at f h)) c.loop-file.held.items) c.file-item.is
            ∙ ap (filter (λ h. not (leaves_at (get_or c.args.files.now c.loop-file.file-index c.file-item.result) h))) c.loop-file.invariant.left
            ∙ without_more c.args.issued.now c.args.files.now c.loop-file.file-index c.file-item.result c.args.held.now.items c.loop-file-test.true (over ∙ w.if-not-any_over.true);
      })
      | else-not-any_over w ↦ rw (w.held-is, w.had-is) (record {
        had = c.loop-file.invariant.had;
        whole = c.loop-file.invariant.whole;
        left = c.loop-file.invariant.left ∙ without_same c.args.issued.now c.args.files.now c.loop-file.file-index c.file-item.result c.args.held.now.items c.loop-file-test.true (over ∙ w.if-not-any_over.false);
      })
    ]
