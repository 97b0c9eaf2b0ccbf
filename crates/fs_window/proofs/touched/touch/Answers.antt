use Rattle.std.proofs.Common.{sym, subst}
use Rattle.std.specs.FinMap.Entries.{put}
use Rattle.fs_window.specs.declared.touched.Touched.{Touched}
use Rattle.fs_window.specs.Peers.{peer_cmp}
use Rattle.fs_window.specs.Touched.{OthersAreSettled}
use Rattle.fs_window.proofs.Settled.{settled_here, settled_changed}
use Rattle.fs_window.proofs.touched.touch.Goals as goal

pub returns-in-Ok-clause-same : goal.returns-in-Ok-clause-same
returns-in-Ok-clause-same c = λ h none.
    subst (λ (t : Touched). OthersAreSettled t c.args.links.now) (sym (c.touch_at.ensures none))
    (settled_here c.args.links.now c.args.touched.now.all c.args.touched.now.places c.in-Ok.at c.in-Ok.ensures.found.within h) none

pub returns-in-Ok-clause-changed : goal.returns-in-Ok-clause-changed
returns-in-Ok-clause-changed c = λ l h none.
    subst (λ (t : Touched). OthersAreSettled t (put peer_cmp c.args.peer l c.args.links.now)) (sym (c.touch_at.ensures none))
    (settled_changed c.args.links.now c.args.peer c.in-Ok.at c.args.touched.now.all c.args.touched.now.places l c.in-Ok.ensures.found h) none
