use Rattle.std.proofs.Common.{◌≡◌, ◌∷◌, [], ◌++◌, rules}
use Rattle.fs_window.proofs.Undone.{undone_next, ordered_restored}
use Rattle.fs_window.proofs.undo.restore_all.Goals as goal

pub loop-step-preserved : goal.loop-step-preserved
loop-step-preserved c =
    let own = c.loop-step.invariant in
    let all : c.loop-step.steps.items ≡ c.pop.new.self.items ++ c.in-Some.step ∷ [] = search rules in
    record {
      undone = undone_next c.loop-step.steps.items c.pop.new.self.items c.in-Some.step c.loop-step.links c.restore.new.links _ all c.restore.ensures own.undone;
      ordered = rw c.restore.ensures (ordered_restored c.loop-step.links c.in-Some.step own.ordered);
    }
