use Rattle.std.proofs.Common.{◌≡◌, ◌+◌, ◌∙◌, ℕ, true, false, ap, drop, get_or, subst, sym}
use Rattle.std.specs.List.{filter}
use Rattle.fs_ident.specs.declared.actor.PathNo.{PathNo}
use Rattle.fs_path.specs.Freed.{leaves}
use Rattle.fs_path.specs.Index.{are_rising, no_of_named}
use Rattle.fs_path.specs.Merged.{with_each}
use Rattle.fs_path.proofs.Freed.{passing_step}
use Rattle.fs_path.proofs.Merges.{once_rises}
use Rattle.fs_path.proofs.returning.put_leaving.Goals as goal
use Rattle.fs_path.proofs.returning.put_leaving.Goals.{then-leaves+in_ok-put_once, else-leaves}

pub loop-name-preserved : goal.loop-name-preserved
loop-name-preserved c =
    let held = c.args.held.now in
    let names = c.args.names.now in
    let at = c.loop-name.name-index in
    let none : ℕ × PathNo = (0, record { server = 0; count = 0 }) in
    elim c.if-leaves.branch [
      | then-leaves+in_ok-put_once w ↦
          let joined = w.list-is ∙ w.in_ok-put_once.ensures in
          record {
            rising = subst (λ ns. are_rising no_of_named ns ≡ true) (sym joined) (once_rises (get_or names at none) c.loop-name.list c.loop-name.invariant.rising);
            all =
                ap (with_each (filter (λ n. leaves n.1 held) (drop (at + 1) names))) joined
                ∙ passing_step (λ n. leaves n.1 held) names c.loop-name.list at none c.loop-name-test.true true (sym c.leaves.ensures ∙ w.if-leaves.true)
                ∙ c.loop-name.invariant.all;
          }
      | else-leaves w ↦ record {
        rising = subst (λ ns. are_rising no_of_named ns ≡ true) (sym w.list-is) c.loop-name.invariant.rising;
        all =
            ap (with_each (filter (λ n. leaves n.1 held) (drop (at + 1) names))) w.list-is
            ∙ passing_step (λ n. leaves n.1 held) names c.loop-name.list at none c.loop-name-test.true false (sym c.leaves.ensures ∙ w.if-leaves.false)
            ∙ c.loop-name.invariant.all;
      }
    ]
