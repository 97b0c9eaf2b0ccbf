use Rattle.std.proofs.Common.{◌≡◌, ◌<◌, ◌++◌, true, not, length, take, drop, arith, sym, ap, ◌∙◌}
use Rattle.std.specs.List.{filter}
use Rattle.fs_view.specs.declared.view_lease.ViewLease.{ViewLease}
use Rattle.fs_view.specs.ViewLease.{has_ended}
use Rattle.fs_view.proofs.Ending.{before_least, none_over, passed, same_there, within_removed}
use Rattle.fs_view.proofs.Found.{ended_free, found_gone}
use Rattle.fs_view.proofs.ends.lapse.Goals as goal

pub returns-then-now-leases-clause-live : goal.returns-then-now-leases-clause-live
returns-then-now-leases-clause-live c = sym (none_over c.args.now c.args.leases.now.least c.args.leases.now.kept.items (before_least c.args.now c.args.leases.now.least c.if-now-leases.true) c.requires.ends)

pub loop-at-preserved-then-has_ended : goal.loop-at-preserved-then-has_ended
loop-at-preserved-then-has_ended c =
    let ks = c.loop-at.leases.kept.items in
    let at = c.loop-at.at in
    let x = c.index-then-has_ended.result.now in
    let within : at < length ks = omega (arith, c.loop-at-test.true, c.len.ensures, c.loop-at.leases.kept.ok) in
    let over : has_ended c.args.now c.index.result.now.standing ≡ true = sym c.has_ended.ensures ∙ c.if-has_ended.true in
    let seen : x ≡ c.index.result.now = same_there ks at x c.index.result.now within c.index-then-has_ended.ensures c.index.ensures in
    let taken : c.remove.result ≡ c.index.result.now = same_there ks at c.remove.result c.index.result.now within c.remove.ensures.value c.index.ensures in
    record {
      shorter = omega (arith, c.remove.ensures.len, c.loop-at.invariant.shorter);
      capacity = c.remove.ensures.capacity ∙ c.loop-at.invariant.capacity;
      spare = omega (arith, c.shift_remove_index.ensures.room.0, c.loop-at.invariant.spare);
      within = let w = within_removed ks at within in omega (arith, w, ap length c.remove.ensures.items);
      kept =
          ap (λ js. take at js ++ filter (λ (k : ViewLease). not (has_ended c.args.now k.standing)) (drop at js)) c.remove.ensures.items
          ∙ passed (λ (k : ViewLease). not (has_ended c.args.now k.standing)) ks at c.remove.result within c.remove.ensures.value (ap (λ (k : ViewLease). not (has_ended c.args.now k.standing)) taken ∙ ap not over)
          ∙ c.loop-at.invariant.kept;
      found = found_gone ks _ c.loop-at.leases.numbers.keys _ c.loop-at.leases.index _ c.loop-at.leases.least at x within c.index-then-has_ended.ensures (ended_free c.args.now x.standing (ap (λ (k : ViewLease). has_ended c.args.now k.standing) seen ∙ over))
          c.take_off.ensures c.remove.ensures.items c.shift_remove_index.ensures.keys c.loop-at.invariant.found;
    }
