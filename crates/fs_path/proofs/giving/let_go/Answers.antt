use Rattle.std.proofs.Common.{◌<◌, ◌++◌, not, length, take, drop, arith, sym, ap, ◌∙◌}
use Rattle.std.specs.List.{filter}
use Rattle.fs_path.specs.Asked.{asks}
use Rattle.fs_path.specs.Returns.{goes_back}
use Rattle.fs_path.proofs.Own.{passed, within_removed}
use Rattle.fs_path.proofs.giving.let_go.Goals as goal

pub loop-at-preserved-then-frees : goal.loop-at-preserved-then-frees
loop-at-preserved-then-frees c =
    let held = c.loop-at.held.items in
    let at = c.loop-at.at in
    let inside : at < length held = omega (arith, c.loop-at-test.true, c.len.ensures, c.loop-at.held.ok) in
    let freed = sym c.frees.ensures ∙ c.if-frees.true in
    record {
      within = let w = within_removed held at inside in omega (arith, w, ap length c.drop_held.ensures.held);
      kept =
          ap (λ hs. take at hs ++ filter (λ h. not (goes_back (asks c.args.asked.now) c.args.issued.now h)) (drop at hs)) c.drop_held.ensures.held
          ∙ passed (λ h. not (goes_back (asks c.args.asked.now) c.args.issued.now h)) held at c.index.result.now inside c.index.ensures (ap not freed)
          ∙ c.loop-at.invariant.kept;
      had = c.drop_held.ensures.had;
    }
