use Rattle.std.proofs.Common.{◌<◌, get_or, arith}
use Rattle.std.proofs.lemmas.List.{get_or_default}
use Rattle.fs_window.proofs.Between.{gap_next}
use Rattle.fs_window.proofs.touched.gap_for.Goals as goal

pub loop-i-preserved : goal.loop-i-preserved
loop-i-preserved c =
    let p = get_or c.args.places.now c.loop-i.i 0 in
    let above : p < c.args.at = omega (arith, c.if-at-place.false, c.if-at-place-2.false) in
    gap_next c.args.places.now c.loop-i.i c.args.at p c.loop-i-test.true (get_or_default c.args.places.now c.loop-i.i 0 p c.loop-i-test.true) above c.loop-i.invariant
