use Rattle.std.proofs.Common.{refl}
use Rattle.fs_field.specs.Table.{is_live}
use Rattle.fs_rows.proofs.Goes.{locked_step, locked_all}
use Rattle.fs_rows.proofs.moving.least_lock.Goals as goal
use Rattle.fs_rows.proofs.moving.least_lock.Goals.{then-is_live, else-is_live}

pub loop-row-preserved : goal.loop-row-preserved
loop-row-preserved c =
    locked_step c.args.prefix.now c.args.map.now c.args.me c.loop-row.least c.if-is_live.least _ (is_live c.args.now c.args.skew) c.args.rows.now c.loop-row.row-index c.row-item.result c.loop-row-test.true c.row-item.is
    (elim c.if-is_live.branch [
      | then-is_live w ↦ rw (w.least-is, w.least_of-least.ensures, w.lock_below.ensures, ← c.is_live.ensures, w.if-is_live.true) refl
      | else-is_live w ↦ rw (w.least-is, ← c.is_live.ensures, w.if-is_live.false) refl
    ])
    c.loop-row.invariant

pub returns : goal.returns
returns c = locked_all c.args.prefix.now c.args.map.now c.args.me c.loop-row.least _ (is_live c.args.now c.args.skew) c.args.rows.now c.loop-row.row-index c.loop-row-test.false c.loop-row.invariant
