use Rattle.std.proofs.Common.{◌+◌, cond, not, map, drop, ap, sym, ◌∙◌, arith}
use Rattle.fs_field.specs.Field.{tells_no_mode}
use Rattle.fs_field.specs.Table.{locked_row}
use Rattle.fs_field.specs.declared.used.Use.{Use}
use Rattle.fs_txn.specs.Preparing.{rows_locked, uses_of_modes, uses_off}
use Rattle.fs_txn.proofs.Locking.{mode_end, mode_step, off_end, off_step}
use Rattle.fs_txn.proofs.preparing.lock_all.Goals as goal

pub loop-used-preserved : goal.loop-used-preserved
loop-used-preserved c =
    let i = c.loop-used.used-index in
    let us = c.args.uses.now in
    let txn = c.args.txn in
    record {
      off = ap (rows_locked txn (uses_off (drop (i + 1) us))) c.lock_one.ensures.rows
          ∙ ap (λ (u : Use). rows_locked txn (uses_off (drop (i + 1) us)) (cond (tells_no_mode u.field) (map (locked_row u.no txn) c.loop-used.rows) c.loop-used.rows)) c.used-item.is
          ∙ sym (off_step txn us i c.used-item.result c.loop-used.rows (omega arith))
          ∙ c.loop-used.invariant.off;
      on = ap (rows_locked txn (uses_of_modes (drop (i + 1) us))) c.lock_one.ensures.modes
          ∙ ap (λ (u : Use). rows_locked txn (uses_of_modes (drop (i + 1) us)) (cond (not (tells_no_mode u.field)) (map (locked_row u.no txn) c.loop-used.modes) c.loop-used.modes)) c.used-item.is
          ∙ sym (mode_step txn us i c.used-item.result c.loop-used.modes (omega arith))
          ∙ c.loop-used.invariant.on;
    }

pub returns-clause-rows : goal.returns-clause-rows
returns-clause-rows c = sym (off_end c.args.txn c.args.uses.now c.loop-used.used-index c.loop-used.rows (omega arith)) ∙ c.loop-used.invariant.off

pub returns-clause-modes : goal.returns-clause-modes
returns-clause-modes c = sym (mode_end c.args.txn c.args.uses.now c.loop-used.used-index c.loop-used.modes (omega arith)) ∙ c.loop-used.invariant.on
