use Rattle.std.proofs.Common.{◌+◌, map, drop, ap, sym, ◌∙◌, arith}
use Rattle.fs_field.specs.Table.{locked_row}
use Rattle.fs_field.specs.declared.used.Use.{Use}
use Rattle.fs_txn.specs.Preparing.{rows_locked}
use Rattle.fs_txn.proofs.Locking.{lock_end, lock_step}
use Rattle.fs_server.proofs.commits.lock_all.Goals as goal

pub loop-used-preserved : goal.loop-used-preserved
loop-used-preserved c =
    let i = c.loop-used.used-index in
    let us = c.args.uses.now in
    let txn = c.args.txn in
    ap (rows_locked txn (drop (i + 1) us)) c.lock.ensures
    ∙ ap (λ (u : Use). rows_locked txn (drop (i + 1) us) (map (locked_row u.no txn) c.loop-used.rows)) c.used-item.is
    ∙ sym (lock_step txn us i c.used-item.result c.loop-used.rows (omega arith))
    ∙ c.loop-used.invariant

pub returns : goal.returns
returns c = sym (lock_end c.args.txn c.args.uses.now c.loop-used.used-index c.loop-used.rows (omega arith)) ∙ c.loop-used.invariant
