-- The numbers of a server's transactions.
use Rattle.std.specs.Prelude.{ℕ, ◌+◌, nat_lt, Option, Some, None, if◌then◌else◌}
use Rattle.fs_ident.specs.declared.actor.TxnNo.{TxnNo}

-- the number after so many; none where they are spent
abbrev pub next_txn : ℕ → ℕ → Option TxnNo
next_txn me given = if nat_lt given 0xffff_ffff_ffff_ffff then Some (record { server = me; count = given + 1 }) else None
