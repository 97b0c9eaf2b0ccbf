-- The numbers of a server's path leases.
use Rattle.std.specs.Prelude.{ℕ, ◌+◌, nat_lt, Option, Some, None, if◌then◌else◌}
use Rattle.fs_ident.specs.declared.actor.PathNo.{PathNo}

-- the number after so many; none where they are spent
abbrev pub next_path : ℕ → ℕ → Option PathNo
next_path me given = if nat_lt given 0xffff_ffff_ffff_ffff then Some (record { server = me; count = given + 1 }) else None
