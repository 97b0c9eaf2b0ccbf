-- How long leases last.
use Rattle.std.specs.Prelude.{ℕ, ◌≤◌}
use Rattle.fs_msg.specs.declared.limits.TheConstants.{LONGEST}

-- a term in milliseconds
abbrev pub IsTerm : ℕ → Type 0
IsTerm term = (1 ≤ term) × (term ≤ LONGEST)
