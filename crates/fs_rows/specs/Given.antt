-- Which numbers of leases a server gave.
use Rattle.std.specs.Prelude.{◌≡◌, ◌≤◌, ℕ, List}
use Rattle.fs_field.specs.declared.row.Row.{Row}
use Rattle.fs_ident.specs.In.{In}

-- each row's number of this server is at most the count
abbrev pub AreGiven : ℕ → ℕ → List Row → Type 0
AreGiven me given rows = (row : Row) → In row rows → row.no.server ≡ me → row.no.count ≤ given
