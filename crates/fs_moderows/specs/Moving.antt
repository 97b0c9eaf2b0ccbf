-- Rows on modes that come from another server.
use Rattle.std.specs.Prelude.{ℕ, Bool, not, ◌&&◌, List, [], ◌∷◌, if◌then◌else◌}
use Rattle.std.specs.List.{list_any, list_all}
use Rattle.fs_ident.specs.Ident.{same}
use Rattle.fs_ident.specs.declared.actor.Session.{Session}
use Rattle.fs_field.specs.Conflict.{Selves, conflicts}
use Rattle.fs_field.specs.Field.{tells_no_mode}
use Rattle.fs_field.specs.declared.row.Row.{Row}
use Rattle.fs_modes.specs.declared.modes.Modes.{Modes}
use Rattle.fs_rows.specs.Granted.{with_rows}
use Rattle.fs_rows.specs.Moving.{are_new}

-- the sessions with handles on each of these files; a file that is not listed has none
abbrev pub selves_listed : List (List ℕ × List (Session × Modes)) → Selves
selves_listed [] file = []
selves_listed (e ∷ es) file = if same e.0 file then e.1 else selves_listed es file

-- the row conflicts with none of these
abbrev pub is_free : Selves → List Row → Row → Bool
is_free selves rows row = not (list_any (conflicts selves rows row) rows)

-- the numbers are new, and where all are in one table none that came conflicts with any
abbrev pub fits : Selves → List Row → List Row → Bool
fits selves rows more = are_new rows more && list_all (is_free selves (with_rows more rows)) more

-- each is on what sessions tell of a mode
abbrev pub are_on_modes : List Row → Bool
are_on_modes rows = list_all (λ r. not (tells_no_mode r.field)) rows
