-- What is read of the rows that are not over.
use Rattle.std.specs.Prelude.{◌&&◌, not, List, map, is_some}
use Rattle.std.specs.List.{filter}
use Rattle.fs_ident.specs.declared.actor.LeaseNo.{LeaseNo}
use Rattle.fs_ident.specs.declared.actor.Session.{Session}
use Rattle.fs_field.specs.declared.field.Field.{Field}
use Rattle.fs_field.specs.declared.row.Row.{Row}
use Rattle.fs_field.specs.Field.{same_field}

-- the rows on the field that no transaction keeps
abbrev pub unlocked_rows_on : Field → List Row → List Row
unlocked_rows_on field rows = filter (λ row. same_field row.field field && not (is_some row.lock)) rows

-- the numbers and sessions of these rows
abbrev pub unlocked_on : Field → List Row → List (LeaseNo × Session)
unlocked_on field rows = map (λ row. (row.no, row.session)) (unlocked_rows_on field rows)
