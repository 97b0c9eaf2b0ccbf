-- What every table of rows is.
use Rattle.std.specs.Prelude.{◌≡◌, true, List}
use Rattle.fs_field.specs.declared.row.Row.{Row}
use Rattle.fs_ident.specs.In.{In}
use Rattle.fs_field.specs.Conflict.{NoPlainConflict}
use Rattle.fs_field.specs.Field.{tells_no_mode}
use Rattle.fs_field.specs.Table.{is_ordered}

-- numbers rise, no row is on what sessions tell of modes, and no two rows conflict
pub record IsTable (rows : List Row) : Type 0 where
  pub ordered : is_ordered rows ≡ true
  pub off_modes : (row : Row) → In row rows → tells_no_mode row.field ≡ true
  pub free : NoPlainConflict rows
