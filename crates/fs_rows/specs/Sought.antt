-- Which rows are sought by their numbers.
use Rattle.std.specs.Prelude.{◌==◌, not, ℕ, List, true, false, Bool, ◌&&◌, Option, Some, None, is_some, if◌then◌else◌}
use Rattle.fs_field.specs.Conflict.{stands_against}
use Rattle.fs_field.specs.Field.{same_field}
use Rattle.fs_field.specs.Table.{no_before}
use Rattle.fs_field.specs.declared.field.Field.{Field}
use Rattle.fs_field.specs.declared.field.Field.TheVariants.{Child, Names}
use Rattle.fs_field.specs.declared.row.Row.{Row}
use Rattle.fs_rows.specs.declared.seek.Sought.{Sought}
use Rattle.fs_rows.specs.declared.seek.Sought.TheVariants.{Lock, Against, Of, On, Free}

abbrev pub passes : Sought → Row → Bool
passes (Lock field) row = same_field row.field field.now && is_some row.lock
passes (Against session field kind) row = stands_against session field.now kind row
passes (Of session field) row = same_field row.field field.now && (row.session.0 == session.0)
passes (On field) row = same_field row.field field.now
passes (Free field) row = same_field row.field field.now && not (is_some row.lock)

-- the one with the lesser number
abbrev pub lesser_row : Option Row → Option Row → Option Row
lesser_row None b = b
lesser_row (Some a) None = Some a
lesser_row (Some a) (Some b) = if no_before b.no a.no then Some b else Some a

-- the names of a directory
abbrev pub is_list : Field → Bool
is_list (Names d) = true
is_list field = false

-- the directory of a child
abbrev pub directory_of : Field → Option (List ℕ)
directory_of (Child d name) = Some d
directory_of field = None
