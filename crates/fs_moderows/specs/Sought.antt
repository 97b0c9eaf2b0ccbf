-- Which rows are sought.
use Rattle.std.specs.Prelude.{ℕ, Bool, true, false, ◌==◌, ◌&&◌, List, Option, Some, None, is_some, if◌then◌else◌}
use Rattle.fs_field.specs.Conflict.{is_self}
use Rattle.fs_field.specs.Field.{same_field, file_of}
use Rattle.fs_field.specs.declared.row.Row.{Row}
use Rattle.fs_moderows.specs.Answer.{is_self_of_other}
use Rattle.fs_moderows.specs.Fixed.{is_other_of_other, stands_by, stands_by_each}
use Rattle.fs_moderows.specs.declared.sought.Sought.{Sought}
use Rattle.fs_moderows.specs.declared.sought.Sought.TheVariants.{SelfOf, SelfOfOther, OtherOfOther, Against, Resting, Kept}

abbrev pub passes : Sought → Row → Bool
passes (SelfOf file m session) row = is_self file.now m row.field && (row.session.0 == session.0)
passes (SelfOfOther file m session) row = is_self_of_other file.now m session row
passes (OtherOfOther file m session) row = is_other_of_other file.now m session row
passes (Against file m session fixed) row = stands_by fixed session file.now m row
passes (Resting file session each) row = stands_by_each each.now session file.now row
passes (Kept field) row = same_field row.field field.now && is_some row.lock

-- the file that all of them are on
abbrev pub file_sought : Sought → List ℕ
file_sought (SelfOf file m session) = file.now
file_sought (SelfOfOther file m session) = file.now
file_sought (OtherOfOther file m session) = file.now
file_sought (Against file m session fixed) = file.now
file_sought (Resting file session each) = file.now
file_sought (Kept field) = file_of field.now

-- a row that is found, where it passes
abbrev pub only : (Row → Bool) → Option Row → Option Row
only test None = None
only test (Some row) = if test row then Some row else None
