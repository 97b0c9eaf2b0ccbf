-- Files that are gone: what was told of their size and stamp is of no matter any more.
use Rattle.std.specs.Prelude.{◌≡◌, List, None}
use Rattle.std.specs.FinMap.{get}
use Rattle.fs_field.specs.declared.field.Field.{Field}
use Rattle.fs_field.specs.declared.field.Field.TheVariants.{Info}
use Rattle.fs_msg.specs.declared.item.Item.{Item}
use Rattle.fs_record.specs.Records.{RecordMap, node_of}
use Rattle.fs_serial.specs.Fresh.{IsMade}

-- the field is size and stamp of a file that was made and lives no more
abbrev pub IsOfGone : RecordMap → List Item → Field → Type 0
IsOfGone m journal (Info file) = IsMade journal file × (node_of (get m file) ≡ None)
IsOfGone m journal field = ⊥
