-- The journal as one run of the namespace.
use Rattle.std.specs.Prelude.{List}
use Rattle.fs_model.specs.Namespace.{first_space}
use Rattle.fs_model.specs.Sound.{IsSound}
use Rattle.fs_msg.specs.Journal.{IsSerialRun}
use Rattle.fs_msg.specs.declared.item.Item.{Item}
use Rattle.fs_record.specs.Records.{RecordMap, AreRecords, nodes_of}

-- the journal is a serial run from the first space to the nodes of the records
abbrev pub JournalSerial : List Item → RecordMap → Type 0
JournalSerial journal m = IsSerialRun first_space journal (nodes_of m)

-- the nodes are a sound space, and each record is one
pub record AreSound (m : RecordMap) : Type 0 where
  pub space : IsSound (nodes_of m)
  pub records : AreRecords m
