-- What stands at the servers, as far as sessions rely on it.
use Rattle.std.specs.Prelude.{ℕ, ◌≤◌, ◌==◌, List, if◌then◌else◌}
use Rattle.fs_ident.specs.declared.actor.LeaseNo.{LeaseNo}
use Rattle.fs_field.specs.declared.row.Row.{Row}
use Rattle.fs_msg.specs.declared.item.Item.{Item}
use Rattle.fs_record.specs.Records.{RecordMap}
use Rattle.fs_server.specs.declared.state.Server.{Server}
use Rattle.fs_txn.specs.Decided.{held_with}
use Rattle.fs_txn.specs.Grants.{Decided, effects_in}

-- all rows, the records of all files, those that are stored, how many leases each server gave and how many reaps it made, and the
-- journal; what is decided and on its way is in the records, and not yet in those that are stored
pub record Sight : Type 0 where
  pub rows : List Row
  pub records : RecordMap
  pub stored : RecordMap
  pub given : ℕ → ℕ
  pub reaps : ℕ → ℕ
  pub journal : List Item

-- how many leases each server gave, and how many reaps it made
pub record Counts : Type 0 where
  pub given : ℕ → ℕ
  pub reaps : ℕ → ℕ

-- one server's count, and those of the others
abbrev pub count_with : ℕ → ℕ → (ℕ → ℕ) → ℕ → ℕ
count_with me count others k = if k == me then count else others k

-- where one server has all rows and records
abbrev pub sight_of : Counts → Server → List Item → Sight
sight_of others s journal = record {
  rows = s.rows;
  records = s.records;
  stored = s.records;
  given = count_with s.me s.given others.given;
  reaps = count_with s.me s.reaps others.reaps;
  journal = journal;
}

-- with the effects that are decided and not applied yet
abbrev pub seen : List Decided → Server → Server
seen decided s = record s { records = held_with (effects_in decided) s.records }

-- where these are the records that are stored
abbrev pub sight_beside : RecordMap → Counts → Server → List Item → Sight
sight_beside stored others s journal = record (sight_of others s journal) { stored = stored }

-- where one server has all rows and records as they are stored, and these effects are decided
abbrev pub sight_with : Counts → List Decided → Server → List Item → Sight
sight_with others decided s journal = sight_beside s.records others (seen decided s) journal

-- its server gave the number
abbrev pub IsGiven : (ℕ → ℕ) → LeaseNo → Type 0
IsGiven given n = n.count ≤ given n.server
