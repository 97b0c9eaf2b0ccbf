-- The records that a server has: a finite map from identifiers to records.
use Rattle.std.specs.Prelude.{ℕ, ◌≤◌, ◌^◌, List, [], map, Option, Some, None, option_map, IfSome, Bool, if◌then◌else◌}
use Rattle.std.specs.FinMap.{FinMap, get, insert, empty, entries, from_entries}
use Rattle.std.specs.Ordering.{nat_cmp}
use Rattle.std.specs.Cmp.Lexicographic.{slice_cmp}
use Rattle.fs_model.specs.declared.node.Node.{Node}
use Rattle.fs_model.specs.Namespace.{NodeMap, IsInOrder, root_node}
use Rattle.fs_record.specs.declared.record.Record.{Record}

abbrev pub RecordMap : Type 0
RecordMap = FinMap (slice_cmp nat_cmp) Record

-- the node's lists are in order, and the next number is from 1 to 2^32
pub record IsRecord (r : Record) : Type 0 where
  pub in_order : IsInOrder r.node
  pub least : 1 ≤ r.next
  pub most : r.next ≤ 2 ^ 32

-- each record is one
abbrev pub AreRecords : RecordMap → Type 0
AreRecords m = (id : List ℕ) → IfSome (get m id) IsRecord

-- the root directory, with nothing in it and no number given
abbrev pub root_record : Record
root_record = record { node = root_node; next = 1 }

-- the root directory alone, or no record
abbrev pub first_records : Bool → RecordMap
first_records first = if first then insert empty [] root_record else empty

abbrev pub node_of : Option Record → Option Node
node_of o = option_map (λ r. r.node) o

-- the next number of a file; 1 where it has no record
abbrev pub next_of : Option Record → ℕ
next_of None = 1
next_of (Some r) = r.next

-- the records without their next numbers
abbrev pub nodes_of : RecordMap → NodeMap
nodes_of m = from_entries (map (λ e. (e.0, e.1.node)) (entries m))
