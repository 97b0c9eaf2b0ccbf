-- The records, and the nodes, after an effect.
use Rattle.std.specs.Prelude.{ℕ, Bool, true, false, not, ◌||◌, List, [], ◌∷◌, Option, Some, None, option_map, is_some}
use Rattle.std.specs.FinMap.{FinMap, get, insert, remove}
use Rattle.std.specs.Ordering.{nat_cmp}
use Rattle.std.specs.Cmp.Lexicographic.{slice_cmp}
use Rattle.fs_ident.specs.declared.actor.Session.{Session}
use Rattle.fs_modes.specs.declared.modes.Modes.{Modes}
use Rattle.fs_field.specs.After.{changed_file}
use Rattle.fs_field.specs.declared.effect.Effect.{Effect}
use Rattle.fs_field.specs.declared.effect.Effect.TheVariants.{SetChild, SetParent, NewNode, RemoveNode, AddHandle, RemoveHandle, SetInfo}
use Rattle.fs_model.specs.declared.node.Node.{Node}
use Rattle.fs_model.specs.Namespace.{NodeMap, fresh_node}
use Rattle.fs_model.specs.Step.{with_link, without_link, at_place, with_info, with_open, without_open}
use Rattle.fs_record.specs.declared.record.Record.{Record}
use Rattle.fs_record.specs.Records.{RecordMap, node_of, next_of}

-- the name stands for the file, or for none
abbrev pub with_link_to : List ℕ → Option (List ℕ) → Node → Node
with_link_to name None = without_link name
with_link_to name (Some file) = with_link name file

-- the session has the file open under the handle, and has nothing else under it
abbrev pub with_only_open : Session → ℕ → Modes → Node → Node
with_only_open session h modes n = with_open session h modes (without_open session h n)

-- what the effect makes of the node of its file, or of its absence
abbrev pub node_change : Effect → Option Node → Option Node
node_change (SetChild dir name to) o = option_map (with_link_to name to) o
node_change (SetParent file dir name) o = option_map (at_place dir name) o
node_change (NewNode file kind dir name) o = Some (fresh_node kind (Some (dir, name)))
node_change (RemoveNode file) o = None
node_change (AddHandle file session h modes) o = option_map (with_only_open session h modes) o
node_change (RemoveHandle file session h) o = option_map (without_open session h) o
node_change (SetInfo file size stamp) o = option_map (with_info size stamp) o

-- what the effect makes of the record of its file: its node is changed, and its next number stays
abbrev pub record_change : Effect → Option Record → Option Record
record_change e o = option_map (λ n. record { node = n; next = next_of o }) (node_change e (node_of o))

-- the map where this stands at the identifier, or nothing
abbrev pub with_at : {X : Type 0} → FinMap (slice_cmp nat_cmp) X → List ℕ → Option X → FinMap (slice_cmp nat_cmp) X
with_at m id None = remove m id
with_at m id (Some x) = insert m id x

-- the records after the effect
abbrev pub records_after : RecordMap → Effect → RecordMap
records_after m e = with_at m (changed_file e) (record_change e (get m (changed_file e)))

-- the records after the effects, one after another
abbrev pub records_after_all : RecordMap → List Effect → RecordMap
records_after_all m [] = m
records_after_all m (e ∷ es) = records_after_all (records_after m e) es

-- the nodes after the effect
abbrev pub nodes_after : NodeMap → Effect → NodeMap
nodes_after m e = with_at m (changed_file e) (node_change e (get m (changed_file e)))

-- the nodes after the effects, one after the other
abbrev pub nodes_after_all : NodeMap → List Effect → NodeMap
nodes_after_all m [] = m
nodes_after_all m (e ∷ es) = nodes_after_all (nodes_after m e) es

-- a file begins to live
abbrev pub is_birth : Effect → Bool
is_birth (NewNode file kind dir name) = true
is_birth e = false

-- the effect has its file here: the file has a record, or begins to live
abbrev pub has_target : RecordMap → Effect → Bool
has_target m e = is_birth e || is_some (get m (changed_file e))

-- it can be taken back without memory: it takes neither a file nor a name away
abbrev pub is_undoable : Effect → Bool
is_undoable (SetChild dir name None) = false
is_undoable (RemoveNode file) = false
is_undoable e = true

-- it only takes a file or a name away, which wants no memory
abbrev pub takes_away : Effect → Bool
takes_away e = not (is_undoable e)
