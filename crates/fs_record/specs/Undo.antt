-- What brings records back to what they were before an effect.
use Rattle.std.specs.Prelude.{ℕ, List, [], ◌∷◌, Option, Some, None, option_map, is_some, if◌then◌else◌}
use Rattle.std.specs.FinMap.{get}
use Rattle.fs_field.specs.declared.effect.Effect.{Effect}
use Rattle.fs_field.specs.declared.effect.Effect.TheVariants.{SetChild, SetParent, NewNode, RemoveNode, AddHandle, RemoveHandle, SetInfo}
use Rattle.fs_model.specs.declared.node.Node.{Node}
use Rattle.fs_model.specs.Children.{Children, child_at, with_child}
use Rattle.fs_model.specs.Sound.{child_of, parent_of}
use Rattle.fs_model.specs.Step.{without_link, with_info}
use Rattle.fs_record.specs.declared.record.Record.{Record}
use Rattle.fs_record.specs.declared.undo.Part.{Part}
use Rattle.fs_record.specs.declared.undo.Part.TheVariants as part
use Rattle.fs_record.specs.declared.undo.Undo.{Undo}
use Rattle.fs_field.specs.After.{changed_file}
use Rattle.fs_record.specs.Applied.{records_after, with_at}
use Rattle.fs_record.specs.Records.{RecordMap, AreRecords, node_of}
use Rattle.fs_record.specs.ValueOf.{handles_of, info_of}

-- the name stands for the file, where it stands for any
abbrev pub with_child_again : Children → List ℕ → List ℕ → Children
with_child_again children name file = if is_some (child_at children name) then with_child children name file else children

-- the name stands for what it stood for
abbrev pub with_child_back : List ℕ → Option (List ℕ) → Node → Node
with_child_back name None n = without_link name n
with_child_back name (Some file) n = record n { children = with_child_again n.children name file }

-- the record with this node
abbrev pub with_node : (Node → Node) → Record → Record
with_node f r = record r { node = f r.node }

-- the record, or its absence, with the part as it was
abbrev pub with_part : Part → Option Record → Option Record
with_part (part.Child name was) o = option_map (with_node (with_child_back name was)) o
with_part (part.Parent was) o = option_map (with_node (λ n. record n { parent = was })) o
with_part (part.Handles was) o = option_map (with_node (λ n. record n { handles = was })) o
with_part (part.Info size stamp) o = option_map (with_node (with_info size stamp)) o
with_part (part.Whole None) o = None
with_part (part.Whole (Some was)) o = option_map (λ r. was) o

-- the part that the effect changes
abbrev pub part_of : Effect → Option Record → Part
part_of (SetChild dir name to) o = part.Child name (child_of (node_of o) name)
part_of (SetParent file dir name) o = part.Parent (parent_of (node_of o))
part_of (NewNode file kind dir name) o = part.Whole o
part_of (RemoveNode file) o = part.Whole o
part_of (AddHandle file session h modes) o = part.Handles (handles_of (node_of o))
part_of (RemoveHandle file session h) o = part.Handles (handles_of (node_of o))
part_of (SetInfo file size stamp) o = part.Info (info_of (node_of o)).0 (info_of (node_of o)).1

-- what undoes the effect
abbrev pub undo_of : Effect → RecordMap → Undo
undo_of e m = record { file = changed_file e; was = part_of e (get m (changed_file e)) }

-- the records with the part of the file as it was
abbrev pub undone : Undo → RecordMap → RecordMap
undone u m = with_at m u.file (with_part u.was (get m u.file))

-- the records with all undone, the last first
abbrev pub undone_all : List Undo → RecordMap → RecordMap
undone_all [] m = m
undone_all (u ∷ us) m = undone u (undone_all us m)

-- what undoes the effects
abbrev pub undos_of : RecordMap → List Effect → List Undo
undos_of m [] = []
undos_of m (e ∷ es) = undo_of e m ∷ undos_of (records_after m e) es

-- they are records before each that is undone
abbrev pub AreRecordsBack : List Undo → RecordMap → Type 0
AreRecordsBack [] m = AreRecords m
AreRecordsBack (u ∷ us) m = AreRecordsBack us m × AreRecords (undone_all (u ∷ us) m)
