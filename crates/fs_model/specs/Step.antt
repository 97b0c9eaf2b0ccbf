-- The step of the namespace: for each operation the first reply whose condition holds, and the space afterwards.
use Rattle.std.specs.Prelude.{ℕ, Bool, true, false, ◌&&◌, ◌==◌, ◌+◌, not, List, [], ◌∷◌, length, take, Option, Some, None, is_some, nat_eq, if◌then◌else◌}
use Rattle.std.specs.FinMap.{get, insert, remove}
use Rattle.std.specs.Cmp.Lexicographic.{pointwise}
use Rattle.fs_ident.specs.declared.actor.Session.{Session}
use Rattle.fs_ident.specs.declared.kind.Kind.{Kind}
use Rattle.fs_ident.specs.declared.kind.Kind.TheVariants.{File, Dir}
use Rattle.fs_modes.specs.declared.modes.Modes.{Modes}
use Rattle.fs_model.specs.declared.node.Node.{Node}
use Rattle.fs_model.specs.declared.op.Op.{Op}
use Rattle.fs_model.specs.declared.op.Op.TheVariants as op
use Rattle.fs_model.specs.declared.reply.Reply.{Reply}
use Rattle.fs_model.specs.declared.reply.Reply.TheVariants as reply
use Rattle.fs_model.specs.Namespace.{NodeMap, fresh_node, with_change}
use Rattle.fs_model.specs.Children.{child_at, with_child, without_child, names_of}
use Rattle.fs_model.specs.Handles.{handle_at, with_handle, without_handle, without_session, any_conflicts, any_denies_delete}
use Rattle.fs_model.specs.Ancestors.{is_on_chain}

-- a reply, and the space afterwards
pub record Stepped : Type 0 where
  pub reply : Reply
  pub nodes : NodeMap

abbrev pub reply_alone : NodeMap → Reply → Stepped
reply_alone m r = record { reply = r; nodes = m }

-- ## Changes of one node

-- the directory with one more child
abbrev pub with_link : List ℕ → List ℕ → Node → Node
with_link name id n = record n { children = with_child n.children name id }

-- the directory without that child
abbrev pub without_link : List ℕ → Node → Node
without_link name n = record n { children = without_child n.children name }

-- the file in another place
abbrev pub at_place : List ℕ → List ℕ → Node → Node
at_place dir name n = record n { parent = Some (dir, name) }

abbrev pub with_info : ℕ → ℕ → Node → Node
with_info size stamp n = record n { size = size; stamp = stamp }

abbrev pub with_open : Session → ℕ → Modes → Node → Node
with_open by h modes n = record n { handles = with_handle n.handles (record { session = by; h = h; modes = modes }) }

abbrev pub without_open : Session → ℕ → Node → Node
without_open by h n = record n { handles = without_handle n.handles by h }

abbrev pub without_opens : Session → Node → Node
without_opens session n = record n { handles = without_session n.handles session }

-- ## Reads

abbrev pub child_reply : Option (List ℕ) → Reply
child_reply None = reply.NoName
child_reply (Some id) = reply.Found id

abbrev pub look_up_in : Kind → Node → List ℕ → Reply
look_up_in File n name = reply.NotDir
look_up_in Dir n name = child_reply (child_at n.children name)

abbrev pub look_up : Option Node → List ℕ → Reply
look_up None name = reply.Gone
look_up (Some n) name = look_up_in n.kind n name

abbrev pub list_in : Kind → Node → Reply
list_in File n = reply.NotDir
list_in Dir n = reply.Names (names_of n.children)

abbrev pub list : Option Node → Reply
list None = reply.Gone
list (Some n) = list_in n.kind n

abbrev pub kind_reply : Kind → Reply
kind_reply File = reply.IsFile
kind_reply Dir = reply.IsDir

abbrev pub kind : Option Node → Reply
kind None = reply.Gone
kind (Some n) = kind_reply n.kind

abbrev pub info : Option Node → Reply
info None = reply.Gone
info (Some n) = reply.Info n.size n.stamp

-- ## Create

-- the identifier is the directory's with one number appended
abbrev pub is_child : List ℕ → List ℕ → Bool
is_child dir id = (length dir + 1 == length id) && pointwise nat_eq (take (length dir) id) dir

-- the new node, and its name in the directory
abbrev pub with_new_node : NodeMap → List ℕ → List ℕ → Kind → List ℕ → NodeMap
with_new_node m dir name kind id = with_change (with_link name id) (insert m id (fresh_node kind (Some (dir, name)))) dir

abbrev pub create_as : NodeMap → List ℕ → List ℕ → Kind → Option (List ℕ) → Stepped
create_as m dir name kind None = reply_alone m reply.BadId
create_as m dir name kind (Some id) =
    if is_child dir id && not (is_some (get m id)) then record { reply = reply.Made; nodes = with_new_node m dir name kind id }
    else reply_alone m reply.BadId

abbrev pub create_in : Kind → NodeMap → Node → List ℕ → List ℕ → Kind → Option (List ℕ) → Stepped
create_in File m d dir name kind id = reply_alone m reply.NotDir
create_in Dir m d dir name kind id = if is_some (child_at d.children name) then reply_alone m reply.Exists else create_as m dir name kind id

abbrev pub create : Option Node → NodeMap → List ℕ → List ℕ → Kind → Option (List ℕ) → Stepped
create None m dir name kind id = reply_alone m reply.Gone
create (Some d) m dir name kind id = create_in d.kind m d dir name kind id

-- ## Opens

abbrev pub open_file : Option Node → NodeMap → Session → List ℕ → ℕ → Modes → Stepped
open_file None m by file h modes = reply_alone m reply.Gone
open_file (Some n) m by file h modes =
    if is_some (handle_at n.handles by h) then reply_alone m reply.HandleUsed
    else (if any_conflicts n.handles modes then reply_alone m reply.Sharing
    else record { reply = reply.Opened; nodes = with_change (with_open by h modes) m file })

abbrev pub close : Option Node → NodeMap → Session → List ℕ → ℕ → Stepped
close None m by file h = reply_alone m reply.NoHandle
close (Some n) m by file h =
    if is_some (handle_at n.handles by h) then record { reply = reply.Closed; nodes = with_change (without_open by h) m file }
    else reply_alone m reply.NoHandle

abbrev pub set_by : Option Modes → NodeMap → List ℕ → ℕ → ℕ → Stepped
set_by None m file size stamp = reply_alone m reply.NoHandle
set_by (Some modes) m file size stamp =
    if modes.acc_w then record { reply = reply.Set; nodes = with_change (with_info size stamp) m file } else reply_alone m reply.NoAccess

abbrev pub set : Option Node → NodeMap → Session → List ℕ → ℕ → ℕ → ℕ → Stepped
set None m by file h size stamp = reply_alone m reply.NoHandle
set (Some n) m by file h size stamp = set_by (handle_at n.handles by h) m file size stamp

-- ## Delete

abbrev pub children_of : Option Node → List (List ℕ × List ℕ)
children_of None = []
children_of (Some n) = n.children

abbrev pub is_empty : {X : Type 0} → List X → Bool
is_empty [] = true
is_empty (x ∷ xs) = false

abbrev pub is_childless : Option Node → Bool
is_childless None = true
is_childless (Some n) = is_empty n.children

abbrev pub is_unused : Option Node → Bool
is_unused None = true
is_unused (Some n) = is_empty n.handles

abbrev pub delete_child : NodeMap → List ℕ → List ℕ → Option (List ℕ) → Stepped
delete_child m dir name None = reply_alone m reply.NoName
delete_child m dir name (Some file) =
    if not (is_childless (get m file)) then reply_alone m reply.NotEmpty
    else (if not (is_unused (get m file)) then reply_alone m reply.InUse
    else record { reply = reply.Deleted; nodes = remove (with_change (without_link name) m dir) file })

abbrev pub delete_in : Kind → NodeMap → Node → List ℕ → List ℕ → Stepped
delete_in File m d dir name = reply_alone m reply.NotDir
delete_in Dir m d dir name = delete_child m dir name (child_at d.children name)

abbrev pub delete : Option Node → NodeMap → List ℕ → List ℕ → Stepped
delete None m dir name = reply_alone m reply.Gone
delete (Some d) m dir name = delete_in d.kind m d dir name

-- ## Rename

abbrev pub denies_delete : Option Node → Bool
denies_delete None = false
denies_delete (Some n) = any_denies_delete n.handles

-- the destination gets the name, the source loses it, and the file gets its place
abbrev pub with_moved_node : NodeMap → List ℕ → List ℕ → List ℕ → List ℕ → List ℕ → NodeMap
with_moved_node m file sdir sname ddir dname =
    with_change (at_place ddir dname) (with_change (without_link sname) (with_change (with_link dname file) m ddir) sdir) file

abbrev pub rename_child : NodeMap → List ℕ → List ℕ → Node → List ℕ → List ℕ → Option (List ℕ) → Stepped
rename_child m sdir sname d ddir dname None = reply_alone m reply.NoName
rename_child m sdir sname d ddir dname (Some file) =
    if pointwise nat_eq sdir ddir && pointwise nat_eq sname dname then reply_alone m reply.Renamed
    else (if is_some (child_at d.children dname) then reply_alone m reply.Exists
    else (if denies_delete (get m file) then reply_alone m reply.Sharing
    else (if is_on_chain m file ddir then reply_alone m reply.Cycle
    else record { reply = reply.Renamed; nodes = with_moved_node m file sdir sname ddir dname })))

abbrev pub rename_to_dir : Kind → NodeMap → Node → List ℕ → List ℕ → Node → List ℕ → List ℕ → Stepped
rename_to_dir File m s sdir sname d ddir dname = reply_alone m reply.NotDirTo
rename_to_dir Dir m s sdir sname d ddir dname = rename_child m sdir sname d ddir dname (child_at s.children sname)

abbrev pub rename_to : NodeMap → Node → List ℕ → List ℕ → Option Node → List ℕ → List ℕ → Stepped
rename_to m s sdir sname None ddir dname = reply_alone m reply.GoneTo
rename_to m s sdir sname (Some d) ddir dname = rename_to_dir d.kind m s sdir sname d ddir dname

abbrev pub rename_in : Kind → NodeMap → Node → List ℕ → List ℕ → List ℕ → List ℕ → Stepped
rename_in File m s sdir sname ddir dname = reply_alone m reply.NotDir
rename_in Dir m s sdir sname ddir dname = rename_to m s sdir sname (get m ddir) ddir dname

abbrev pub rename : Option Node → NodeMap → List ℕ → List ℕ → List ℕ → List ℕ → Stepped
rename None m sdir sname ddir dname = reply_alone m reply.Gone
rename (Some s) m sdir sname ddir dname = rename_in s.kind m s sdir sname ddir dname

-- ## The step

abbrev pub step : NodeMap → Session → Op → Stepped
step m by (op.Lookup dir name) = reply_alone m (look_up (get m dir) name)
step m by (op.List dir) = reply_alone m (list (get m dir))
step m by (op.Kind file) = reply_alone m (kind (get m file))
step m by (op.Info file) = reply_alone m (info (get m file))
step m by (op.Create dir name k id) = create (get m dir) m dir name k id
step m by (op.OpenFile file h modes) = open_file (get m file) m by file h modes
step m by (op.Close file h) = close (get m file) m by file h
step m by (op.Set file h size stamp) = set (get m file) m by file h size stamp
step m by (op.Delete dir name) = delete (get m dir) m dir name
step m by (op.Rename sdir sname ddir dname) = rename (get m sdir) m sdir sname ddir dname
step m by (op.Reap file session) = record { reply = reply.Reaped; nodes = with_change (without_opens session) m file }
