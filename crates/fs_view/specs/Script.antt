-- The table of needs: what the answer to an operation stands on, one field after another, and the answer. What is asked
-- next depends on what is known of the fields before: an item is left out only where a value that is known refutes its
-- condition; an item that a value names waits for that value.
use Rattle.std.specs.Prelude.{ℕ, Bool, true, false, ◌&&◌, ◌||◌, List, [], ◌∷◌, Option, Some, None, is_some, if◌then◌else◌}
use Rattle.std.specs.List.{list_any}
use Rattle.fs_ident.specs.Ident.{same}
use Rattle.fs_ident.specs.declared.kind.Kind.{Kind}
use Rattle.fs_ident.specs.declared.kind.Kind.TheVariants.{File, Dir}
use Rattle.fs_modes.specs.declared.modes.Mode.{Mode}
use Rattle.fs_modes.specs.declared.modes.Mode.TheVariants.{AccR, AccW, AccD, DenyD}
use Rattle.fs_modes.specs.declared.modes.Modes.{Modes}
use Rattle.fs_modes.specs.Modes.{opposing, without}
use Rattle.fs_field.specs.declared.field.Field.{Field}
use Rattle.fs_field.specs.declared.field.Field.TheVariants.{Life, Child, Names, Info, Own, SelfW, Other}
use Rattle.fs_field.specs.declared.lease_kind.LeaseKind.{LeaseKind}
use Rattle.fs_field.specs.declared.lease_kind.LeaseKind.TheVariants.{Shared, Exclusive}
use Rattle.fs_field.specs.declared.value.Value.{Value}
use Rattle.fs_field.specs.declared.value.Value.TheVariants as value
use Rattle.fs_field.specs.After.{Handles, without_handle}
use Rattle.fs_model.specs.declared.op.Op.{Op}
use Rattle.fs_model.specs.declared.op.Op.TheVariants as op
use Rattle.fs_model.specs.declared.reply.Reply.{Reply}
use Rattle.fs_model.specs.declared.reply.Reply.TheVariants as reply
use Rattle.fs_view.specs.Told.{life_told, child_told, names_told, own_told, is_other_told, modes_under, all_modes, own_conflicts, modes_listed}

-- what is asked for, one thing after another, and the reply at the end
pub data Script : Type 0 where
  answer : Reply → Script
  ask : Field → LeaseKind → (Option Value → Script) → Script
  -- an identifier for a new file in the directory
  give : List ℕ → Script → Script

-- ## Going on

-- a reply that is known already ends the questions
abbrev pub unless : Option Reply → Script → Script
unless (Some r) go = answer r
unless None go = go

-- the reply where it is known that no directory is there
abbrev pub no_dir : Option (Option Kind) → Option Reply
no_dir None = None
no_dir (Some None) = Some reply.Gone
no_dir (Some (Some File)) = Some reply.NotDir
no_dir (Some (Some Dir)) = None

-- the reply where it is known that no directory is there for a file to come to
abbrev pub no_dir_to : Option (Option Kind) → Option Reply
no_dir_to None = None
no_dir_to (Some None) = Some reply.GoneTo
no_dir_to (Some (Some File)) = Some reply.NotDirTo
no_dir_to (Some (Some Dir)) = None

-- the reply where it is known that the file does not live
abbrev pub no_file : Option (Option Kind) → Option Reply
no_file None = None
no_file (Some None) = Some reply.Gone
no_file (Some (Some kind)) = None

-- the reply where it is known that the name is taken
abbrev pub taken_name : Option (Option (List ℕ)) → Option Reply
taken_name None = None
taken_name (Some None) = None
taken_name (Some (Some file)) = Some reply.Exists

-- the reply where it is known that nothing has the name
abbrev pub no_name : Option (Option (List ℕ)) → Option Reply
no_name None = None
no_name (Some None) = Some reply.NoName
no_name (Some (Some file)) = None

-- each of these modes, as it is with the other sessions, and then, unless it is known that one of them has one, on
abbrev pub ask_others : Reply → List Mode → List ℕ → Bool → Script → Script
ask_others r [] file true go = answer r
ask_others r [] file false go = go
ask_others r (m ∷ ms) file found go = ask (Other file m) Shared (λ v. ask_others r ms file (found || is_other_told v) go)

-- each of these modes, as the session itself has it
abbrev pub ask_selves : List Mode → List ℕ → Reply → Script
ask_selves [] file r = answer r
ask_selves (m ∷ ms) file r = ask (SelfW file m) Exclusive (λ v. ask_selves ms file r)

-- ## Reads

abbrev pub look_up_reply : Option (Option (List ℕ)) → Reply
look_up_reply (Some (Some file)) = reply.Found file
look_up_reply v = reply.NoName

abbrev pub names_reply : Option (List (List ℕ)) → Reply
names_reply (Some names) = reply.Names names
names_reply None = reply.Names []

abbrev pub kind_reply : Option (Option Kind) → Reply
kind_reply (Some (Some File)) = reply.IsFile
kind_reply (Some (Some Dir)) = reply.IsDir
kind_reply v = reply.Gone

abbrev pub info_reply : Option Value → Reply
info_reply (Some (value.Info size stamp)) = reply.Info size stamp
info_reply v = reply.Info 0 0

-- ## A new file

-- an identifier that is named has to be of a file that does not live
abbrev pub made_reply : Option (Option Kind) → Reply
made_reply (Some (Some kind)) = reply.BadId
made_reply v = reply.Made

abbrev pub new_file : List ℕ → Option (List ℕ) → Script
new_file dir None = give dir (answer reply.Made)
new_file dir (Some id) = ask (Life id) Exclusive (λ v. answer (made_reply (life_told v)))

-- ## Opens

-- the modes that the session has only with one more handle of these
abbrev pub modes_on : Handles → Modes → Modes
modes_on own modes = without modes (all_modes own)

-- the modes that the session has only with this handle
abbrev pub modes_off : Handles → ℕ → Modes
modes_off own h = without (all_modes own) (all_modes (without_handle own h))

abbrev pub open_free : Bool → Handles → List ℕ → Modes → Script
open_free true own file modes = answer reply.Sharing
open_free false own file modes =
    ask_others reply.Sharing (modes_listed (opposing modes)) file false (ask_selves (modes_listed (modes_on own modes)) file reply.Opened)

abbrev pub open_with : Option Handles → List ℕ → ℕ → Modes → Script
open_with None file h modes = ask_others reply.Sharing (modes_listed (opposing modes)) file false (answer reply.Opened)
open_with (Some own) file h modes =
    if is_some (modes_under own h) then answer reply.HandleUsed
    else open_free (own_conflicts own modes) own file modes

abbrev pub close_with : Option Handles → List ℕ → ℕ → Script
close_with None file h = answer reply.Closed
close_with (Some own) file h =
    if is_some (modes_under own h) then ask_selves (modes_listed (modes_off own h)) file reply.Closed
    else answer reply.NoHandle

-- the reply where the handle is not there or may not write
abbrev pub no_write : Option Modes → Option Reply
no_write None = Some reply.NoHandle
no_write (Some modes) = if modes.acc_w then None else Some reply.NoAccess

abbrev pub no_set : Option Handles → ℕ → Option Reply
no_set None h = None
no_set (Some own) h = no_write (modes_under own h)

abbrev pub ask_size : List ℕ → Script
ask_size file = ask (Info file) Exclusive (λ info. answer reply.Set)

-- ## The second items

abbrev pub ask_child : List ℕ → List ℕ → Script
ask_child dir name = ask (Child dir name) Shared (λ child. answer (look_up_reply (child_told child)))

abbrev pub ask_names : List ℕ → Script
ask_names dir = ask (Names dir) Shared (λ names. answer (names_reply (names_told names)))

abbrev pub ask_info : List ℕ → Script
ask_info file = ask (Info file) Shared (λ info. answer (info_reply info))

abbrev pub ask_place : List ℕ → List ℕ → Option (List ℕ) → Script
ask_place dir name id = ask (Child dir name) Exclusive (λ child. unless (taken_name (child_told child)) (new_file dir id))

abbrev pub ask_create : List ℕ → List ℕ → Option (List ℕ) → Script
ask_create dir name id = ask (Life dir) Shared (λ life. unless (no_dir (life_told life)) (ask_place dir name id))

abbrev pub ask_own : List ℕ → ℕ → Modes → Script
ask_own file h modes = ask (Own file) Exclusive (λ own. open_with (own_told own) file h modes)

abbrev pub ask_set : List ℕ → ℕ → Script
ask_set file h = ask (Own file) Exclusive (λ own. unless (no_set (own_told own) h) (ask_size file))

-- ## Deletes

-- the reply where it is known that the file has children
abbrev pub not_empty : Option (List (List ℕ)) → Option Reply
not_empty None = None
not_empty (Some []) = None
not_empty (Some (name ∷ names)) = Some reply.NotEmpty

-- the reply where it is known that the session has a handle
abbrev pub in_use : Option Handles → Option Reply
in_use None = None
in_use (Some []) = None
in_use (Some (x ∷ xs)) = Some reply.InUse

abbrev pub accesses : List Mode
accesses = AccR ∷ AccW ∷ AccD ∷ []

abbrev pub ask_unused : List ℕ → Script
ask_unused file =
    ask (Own file) Exclusive (λ own. unless (in_use (own_told own)) (ask_others reply.InUse accesses file false (answer reply.Deleted)))

abbrev pub ask_empty : List ℕ → Script
ask_empty file = ask (Names file) Shared (λ names. unless (not_empty (names_told names)) (ask_unused file))

-- what is asked of the file waits until it is known which file it is
abbrev pub ask_deleted : Option (Option (List ℕ)) → Script
ask_deleted (Some (Some file)) = ask (Life file) Exclusive (λ life. ask_empty file)
ask_deleted v = answer reply.NoName

abbrev pub ask_delete : List ℕ → List ℕ → Script
ask_delete dir name = ask (Child dir name) Exclusive (λ child. ask_deleted (child_told child))

-- ## Renames; whether a directory would come into itself is told by no field, and is tested elsewhere

-- one of the handles keeps others from deleting or moving the file
abbrev pub own_denies_delete : Handles → Bool
own_denies_delete own = list_any (λ x. x.1.deny_d) own

-- the reply where it is known that a handle of the session does so
abbrev pub denied : Option Handles → Option Reply
denied None = None
denied (Some own) = if own_denies_delete own then Some reply.Sharing else None

abbrev pub ask_movable : List ℕ → Script
ask_movable file =
    ask (Own file) Exclusive (λ own. unless (denied (own_told own))
    (ask_others reply.Sharing (DenyD ∷ []) file false (answer reply.Renamed)))

-- the life of each file is asked for once, and that of both directories stands before
abbrev pub ask_moved_file : List ℕ → List ℕ → List ℕ → Script
ask_moved_file sdir ddir file =
    if same file sdir || same file ddir then ask_movable file
    else ask (Life file) Shared (λ life. ask_movable file)

abbrev pub ask_moved : List ℕ → List ℕ → Option (Option (List ℕ)) → Script
ask_moved sdir ddir (Some (Some file)) = ask_moved_file sdir ddir file
ask_moved sdir ddir v = answer reply.Renamed

abbrev pub ask_new_place : List ℕ → List ℕ → List ℕ → Option (Option (List ℕ)) → Script
ask_new_place sdir ddir dname moved =
    ask (Child ddir dname) Exclusive (λ child. unless (taken_name (child_told child)) (ask_moved sdir ddir moved))

-- a file that stays at its place asks for nothing more
abbrev pub ask_unless_there : List ℕ → List ℕ → List ℕ → List ℕ → Option (Option (List ℕ)) → Script
ask_unless_there sdir sname ddir dname moved =
    if same sdir ddir && same sname dname then answer reply.Renamed
    else ask_new_place sdir ddir dname moved

abbrev pub ask_old_place : List ℕ → List ℕ → List ℕ → List ℕ → Script
ask_old_place sdir sname ddir dname =
    ask (Child sdir sname) Exclusive (λ child. unless (no_name (child_told child))
    (ask_unless_there sdir sname ddir dname (child_told child)))

abbrev pub ask_other_dir : List ℕ → List ℕ → List ℕ → List ℕ → Script
ask_other_dir sdir sname ddir dname =
    ask (Life ddir) Shared (λ life. unless (no_dir_to (life_told life)) (ask_old_place sdir sname ddir dname))

abbrev pub ask_rename : List ℕ → List ℕ → List ℕ → List ℕ → Script
ask_rename sdir sname ddir dname = if same sdir ddir then ask_old_place sdir sname ddir dname else ask_other_dir sdir sname ddir dname

-- ## The table

abbrev pub script_of : Op → Script
script_of (op.Lookup dir name) = ask (Life dir) Shared (λ life. unless (no_dir (life_told life)) (ask_child dir name))
script_of (op.List dir) = ask (Life dir) Shared (λ life. unless (no_dir (life_told life)) (ask_names dir))
script_of (op.Kind file) = ask (Life file) Shared (λ life. answer (kind_reply (life_told life)))
script_of (op.Info file) = ask (Life file) Shared (λ life. unless (no_file (life_told life)) (ask_info file))
script_of (op.Create dir name kind id) = ask_create dir name id
script_of (op.OpenFile file h modes) = ask (Life file) Shared (λ life. unless (no_file (life_told life)) (ask_own file h modes))
script_of (op.Close file h) = ask (Own file) Exclusive (λ own. close_with (own_told own) file h)
script_of (op.Set file h size stamp) = ask_set file h
script_of (op.Delete dir name) = ask (Life dir) Shared (λ life. unless (no_dir (life_told life)) (ask_delete dir name))
script_of (op.Rename sdir sname ddir dname) =
    ask (Life sdir) Shared (λ life. unless (no_dir (life_told life)) (ask_rename sdir sname ddir dname))
script_of (op.Reap file session) = answer reply.Reaped
