-- Path leases between servers: a path is asked for, given out or denied, kept, asked back and given back.
use Rattle.std.specs.Prelude.{ℕ, ◌+◌, ◌==◌, Bool, true, false, List, [], ◌∷◌, ◌++◌, length, map, Option, Some, None, option_map, if◌then◌else◌}
use Rattle.std.specs.FinMap.{get}
use Rattle.std.specs.List.{list_any}
use Rattle.fs_ident.specs.Ident.{same}
use Rattle.fs_ident.specs.declared.actor.PathNo.{PathNo}
use Rattle.fs_ident.specs.declared.actor.Peer.{Peer}
use Rattle.fs_ident.specs.declared.actor.TxnNo.{TxnNo}
use Rattle.fs_field.specs.declared.path.PathAnswer.{PathAnswer}
use Rattle.fs_field.specs.declared.path.PathAnswer.TheVariants as found
use Rattle.fs_map.specs.Map.{longest}
use Rattle.fs_model.specs.Sound.{parent_of}
use Rattle.fs_msg.specs.declared.msg.Msg.{Msg}
use Rattle.fs_msg.specs.declared.peer_msg.PeerMsg.TheVariants as peer
use Rattle.fs_msg.specs.declared.server_note.ServerNote.{ServerNote}
use Rattle.fs_msg.specs.declared.server_note.ServerNote.TheVariants as note
use Rattle.fs_path.specs.Leases.{PathLease}
use Rattle.fs_path.specs.Returns.{after_give_back, after_recalled, after_released, give_back, recalled, releases, without_no}
use Rattle.fs_path.specs.Tables.{frozen_for, holds, is_leaving, issued_to, with_held, with_issued}
use Rattle.fs_path.specs.declared.having.Having.TheVariants.{Held}
use Rattle.fs_path.specs.declared.recalled.GiveBack.{GiveBack}
use Rattle.fs_path.specs.declared.recalled.Recalled.{Recalled}
use Rattle.fs_path.specs.declared.recalled.Recalled.TheVariants.{Release, Down, Unheld}
use Rattle.fs_model.specs.Step.{children_of}
use Rattle.fs_record.specs.Records.{RecordMap, node_of}
use Rattle.fs_record.specs.declared.led_end.Why.{Why}
use Rattle.fs_record.specs.declared.led_end.Why.TheVariants as why
pub use Rattle.fs_server.specs.Follows.{path_recalls}
use Rattle.fs_server.specs.Follows.{to_server}
use Rattle.fs_server.specs.Leads.{moved_why}
pub use Rattle.fs_server.specs.PathsHere.{asks_nobody, asks_up, is_asking, path_here, with_asking, without_asking}
use Rattle.fs_server.specs.Server.{Stepped, is_mine, strange}
use Rattle.fs_server.specs.declared.state.Server.{Server}

-- this is noted and sent, and nothing admitted
abbrev pub sends : ServerNote → List (Peer × Msg) → Server → Stepped
sends n messages s = record { server = s; out = record { note = n; send = messages; admitted = [] } }

-- ## A path is asked for

-- the directory is here, and the file is one of its children
abbrev pub has_child : RecordMap → List ℕ → List ℕ → Bool
has_child m dir file = list_any (λ (c : List ℕ × List ℕ). same c.1 file) (children_of (node_of (get m dir)))

abbrev pub denies : ℕ → List ℕ → Why → Server → Stepped
denies from file w s = sends (note.PathDenies w) (to_server from (peer.PathNo file w) ∷ []) s

-- the path of the topmost file here is asked for farther up, behind the answer
abbrev pub asks_above : ℕ → List ℕ → List ℕ → List ℕ → Server → Stepped
asks_above from file top dir s =
    sends (note.PathDenies (why.Wanted top)) (to_server from (peer.PathNo file (why.Wanted top)) ∷ asks_up top dir s) (with_asking top s)

-- the number of the next path lease
abbrev pub path_number : Server → PathNo
path_number s = record { server = s.me; count = s.paths_given + 1 }

-- the file's path is that of its directory and the file
abbrev pub lease_to : ℕ → List ℕ → List (List ℕ) → Server → PathLease
lease_to to file above s = record { no = path_number s; peer = to; file = file; path = above ++ file ∷ [] }

abbrev pub with_path : PathLease → Server → Server
with_path l s = record s { paths = record s.paths { issued = with_issued l s.paths.issued }; paths_given = s.paths_given + 1 }

abbrev pub gives_path : ℕ → List ℕ → List (List ℕ) → Server → Stepped
gives_path to file above s =
    sends (note.PathGrants (path_number s)) (to_server to (peer.PathGrant (path_number s) file (above ++ file ∷ [])) ∷ [])
    (with_path (lease_to to file above s) s)

-- by the path of the directory
abbrev pub answers_path : ℕ → List ℕ → PathAnswer → Server → Stepped
answers_path from file (found.Wanted top dir) s = asks_above from file top dir s
answers_path from file (found.Frozen f txn) s = denies from file (why.Frozen f txn) s
answers_path from file (found.Path above) s = gives_path from file above s

-- a file that a transaction keeps comes on no path
abbrev pub unless_kept : ℕ → List ℕ → List ℕ → Option TxnNo → Server → Stepped
unless_kept from file dir (Some txn) s = denies from file (why.Frozen file txn) s
unless_kept from file dir None s = answers_path from file (path_here s dir) s

-- another server asks for the path of a file in that directory
abbrev pub path_ask_step : ℕ → List ℕ → List ℕ → Server → Stepped
path_ask_step from file dir s =
    if is_mine s dir
    then (if has_child s.records dir file then unless_kept from file dir (frozen_for file s.paths.frozen) s
    else denies from file why.NoChild s)
    else denies from file (moved_why (longest s.map dir)) s

-- ## A path comes

-- the last directory on the path: the one above its file
abbrev pub last_dir : List (List ℕ) → Option (List ℕ)
last_dir [] = None
last_dir (d ∷ []) = None
last_dir (d ∷ f ∷ []) = Some d
last_dir (d ∷ e ∷ f ∷ fs) = last_dir (e ∷ f ∷ fs)

-- the directory that the file's record names
abbrev pub dir_here : RecordMap → List ℕ → Option (List ℕ)
dir_here m file = option_map (λ place. place.0) (parent_of (node_of (get m file)))

abbrev pub is_same_dir : Option (List ℕ) → Option (List ℕ) → Bool
is_same_dir (Some d) (Some e) = same d e
is_same_dir d e = false

abbrev pub with_held_path : PathLease → Server → Server
with_held_path l s = record s { paths = record s.paths { held = with_held (Held l) s.paths.held } }

-- it is kept where the file's record is here and names that directory; else it goes back at once
abbrev pub keeps_path : Bool → ℕ → PathNo → List ℕ → List (List ℕ) → Server → Stepped
keeps_path true from number file path s =
    sends (note.PathHolds number) [] (with_held_path (record { no = number; peer = from; file = file; path = path }) s)
keeps_path false from number file path s = sends (note.PathDrops number) (to_server from (peer.PathRelease number) ∷ []) s

-- a server gives the path of a file; none gives a lease twice
abbrev pub path_grant_step : ℕ → PathNo → List ℕ → List (List ℕ) → Server → Stepped
path_grant_step from number file path s =
    if holds number s.paths.held then strange s
    else keeps_path (is_same_dir (dir_here s.records file) (last_dir path)) from number file path (without_asking file s)

-- ## A path is denied

abbrev pub fails_path : List ℕ → Why → Server → Stepped
fails_path file w s = sends (note.PathFails w) [] (without_asking file s)

-- the directory is at that server: it is asked, unless it is this one
abbrev pub seeks_path : List ℕ → Why → ℕ → List ℕ → Server → Stepped
seeks_path file w to dir s =
    if to == s.me then fails_path file w s else sends (note.PathSeeks file to) (to_server to (peer.PathAsk file dir) ∷ []) s

abbrev pub moved_path : List ℕ → Why → ℕ → Option (List ℕ) → Server → Stepped
moved_path file w to (Some dir) s = seeks_path file w to dir s
moved_path file w to None s = fails_path file w s

-- a server gives no path of the file
abbrev pub path_no_step : List ℕ → Why → Server → Stepped
path_no_step file (why.Moved prefix to) s = moved_path file (why.Moved prefix to) to (dir_here s.records file) s
path_no_step file w s = fails_path file w s

-- ## A path is asked back

-- each of the leases goes back to its server
abbrev pub path_releases : List (ℕ × PathNo) → List (Peer × Msg)
path_releases leases = map (λ (x : ℕ × PathNo). to_server x.0 (peer.PathRelease x.1)) leases

-- those that rest on it are asked back first
abbrev pub goes_down : PathNo → Recalled → Server → Stepped
goes_down number (Release to) s = sends (note.PathFrees number) (to_server to (peer.PathRelease number) ∷ []) s
goes_down number (Down leases) s = sends (note.PathDown number (length leases)) (path_recalls leases) s
goes_down number Unheld s = sends note.PathNone [] s

abbrev pub path_recall_step : PathNo → Server → Stepped
path_recall_step number s = goes_down number (recalled number s.paths) (record s { paths = after_recalled number s.paths })

-- ## A path comes back

-- it was given out to that server
abbrev pub is_out_to : ℕ → Option ℕ → Bool
is_out_to from None = false
is_out_to from (Some to) = to == from

-- with it those go back that rested on no other
abbrev pub path_back : PathNo → Server → Stepped
path_back number s =
    sends (note.PathBack number) (path_releases (releases is_leaving (without_no number s.paths.issued) s.paths.held))
    (record s { paths = after_released number s.paths })

abbrev pub path_release_step : ℕ → PathNo → Server → Stepped
path_release_step from number s = if is_out_to from (issued_to number s.paths.issued) then path_back number s else strange s

-- ## All paths over what is to go are asked back

abbrev pub returns_sent : GiveBack → List (Peer × Msg)
returns_sent back = path_recalls back.recalls ++ path_releases back.releases

abbrev pub without_paths_in : List ℕ → Server → Server
without_paths_in prefix s = record s { paths = after_give_back s.map s.me prefix s.paths }

abbrev pub asks_back_in : List ℕ → ServerNote → Server → Stepped
asks_back_in prefix n s = sends n (returns_sent (give_back s.map s.me prefix s.paths)) (without_paths_in prefix s)
