-- What sessions lose on a turn, before anything is changed.
use Rattle.std.specs.Prelude.{◌≡◌, ◌+◌, ◌<◌, ◌^◌, ◌==◌, ◌&&◌, Bool, true, length, if◌then◌else◌}
use Rattle.std.specs.List.{list_all}
use Rattle.fs_msg.specs.declared.server_note.ServerNote.TheVariants as note
use Rattle.fs_record.specs.Applied.{is_undoable}
use Rattle.fs_server.specs.declared.change.Change.TheVariants as change
use Rattle.fs_server.specs.declared.reaps.Lost.{Lost}
use Rattle.fs_server.specs.declared.state.Server.{Server}
use Rattle.fs_server.specs.Plan.{changed}
use Rattle.fs_server.specs.Reaps.{Reaping, reaped}
use Rattle.fs_server.specs.Server.{Stepped, only_noted}

-- the server, and what came of it, where sessions lost this
abbrev pub reaping_by : Lost → Server → Reaping
reaping_by l s = record { server = changed (change.Reap (length l.admitted) l.effects) s; admitted = l.admitted; blockers = l.blockers }

-- nobody let go
abbrev pub is_idle : Lost → Bool
is_idle l = (length l.admitted == 0) && (length l.blockers == 0)

-- what comes of a turn where sessions lost this
abbrev pub turned_by : Lost → Server → Stepped
turned_by l s = if is_idle l then only_noted note.Idle s else reaped (reaping_by l s)

-- it can be taken back, and each reap has a number
pub record CanLose (l : Lost) (s : Server) : Type 0 where
  pub undoable : list_all is_undoable l.effects ≡ true
  pub few : s.reaps + length l.admitted < 2 ^ 64
