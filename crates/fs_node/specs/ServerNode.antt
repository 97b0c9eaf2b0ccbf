-- A server as a node runs it.
use Rattle.std.specs.Prelude.{ℕ, ◌+◌, min, nat_lt, Bool, true, false, not, List, length, flat_map, slice_get, Option, Some, None, if◌then◌else◌}
use Rattle.fs_actor.specs.Actor.{ServerSide, ServerStep, server_steps}
use Rattle.fs_actor.specs.Laws.{server_alone}
use Rattle.fs_actor.specs.Several.{ServerRun, server_told_all}
use Rattle.fs_ident.specs.declared.actor.Peer.TheVariants.{Server}
use Rattle.fs_ident.specs.declared.limits.TheConstants.{LATEST}
use Rattle.fs_io.specs.Calls.{Datagram}
use Rattle.fs_io.specs.Faults.{raised}
use Rattle.fs_report.specs.Report.{item_text}
use Rattle.fs_schedule.specs.declared.script.Script.{Script}
use Rattle.fs_server.specs.Server.{first_server}
use Rattle.fs_server.specs.declared.event.ServerEvent.{ServerEvent}
use Rattle.fs_server.specs.declared.event.ServerEvent.TheVariants.{Turn}
use Rattle.fs_turns.specs.Run.{Stepped}
use Rattle.fs_window.specs.Post.{no_links}
use Rattle.fs_window.specs.declared.width.TheConstants.{LINK_WIDTH}
use Rattle.fs_node.specs.Arrivals.{arrival_of}
use Rattle.fs_node.specs.Counting.{raised_by}
use Rattle.fs_node.specs.Peers.{Peers, due_of}
use Rattle.fs_node.specs.Scripts.{event_by}
use Rattle.fs_node.specs.declared.arrival.Arrival.{Arrival}
use Rattle.fs_node.specs.declared.arrival.Arrival.TheVariants.{Quiet, Dropped, Came}
use Rattle.fs_node.specs.declared.server_state.ServerState.{ServerState}

-- a server before its first turn
abbrev pub first_server_node : ℕ → ℕ → ℕ → Peers → List Script → ServerState
first_server_node me skew term peers script = record {
  me = me;
  server = first_server me skew term;
  post = no_links (Server me) LINK_WIDTH;
  peers = peers;
  script = script;
  taken = 0;
  odd = true;
  dropped = 0;
  admitted = 0;
}

abbrev pub side_of : ServerState → ServerSide
side_of x = record { server = x.server; post = x.post }

-- ## A turn

-- each item that it admitted has its line
abbrev pub after_run : ServerRun → ServerState → Stepped ServerState
after_run y x = record {
  after = record x { server = y.server; post = y.post; admitted = raised_by x.admitted (length y.admitted) };
  due = due_of x.peers y.packets;
  lines = flat_map item_text y.admitted;
  spent = y.spent;
}

abbrev pub after_event : ServerStep → ServerState → Stepped ServerState
after_event y x = after_run (server_alone y) x

-- the script's event, if there is one to be taken, and its own turn otherwise
abbrev pub server_takes : ℕ → Option ServerEvent → ServerState → Stepped ServerState
server_takes now (Some e) x = after_event (server_steps false None now e (side_of x)) (record x { taken = x.taken + 1 })
server_takes now None x = after_event (server_steps true None now Turn (side_of x)) x

-- the script's next line, on an odd idle turn
abbrev pub next_event : ServerState → Option ServerEvent
next_event x = if x.odd then event_by (slice_get x.script x.taken) else None

-- an idle turn; the next one is even where this one is odd
abbrev pub server_idles : ℕ → ServerState → Stepped ServerState
server_idles now x = server_takes now (next_event x) (record x { odd = not x.odd })

abbrev pub server_at : ℕ → Arrival → ServerState → Stepped ServerState
server_at now (Came from p) x = after_run (server_told_all now from p (side_of x)) x
server_at now Dropped x = server_idles now (record x { dropped = raised x.dropped })
server_at now Quiet x = server_idles now x

-- a turn at a reading, with the datagram that came, if one did. (No clock gives a reading above the latest one.)
abbrev pub server_step : ServerState → ℕ → Option Datagram → Stepped ServerState
server_step x reading came = server_at (min reading LATEST) (arrival_of (Server x.me) x.peers came) x

-- ## Its end

-- a line of the script is not taken
abbrev pub is_open : ServerState → Bool
is_open x = nat_lt x.taken (length x.script)

-- it makes all its turns
abbrev pub server_is_over : ServerState → Bool
server_is_over x = false
