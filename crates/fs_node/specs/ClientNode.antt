-- A client as a node runs it.
use Rattle.std.specs.Prelude.{ℕ, min, nat_lt, Bool, true, not, ◌&&◌, ◌||◌, is_some, List, length, flat_map, slice_get, Option, Some, None, if◌then◌else◌}
use Rattle.std.specs.List.{sum_by}
use Rattle.fs_actor.specs.Actor.{ClientSide, ClientStep, client_acts, client_turns}
use Rattle.fs_actor.specs.Laws.{client_alone}
use Rattle.fs_actor.specs.Several.{ClientRun, client_told_all}
use Rattle.fs_client.specs.Client.{first_client}
use Rattle.fs_ident.specs.declared.actor.Peer.TheVariants.{Client}
use Rattle.fs_ident.specs.declared.actor.Session.{Session}
use Rattle.fs_ident.specs.declared.limits.TheConstants.{LATEST}
use Rattle.fs_io.specs.Calls.{Datagram}
use Rattle.fs_io.specs.Faults.{raised}
use Rattle.fs_model.specs.declared.op.Op.{Op}
use Rattle.fs_msg.specs.declared.act.Act.TheVariants.{Replied, ReadNow, NoIds}
use Rattle.fs_msg.specs.declared.client_note.ClientNote.TheVariants.{Led}
use Rattle.fs_msg.specs.declared.note.Note.{Note}
use Rattle.fs_msg.specs.declared.note.Note.TheVariants as note
use Rattle.fs_report.specs.Report.{item_text}
use Rattle.fs_schedule.specs.declared.script.Script.{Script}
use Rattle.fs_turns.specs.Run.{Stepped}
use Rattle.fs_window.specs.Post.{no_links}
use Rattle.fs_window.specs.declared.width.TheConstants.{LINK_WIDTH}
use Rattle.fs_node.specs.Arrivals.{arrival_of}
use Rattle.fs_node.specs.Counting.{raised_by}
use Rattle.fs_node.specs.Peers.{Peers, due_of}
use Rattle.fs_node.specs.Scripts.{asked_by}
use Rattle.fs_node.specs.declared.arrival.Arrival.{Arrival}
use Rattle.fs_node.specs.declared.arrival.Arrival.TheVariants.{Quiet, Dropped, Came}
use Rattle.fs_node.specs.declared.client_state.ClientState.{ClientState}

-- a client before its first turn
abbrev pub first_client_node : Session → ℕ → Peers → List Script → ClientState
first_client_node s term peers script = record {
  session = s;
  client = first_client s term;
  post = no_links (Client s) LINK_WIDTH;
  peers = peers;
  script = script;
  done = 0;
  odd = true;
  dropped = 0;
  admitted = 0;
}

abbrev pub side_of : ClientState → ClientSide
side_of x = record { client = x.client; post = x.post }

-- a line of the script is done that it answers, or never will be able to, or that a server has led to its end; any other is asked again
abbrev pub lines_done : Note → ℕ
lines_done (note.Act (Replied n r)) = 1
lines_done (note.Act (ReadNow n r)) = 1
lines_done (note.Act (NoIds dir)) = 1
lines_done (note.Client (Led n r)) = 1
lines_done n = 0

-- ## A turn

-- each item that it finished has its line, and the lines of the script that are done, as it notes, are counted
abbrev pub after_run : ClientRun → ClientState → Stepped ClientState
after_run y x = record {
  after = record x {
    client = y.client;
    post = y.post;
    done = raised_by x.done (sum_by lines_done y.notes);
    admitted = raised_by x.admitted (length y.finished);
  };
  due = due_of x.peers y.packets;
  lines = flat_map item_text y.finished;
  spent = y.spent;
}

abbrev pub after_event : ClientStep → ClientState → Stepped ClientState
after_event y x = after_run (client_alone x.session x.client y) x

-- it asks for the script's operation, if it is to and there is one, and takes its turn otherwise
abbrev pub client_asks : ℕ → Option Op → ClientState → Stepped ClientState
client_asks now (Some o) x = after_event (client_acts now o (side_of x)) x
client_asks now None x = after_event (client_turns now (side_of x)) x

-- the script's next line, on an odd idle turn while no exchange stands
abbrev pub next_asked : ClientState → Option Op
next_asked x = if x.odd && not (is_some x.client.exchange) then asked_by (slice_get x.script x.done) else None

-- an idle turn; the next one is even where this one is odd
abbrev pub client_idles : ℕ → ClientState → Stepped ClientState
client_idles now x = client_asks now (next_asked x) (record x { odd = not x.odd })

abbrev pub client_at : ℕ → Arrival → ClientState → Stepped ClientState
client_at now (Came from p) x = after_run (client_told_all x.session now from p (side_of x)) x
client_at now Dropped x = client_idles now (record x { dropped = raised x.dropped })
client_at now Quiet x = client_idles now x

-- a turn at a reading, with the datagram that came, if one did. (No clock gives a reading above the latest one.)
abbrev pub client_step : ClientState → ℕ → Option Datagram → Stepped ClientState
client_step x reading came = client_at (min reading LATEST) (arrival_of (Client x.session) x.peers came) x

-- ## Its end

-- a line of the script is not done, an entry of the log is not admitted, or an exchange stands
abbrev pub is_open : ClientState → Bool
is_open x = nat_lt x.done (length x.script) || (nat_lt 0 (length x.client.log) || is_some x.client.exchange)

-- its session is over, or nothing is left
abbrev pub client_is_over : ClientState → Bool
client_is_over x = is_some x.client.over || not (is_open x)
