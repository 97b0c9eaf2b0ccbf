-- The lines with which a node ends.
use Rattle.std.specs.Prelude.{ℕ, Bool, true, false, List, [], ◌++◌, Option, Some, None}
use Rattle.fs_report.specs.NodeLines.{open_line, over_line, summary_line}
use Rattle.fs_turns.specs.declared.counts.Counts.{Counts}
use Rattle.fs_node.specs.ClientNode as client
use Rattle.fs_node.specs.ServerNode as server
use Rattle.fs_node.specs.declared.client_state.ClientState.{ClientState}
use Rattle.fs_node.specs.declared.server_state.ServerState.{ServerState}

-- its session is over, or something is left of which so many lines are done
abbrev pub left_line : Option ℕ → Bool → ℕ → List ℕ
left_line (Some n) left lines = over_line n
left_line None true lines = open_line lines
left_line None false lines = []

abbrev pub ending : Option ℕ → Bool → ℕ → ℕ → ℕ → Counts → List ℕ
ending over left lines admitted dropped c =
    left_line over left lines ++ summary_line c.turns admitted dropped c.receive_faults c.send_faults

abbrev pub client_ending : Counts → ClientState → List ℕ
client_ending c x = ending x.client.over (client.is_open x) x.done x.admitted x.dropped c

abbrev pub server_ending : Counts → ServerState → List ℕ
server_ending c x = ending None (server.is_open x) x.taken x.admitted x.dropped c
