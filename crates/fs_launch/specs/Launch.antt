-- What a node comes to, from the words that ask for it to its last line.
use Rattle.std.specs.Prelude.{ℕ, ◌≤◌, Bool, true, false, List, length, Option, Result, Ok, Err, ◌⊎◌}
use Rattle.std.specs.Io.KnownBytes.{Appends}
use Rattle.fs_ident.specs.declared.actor.Peer.{Peer}
use Rattle.fs_ident.specs.declared.actor.Peer.TheVariants.{Server, Client}
use Rattle.fs_io.specs.Bytes.{IsPrefixWritten}
use Rattle.fs_io.specs.Calls.{Made, bind_made}
use Rattle.fs_io.specs.Told.{Adds}
use Rattle.fs_io.specs.declared.addr.Addr.{Addr}
use Rattle.fs_io.specs.declared.failed.Failed.{Failed}
use Rattle.fs_launch.specs.declared.error.LaunchError.{LaunchError}
use Rattle.fs_launch.specs.declared.error.LaunchError.TheVariants as error
use Rattle.fs_msg.specs.declared.core_error.Counter.{Counter}
use Rattle.fs_node.specs.ClientNode.{client_is_over, client_step, first_client_node}
use Rattle.fs_node.specs.Endings.{client_ending, server_ending}
use Rattle.fs_node.specs.Peers.{Peers}
use Rattle.fs_node.specs.ServerNode.{first_server_node, server_is_over, server_step}
use Rattle.fs_node.specs.declared.client_state.ClientState.{ClientState}
use Rattle.fs_node.specs.declared.server_state.ServerState.{ServerState}
use Rattle.fs_schedule.specs.Faults.{LineFault}
use Rattle.fs_schedule.specs.Script.{HasScriptFault, IsScriptText}
use Rattle.fs_schedule.specs.declared.script.Script.{Script}
use Rattle.fs_turns.specs.Run.{AreTurns, Given, IsRun, IsRunCut, IsRunSpent, Node, Outside, Steps, run_of}
use Rattle.fs_turns.specs.declared.counts.Counts.{Counts}
use Rattle.fs_turns.specs.declared.stop.Stop.{Stop}
use Rattle.fs_turns.specs.declared.stop.Stop.TheVariants as stop
use Rattle.fs_words.specs.declared.command.Settings.{Settings}

-- what clock, link and sink tell
abbrev pub told : Option (List ℕ) → Option (List Made) → Option (List ℕ) → Outside
told readings calls written = record { readings = readings; calls = calls; written = written }

-- a bind, as a link keeps it
abbrev pub bind_call : Addr → Result (Unit {0}) Failed → Made
bind_call at answer = bind_made at answer

-- ## What a node runs

-- an actor before its first turn, whether it makes no more turns, its turn, and its last lines
pub record Role (X : Type 0) : Type 0 where
  pub first : X
  pub over : X → Bool
  pub step : Steps X
  pub ending : Counts → X → List ℕ

abbrev pub client_role : ClientState → Role ClientState
client_role x = record { first = x; over = client_is_over; step = client_step; ending = client_ending }

abbrev pub server_role : ServerState → Role ServerState
server_role x = record { first = x; over = server_is_over; step = server_step; ending = server_ending }

abbrev pub is_client : Peer → Bool
is_client (Server k) = false
is_client (Client s) = true

-- nothing is counted yet
abbrev pub first_node : {X : Type 0} → Role X → Node X
first_node r = record { actor = r.first; counts = record { turns = 0; receive_faults = 0; send_faults = 0 } }

-- ## Its turns and its last lines

-- it made its turns and wrote its last lines
pub record IsEnded {X : Type 0} (r : Role X) (turns : ℕ) (before now : Outside) : Type 0 where
  pub next : Node X
  pub written : Option (List ℕ)
  pub run : IsRun r.over r.step turns (first_node r) next before (record { readings = now.readings; calls = now.calls; written = written })
  pub lines : Appends written now.written (r.ending next.counts next.actor)

-- it made its turns, and of its last lines a part from the front on was written
pub record IsEndCut {X : Type 0} (r : Role X) (turns : ℕ) (before now : Outside) : Type 0 where
  pub next : Node X
  pub written : Option (List ℕ)
  pub run : IsRun r.over r.step turns (first_node r) next before (record { readings = now.readings; calls = now.calls; written = written })
  pub part : IsPrefixWritten written now.written (r.ending next.counts next.actor)

-- a write failed: of a turn's lines, or of the last ones
abbrev pub IsCut : {X : Type 0} → Role X → ℕ → Outside → Outside → Type 0
IsCut r turns before now = IsRunCut r.over r.step turns (first_node r) before now ⊎ IsEndCut r turns before now

-- a turn needs a number after the counter's last one
abbrev pub IsSpent : {X : Type 0} → Role X → ℕ → Counter → Outside → Outside → Type 0
IsSpent r turns counter before now = IsRunSpent r.over r.step turns counter (first_node r) before now

-- what was written is the lines of some turns
pub record HasLines {X : Type 0} (r : Role X) (turns : ℕ) (before now : Option (List ℕ)) : Type 0 where
  pub given : List Given
  pub turned : AreTurns r.over r.step r.first given
  pub many : length given ≤ turns
  pub lines : Appends before now (run_of r.step (first_node r) given).lines

-- what comes of its turns and its last lines
abbrev pub ComesTo : {X : Type 0} → Role X → ℕ → Result (Unit {0}) Stop → Outside → Outside → Type 0
ComesTo r turns (Ok done) before now = IsEnded r turns before now
ComesTo r turns (Err stop.Write) before now = IsCut r turns before now
ComesTo r turns (Err (stop.Spent counter)) before now = IsSpent r turns counter before now
ComesTo r turns (Err stop.Memory) before now = HasLines r turns before.written now.written

-- the same of the actor with these settings, places and script
abbrev pub ActorComesTo : Peer → Settings → Peers → List Script → Result (Unit {0}) Stop → Outside → Outside → Type 0
ActorComesTo (Server k) n places script ended before now =
    ComesTo (server_role (first_server_node k n.skew n.term places script)) n.turns ended before now
ActorComesTo (Client s) n places script ended before now =
    ComesTo (client_role (first_client_node s n.term places script)) n.turns ended before now

-- ## The whole

-- the bytes are the script, and this comes of the turns and the last lines
abbrev pub ScriptComesTo : Settings → Peers → List ℕ → Result (Unit {0}) Stop → Outside → Outside → Type 0
ScriptComesTo n places bytes ended before now =
    (script : List Script) × IsScriptText (is_client n.who) n.servers script bytes × ActorComesTo n.who n places script ended before now

-- the same after the address was bound
abbrev pub NodeComesTo : Settings → Peers → List ℕ → Result (Unit {0}) Stop → Outside → Outside → Type 0
NodeComesTo n places bytes ended before now =
    (calls : Option (List Made)) × Adds before.calls calls (bind_call n.at (Ok (tt {0})))
    × ScriptComesTo n places bytes ended (told before.readings calls before.written) now

-- ## Where no turn is made

-- no script was read
abbrev pub IsNotScript : Result (Unit {0}) LaunchError → Type 0
IsNotScript (Err (error.Read why)) = Unit {0}
IsNotScript (Err (error.Script why)) = Unit {0}
IsNotScript _ = ⊥

-- the address was not bound, or no script was read
abbrev pub IsUnturned : Result (Unit {0}) LaunchError → Type 0
IsUnturned (Err error.Bind) = Unit {0}
IsUnturned ended = IsNotScript ended

-- the input was read to its end
abbrev pub IsReadWhole : Result (Unit {0}) LaunchError → Type 0
IsReadWhole (Err error.Bind) = ⊥
IsReadWhole (Err (error.Read why)) = ⊥
IsReadWhole ended = Unit {0}

-- the script's line is the first that has this fault
abbrev pub HasNodeFault : Settings → LineFault → ℕ → List ℕ → Type 0
HasNodeFault n fault at bytes = HasScriptFault (is_client n.who) n.servers fault at bytes
