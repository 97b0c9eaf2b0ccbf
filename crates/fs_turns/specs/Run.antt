-- The run of a node: what its turns make of what the outside gave, whatever its actor is.
use Rattle.std.specs.Prelude.{◌≡◌, ℕ, ◌<◌, ◌≤◌, Bool, true, false, List, [], ◌∷◌, ◌++◌, length, Option, Some, None, Result, Ok, Err, take, fold, if◌then◌else◌}
use Rattle.std.specs.Borrow.{Bor}
use Rattle.std.specs.Io.KnownBytes.{Appends}
use Rattle.fs_io.specs.Bytes.{IsPrefixWritten}
use Rattle.fs_io.specs.Calls.{Datagram, Made, send_made}
use Rattle.fs_io.specs.Faults.{raised}
use Rattle.fs_io.specs.Told.{AddsAll}
use Rattle.fs_io.specs.declared.addr.Addr.{Addr}
use Rattle.fs_io.specs.declared.call.CallKind.TheVariants.{Receive}
use Rattle.fs_io.specs.declared.failed.Failed.{Failed}
use Rattle.fs_msg.specs.declared.core_error.CoreError.{CoreError}
use Rattle.fs_msg.specs.declared.core_error.CoreError.TheVariants as core
use Rattle.fs_msg.specs.declared.core_error.Counter.{Counter}
use Rattle.fs_turns.specs.declared.counts.Counts.{Counts}
use Rattle.fs_turns.specs.declared.stop.Stop.{Stop}
use Rattle.fs_turns.specs.declared.stop.Stop.TheVariants as stop

abbrev pub stop_of : CoreError → Stop
stop_of (core.Spent counter) = stop.Spent counter
stop_of core.Memory = stop.Memory

-- ## What the outside gives

-- what a receive came to
pub data Got : Type 0 where
  Lost : Got
  Nothing : Got
  Came : Datagram → Got

abbrev pub got_of : Result (Option (Addr × ℕ)) Failed → List ℕ → Got
got_of (Ok None) buf = Nothing
got_of (Ok (Some got)) buf = Came (got.0, take got.1 buf)
got_of (Err e) buf = Lost

-- the datagram that came, if one did
abbrev pub came_in : Got → Option Datagram
came_in (Came d) = Some d
came_in other = None

-- in one turn: the reading, what was received, and of each packet that was due whether it went
pub record Given : Type 0 where
  pub reading : ℕ
  pub got : Got
  pub went : List Bool

-- ## What a turn comes to

-- a packet that is due, and the address of its addressee, where it has one
abbrev pub Due : Type 0
Due = Option Addr × List ℕ

-- what a turn makes of an actor, what is due, its lines, and the counter that it would have raised above its end: then there is no such
-- turn
pub record Stepped (X : Type 0) : Type 0 where
  pub after : X
  pub due : List Due
  pub lines : List ℕ
  pub spent : Option Counter

-- an actor's turn at a reading, with the datagram that came, if one did
abbrev pub Steps : Type 0 → Type 0
Steps X = X → ℕ → Option Datagram → Stepped X

-- the actor, and what was counted
pub record Node (X : Type 0) : Type 0 where
  pub actor : X
  pub counts : Counts

-- the receive of a turn, as a link keeps it
abbrev pub receive_call : Got → Made
receive_call Lost = record { call = record { what = Receive; addr = None; size = 1100; len = 0; failed = true }; bytes = [] }
receive_call Nothing = record { call = record { what = Receive; addr = None; size = 1100; len = 0; failed = false }; bytes = [] }
receive_call (Came d) = record {
  call = record { what = Receive; addr = Some d.0; size = 1100; len = length d.1; failed = false };
  bytes = d.1;
}

abbrev pub answer : Bool → Result (Unit {0}) Failed
answer true = Ok (tt {0})
answer false = Err (record {})

-- the send of a packet; one without an address is not handed over
abbrev pub send_call : Due → Bool → List Made
send_call (None, bytes) went = []
send_call (Some to, bytes) went = send_made to bytes (answer went) ∷ []

-- the sends of a turn, in order; one of which nothing is listed went
abbrev pub send_calls : List Due → List Bool → List Made
send_calls [] went = []
send_calls (d ∷ ds) [] = send_call d true ++ send_calls ds []
send_calls (d ∷ ds) (b ∷ bs) = send_call d b ++ send_calls ds bs

-- one that failed is counted, and so is one without an address
abbrev pub counted_one : ℕ → Due → Bool → ℕ
counted_one n (None, bytes) went = raised n
counted_one n (Some to, bytes) went = if went then n else raised n

abbrev pub failed_count : ℕ → List Due → List Bool → ℕ
failed_count n [] went = n
failed_count n (d ∷ ds) [] = failed_count (counted_one n d true) ds []
failed_count n (d ∷ ds) (b ∷ bs) = failed_count (counted_one n d b) ds bs

abbrev pub lost_count : ℕ → Got → ℕ
lost_count n Lost = raised n
lost_count n other = n

-- one more turn, and one more receive that failed where it did
abbrev pub counted : Counts → Got → Counts
counted c got = record c { turns = raised c.turns; receive_faults = lost_count c.receive_faults got }

abbrev pub step_at : {X : Type 0} → Steps X → X → Given → Stepped X
step_at step x g = step x g.reading (came_in g.got)

abbrev pub calls_in : {X : Type 0} → Steps X → X → Given → List Made
calls_in step x g = receive_call g.got ∷ send_calls (step_at step x g).due g.went

abbrev pub node_after : {X : Type 0} → Steps X → Node X → Given → Node X
node_after step n g = record {
  actor = (step_at step n.actor g).after;
  counts = record (counted n.counts g.got) { send_faults = failed_count n.counts.send_faults (step_at step n.actor g).due g.went };
}

-- ## The whole run

-- the node, and the readings, the calls and the lines so far
pub record Run (X : Type 0) : Type 0 where
  pub node : Node X
  pub readings : List ℕ
  pub calls : List Made
  pub lines : List ℕ

abbrev pub first_run : {X : Type 0} → Node X → Run X
first_run n = record { node = n; readings = []; calls = []; lines = [] }

abbrev pub more : {X : Type 0} → Steps X → Run X → Given → Run X
more step r g = record {
  node = node_after step r.node g;
  readings = r.readings ++ g.reading ∷ [];
  calls = r.calls ++ calls_in step r.node.actor g;
  lines = r.lines ++ (step_at step r.node.actor g).lines;
}

abbrev pub run_of : {X : Type 0} → Steps X → Node X → List Given → Run X
run_of step n gs = fold (more step) (first_run n) gs

-- no turn was made where the actor makes no more, and none was without its number
abbrev pub AreTurns : {X : Type 0} → (X → Bool) → Steps X → X → List Given → Type 0
AreTurns over step x [] = Unit {0}
AreTurns over step x (g ∷ gs) = (over x ≡ false) × ((step_at step x g).spent ≡ None) × AreTurns over step (step_at step x g).after gs

-- ## What is told of it

-- what clock, link and sink tell
pub record Outside : Type 0 where
  pub readings : Option (List ℕ)
  pub calls : Option (List Made)
  pub written : Option (List ℕ)

-- a packet was handed over, and counted where it did not go
pub record IsSentOne (d : Due) (faults faults_now : ℕ) (before now : Option (List Made)) : Type 0 where
  pub went : Bool
  pub counted : faults_now ≡ counted_one faults d went
  pub call : AddsAll before now (send_call d went)

-- the packets were handed over, each in its own call
pub record IsSent (due : List Due) (faults faults_now : ℕ) (before now : Option (List Made)) : Type 0 where
  pub went : List Bool
  pub each : length went ≡ length due
  pub counted : faults_now ≡ failed_count faults due went
  pub calls : AddsAll before now (send_calls due went)

-- the clock was read, something was received, and the actor took it: this is due, and these are the lines
pub record IsTaken {X : Type 0} (step : Steps X) (node next : Node X) (due : List Due) (lines : List ℕ)
    (readings readings_now : Option (List ℕ)) (calls calls_now : Option (List Made)) : Type 0 where
  pub reading : ℕ
  pub got : Got
  pub read : AddsAll readings readings_now (reading ∷ [])
  pub call : AddsAll calls calls_now (receive_call got ∷ [])
  pub after : next.actor ≡ (step node.actor reading (came_in got)).after
  pub due_then : due ≡ (step node.actor reading (came_in got)).due
  pub lines_then : lines ≡ (step node.actor reading (came_in got)).lines
  pub unspent : (step node.actor reading (came_in got)).spent ≡ None
  pub counts : next.counts ≡ counted node.counts got

-- one turn led from a node to the next, with the readings and calls that this takes
pub record IsTurn {X : Type 0} (step : Steps X) (node next : Node X) (before now : Outside) : Type 0 where
  pub given : Given
  pub unspent : (step_at step node.actor given).spent ≡ None
  pub after : next ≡ node_after step node given
  pub readings : AddsAll before.readings now.readings (given.reading ∷ [])
  pub calls : AddsAll before.calls now.calls (calls_in step node.actor given)
  pub lines : Appends before.written now.written (step_at step node.actor given).lines

-- these turns did, and after them comes none: they are so many, or the actor makes no more
pub record IsRun {X : Type 0} (over : X → Bool) (step : Steps X) (turns : ℕ) (node next : Node X) (before now : Outside) : Type 0 where
  pub given : List Given
  pub turned : AreTurns over step node.actor given
  pub many : length given ≤ turns
  pub last : over next.actor ≡ false → length given ≡ turns
  pub after : next ≡ (run_of step node given).node
  pub readings : AddsAll before.readings now.readings (run_of step node given).readings
  pub calls : AddsAll before.calls now.calls (run_of step node given).calls
  pub lines : Appends before.written now.written (run_of step node given).lines

-- one turn was made, and of its lines a part from the front on was written
pub record IsTurnCut {X : Type 0} (step : Steps X) (actor : X) (before now : Outside) : Type 0 where
  pub given : Given
  pub unspent : (step_at step actor given).spent ≡ None
  pub readings : AddsAll before.readings now.readings (given.reading ∷ [])
  pub calls : AddsAll before.calls now.calls (calls_in step actor given)
  pub lines : IsPrefixWritten before.written now.written (step_at step actor given).lines

-- after these turns, whose lines were written, came a last one, of whose lines a part from the front on was written
pub record IsRunCut {X : Type 0} (over : X → Bool) (step : Steps X) (turns : ℕ) (node : Node X) (before now : Outside) : Type 0 where
  pub given : List Given
  pub final : Given
  pub turned : AreTurns over step node.actor (given ++ final ∷ [])
  pub many : length given < turns
  pub readings : AddsAll before.readings now.readings (run_of step node (given ++ final ∷ [])).readings
  pub calls : AddsAll before.calls now.calls (run_of step node (given ++ final ∷ [])).calls
  pub written : Option (List ℕ)
  pub whole : Appends before.written written (run_of step node given).lines
  pub part : IsPrefixWritten written now.written (step_at step (run_of step node given).node.actor final).lines

-- what was written is the lines of fewer turns
pub record IsWritten {X : Type 0} (over : X → Bool) (step : Steps X) (turns : ℕ) (node : Node X)
    (before now : Option (List ℕ)) : Type 0 where
  pub given : List Given
  pub turned : AreTurns over step node.actor given
  pub many : length given < turns
  pub lines : Appends before now (run_of step node given).lines

-- the actor's step at this reading, with what was received, needs a number after the counter's last one: nothing was sent
pub record IsSpentTurn {X : Type 0} (step : Steps X) (counter : Counter) (actor : X) (readings readings_now : Option (List ℕ))
    (calls calls_now : Option (List Made)) : Type 0 where
  pub reading : ℕ
  pub got : Got
  pub spent : (step actor reading (came_in got)).spent ≡ Some counter
  pub read : AddsAll readings readings_now (reading ∷ [])
  pub call : AddsAll calls calls_now (receive_call got ∷ [])

-- after fewer turns, whose lines were written, came one that needs such a number
pub record IsRunSpent {X : Type 0} (over : X → Bool) (step : Steps X) (turns : ℕ) (counter : Counter) (node : Node X)
    (before now : Outside) : Type 0 where
  pub given : List Given
  pub turned : AreTurns over step node.actor given
  pub many : length given < turns
  pub reading : ℕ
  pub got : Got
  pub going : over (run_of step node given).node.actor ≡ false
  pub spent : (step (run_of step node given).node.actor reading (came_in got)).spent ≡ Some counter
  pub readings : AddsAll before.readings now.readings ((run_of step node given).readings ++ reading ∷ [])
  pub calls : AddsAll before.calls now.calls ((run_of step node given).calls ++ receive_call got ∷ [])
  pub lines : Appends before.written now.written (run_of step node given).lines

-- ## Values

-- a datagram that is lent
abbrev pub datagram_of : Option (Addr × Bor (List ℕ)) → Option Datagram
datagram_of None = None
datagram_of (Some d) = Some (d.0, d.1.now)
