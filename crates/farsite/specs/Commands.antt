-- What comes of the words of the command line: of a run of a schedule that is read or made, or of a node.
use Rattle.std.specs.Prelude.{◌≡◌, ℕ, List, [], Option, Some, None, Result, Ok, Err}
use Rattle.fs_io.specs.Calls.{Made}
use Rattle.fs_io.specs.Told.{Adds}
use Rattle.fs_launch.specs.Launch.{HasNodeFault, NodeComesTo, bind_call}
use Rattle.fs_msg.specs.declared.core_error.Counter.{Counter}
use Rattle.fs_schedule.specs.Faults.{AtLine, IsFirstFault, IsOutside, PassesLimit}
use Rattle.fs_schedule.specs.Made.{made}
use Rattle.fs_schedule.specs.declared.error.Which.{Which}
use Rattle.fs_schedule.specs.declared.error.Which.TheVariants.{Packets}
use Rattle.fs_turns.specs.Run.{Outside}
use Rattle.fs_turns.specs.declared.stop.Stop.TheVariants as stop
use Rattle.fs_words.specs.Places.{node_places}
use Rattle.fs_words.specs.Usage.{Asked}
use Rattle.fs_words.specs.declared.command.Command.{Command}
use Rattle.fs_words.specs.declared.command.Command.TheVariants.{Run, Generate, Node}
use Rattle.fs_io.specs.Bytes.{IsPrefixWritten}
use Rattle.fs_world.specs.World.{AtCounter, AtPackets, run_of, stop_of}
use Rattle.farsite.specs.Generated.{generated_text}
use Rattle.farsite.specs.Headline.{IsLimit, IsPartOfRun, IsRun, IsRunOf, IsStopped}
use Rattle.farsite.specs.declared.status.Status.{Status}
use Rattle.farsite.specs.declared.status.Status.TheVariants as status

-- the input that the command reads, as far as it is told: a schedule that is made takes none, as if the input had no byte
abbrev pub read_by : Command → Option (List ℕ) → Option (List ℕ)
read_by (Run format) left = left
read_by (Generate n) left = Some []
read_by (Node n) left = left

-- ## The input is what the command takes, and the words were done

-- all was done that the command asks for, and all of it was written
abbrev pub IsDone : Command → List (List ℕ) → List ℕ → Outside → Outside → Type 0
IsDone (Run format) words bytes before now = IsRun format bytes before.written now.written
IsDone (Generate n) words bytes before now = IsRunOf (made n) (generated_text n (run_of (made n))) before.written now.written
IsDone (Node n) words bytes before now = NodeComesTo n (node_places words) bytes (Ok (tt {0})) before now

-- a write failed, so that a part from the front on was written
abbrev pub IsCut : Command → List (List ℕ) → List ℕ → Outside → Outside → Type 0
IsCut (Run format) words bytes before now = IsPartOfRun format bytes before.written now.written
IsCut (Generate n) words bytes before now = (stop_of (made n) ≡ None)
    × IsPrefixWritten before.written now.written (generated_text n (run_of (made n)))
IsCut (Node n) words bytes before now = NodeComesTo n (node_places words) bytes (Err stop.Write) before now

-- a step needs a number after the counter's last one: of a run nothing is written then, of a node the lines of the turns before
abbrev pub IsSpentAt : Counter → Command → List (List ℕ) → List ℕ → Outside → Outside → Type 0
IsSpentAt counter (Run format) words bytes before now = IsStopped (AtCounter counter) bytes
IsSpentAt counter (Generate n) words bytes before now = stop_of (made n) ≡ Some (AtCounter counter)
IsSpentAt counter (Node n) words bytes before now = NodeComesTo n (node_places words) bytes (Err (stop.Spent counter)) before now

-- memory was wanting in the turns of a node: the lines of the turns before were written
abbrev pub IsStarved : Command → List (List ℕ) → List ℕ → Outside → Outside → Type 0
IsStarved (Run format) words bytes before now = ⊥
IsStarved (Generate n) words bytes before now = ⊥
IsStarved (Node n) words bytes before now = NodeComesTo n (node_places words) bytes (Err stop.Memory) before now

-- ## The input is not what the command takes

-- the first faulty line is this one, and is outside the grammar
abbrev pub IsBadLine : Command → ℕ → List ℕ → Type 0
IsBadLine (Run format) line bytes = IsFirstFault (AtLine line IsOutside) bytes
IsBadLine (Generate n) line bytes = ⊥
IsBadLine (Node n) line bytes = HasNodeFault n IsOutside line bytes

-- the first faulty line is this one, and passes the limit; or the run passes that of packets there; an event of a made schedule
-- counts as the line on which it would stand
abbrev pub IsPastLimit : Command → Which → ℕ → List ℕ → Type 0
IsPastLimit (Run format) which at bytes = IsLimit which at bytes
IsPastLimit (Generate n) which at bytes = (which ≡ Packets) × (stop_of (made n) ≡ Some (AtPackets at))
IsPastLimit (Node n) which at bytes = HasNodeFault n (PassesLimit which) at bytes

-- ## What is left as it was

-- nothing is to be read
abbrev pub IsUnread : Asked → Type 0
IsUnread (Ok (Run format)) = ⊥
IsUnread (Ok (Node n)) = ⊥
IsUnread asked = Unit {0}

-- a schedule that is read is to be run
abbrev pub IsScheduled : Asked → Type 0
IsScheduled (Ok (Run format)) = Unit {0}
IsScheduled asked = ⊥

-- no node is to be run
abbrev pub IsNoNode : Asked → Type 0
IsNoNode (Ok (Node n)) = ⊥
IsNoNode asked = Unit {0}

-- no node makes a turn where this is what comes of the words
abbrev pub IsUnturned : Asked → Status → Type 0
IsUnturned (Ok (Node n)) status.Done = ⊥
IsUnturned (Ok (Node n)) status.WriteFault = ⊥
IsUnturned (Ok (Node n)) (status.Spent counter) = ⊥
IsUnturned (Ok (Node n)) status.Memory = ⊥
IsUnturned asked ended = Unit {0}

-- nothing is written where this is what comes of them
abbrev pub IsSilent : Asked → Status → Type 0
IsSilent asked status.Done = ⊥
IsSilent asked status.WriteFault = ⊥
IsSilent asked ended = IsUnturned asked ended

-- the input is no schedule and no script where this is what comes of it
abbrev pub IsRefused : Status → Type 0
IsRefused (status.BadLine line) = Unit {0}
IsRefused (status.Limit which at) = Unit {0}
IsRefused (status.TooLong limit) = Unit {0}
IsRefused status.ReadFault = Unit {0}
IsRefused ended = ⊥

-- ## The calls of the link before the first turn

-- the one call is a bind of the node's address that failed
abbrev pub IsUnbound : Command → Option (List Made) → Option (List Made) → Type 0
IsUnbound (Run format) before now = ⊥
IsUnbound (Generate n) before now = ⊥
IsUnbound (Node n) before now = Adds before now (bind_call n.at (Err (record {})))

-- the one call is the bind of the node's address
abbrev pub IsBound : Command → Option (List Made) → Option (List Made) → Type 0
IsBound (Run format) before now = now ≡ before
IsBound (Generate n) before now = now ≡ before
IsBound (Node n) before now = Adds before now (bind_call n.at (Ok (tt {0})))
