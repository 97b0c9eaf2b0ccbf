-- The words of the command line, and what they ask for.
use Rattle.std.specs.Prelude.{◌≤◌, ◌<◌, ℕ, ◌+◌, ◌-◌, ◌^◌, Bool, List, [], ◌∷◌, codes, drop, nat_eq, slice_get, Option, Some, None, option_and_then, Result, Ok, Err, if◌then◌else◌}
use Rattle.std.specs.Cmp.Lexicographic.{pointwise}
use Rattle.fs_ident.specs.declared.actor.Peer.{Peer}
use Rattle.fs_ident.specs.declared.actor.Peer.TheVariants.{Server, Client}
use Rattle.fs_ident.specs.declared.limits.TheConstants.{SESSIONS}
use Rattle.fs_msg.specs.declared.limits.TheConstants.{LONGEST, SERVERS}
use Rattle.fs_words.specs.Numbers.{number_between, number_in}
use Rattle.fs_words.specs.Places.{actor_in, is_among, own_stand, places_at_front}
use Rattle.fs_words.specs.declared.command.Command.{Command}
use Rattle.fs_words.specs.declared.command.Command.TheVariants.{Run, Generate, Node}
use Rattle.fs_words.specs.declared.command.Format.{Format}
use Rattle.fs_words.specs.declared.command.Format.TheVariants.{Report, Json}
use Rattle.fs_words.specs.declared.command.Settings.{Settings}
use Rattle.fs_words.specs.declared.command.TheConstants.{TURNS}

abbrev pub is_word : List ℕ → List ℕ → Bool
is_word w text = pointwise nat_eq w text

-- what the words ask for; or else the number of the first one, from 1, that no form has there: where they only begin a form, one behind
-- the last
abbrev pub Asked : Type 0
Asked = Result Command ℕ

-- what the words behind ask for, where this one is read
abbrev pub read_then : {X : Type 0} → ℕ → Option X → (X → Asked) → Asked
read_then number None next = Err number
read_then number (Some x) next = next x

-- ## `replay` and `journal`, behind which no word stands

abbrev pub run_words : Format → List (List ℕ) → Asked
run_words format [] = Ok (Run format)
run_words format (w ∷ ws) = Err 2

-- ## `gen N`, behind its first word

-- behind the number, where it was read, no word stands
abbrev pub made_words : Option ℕ → List (List ℕ) → Asked
made_words None words = Err 2
made_words (Some n) [] = Ok (Generate n)
made_words (Some n) (w ∷ ws) = Err 3

abbrev pub generate_words : List (List ℕ) → Asked
generate_words [] = Err 2
generate_words (w ∷ ws) = made_words (number_in (2 ^ 64 - 1) w) ws

-- ## `node ACTOR SERVERS SKEW TERM TURNS PEER..`, behind its first word

-- the value that the word of this number, from 0, tells
abbrev pub read_at : {X : Type 0} → (List ℕ → Option X) → List (List ℕ) → ℕ → Option X
read_at read words k = option_and_then read (slice_get words k)

-- a number of servers with which the actor is there
abbrev pub servers_for : Peer → List ℕ → Option ℕ
servers_for who word = option_and_then (λ servers. if is_among servers who then Some servers else None) (number_between 1 SERVERS word)

abbrev pub node_words : List (List ℕ) → Asked
node_words words =
    read_then 2 (read_at actor_in words 0) (λ who.
    read_then 3 (read_at (servers_for who) words 1) (λ servers.
    read_then 4 (read_at (number_between 0 LONGEST) words 2) (λ skew.
    read_then 5 (read_at (number_between 1 LONGEST) words 3) (λ term.
    read_then 6 (read_at (number_between 1 TURNS) words 4) (λ turns.
    read_then (places_at_front servers [] (drop 5 words) + 7) (own_stand servers who (drop 5 words)) (λ at.
    Ok (Node (record { who = who; servers = servers; skew = skew; term = term; turns = turns; at = at }))))))))

-- ## All words

abbrev pub command_of : List (List ℕ) → Asked
command_of [] = Err 1
command_of (w ∷ ws) =
    if is_word w (codes "replay") then run_words Report ws
    else (if is_word w (codes "journal") then run_words Json ws
    else (if is_word w (codes "gen") then generate_words ws
    else (if is_word w (codes "node") then node_words ws else Err 1)))

-- ## What is read

-- an actor whose number is in its range, however many servers there are
abbrev pub IsActor : Peer → Type 0
IsActor (Server k) = k < SERVERS
IsActor (Client s) = (1 ≤ s.0) × (s.0 ≤ SESSIONS)

-- the same where there are so many
abbrev pub FitsActor : ℕ → Peer → Type 0
FitsActor servers (Server k) = k < servers
FitsActor servers (Client s) = (1 ≤ s.0) × (s.0 ≤ SESSIONS)

-- the actor is there, and the numbers are in their ranges
pub record FitsSettings (n : Settings) : Type 0 where
  pub who : FitsActor n.servers n.who
  pub servers : n.servers ≤ SERVERS
  pub skew : n.skew ≤ LONGEST
  pub some : 1 ≤ n.term
  pub term : n.term ≤ LONGEST

abbrev pub FitsCommand : Command → Type 0
FitsCommand (Run format) = Unit {0}
FitsCommand (Generate n) = Unit {0}
FitsCommand (Node n) = FitsSettings n
