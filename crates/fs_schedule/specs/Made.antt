-- The made schedules: one for each number.
use Rattle.std.specs.Prelude.{ℕ, zero, suc, ◌+◌, ◌*◌, ◌/◌, ◌%◌, ◌^◌, ◌==◌, ◌&&◌, nat_le, nat_lt, Bool, true, false, List, [], ◌∷◌, ◌++◌, length, None, if◌then◌else◌}
use Rattle.fs_ident.specs.declared.actor.Session.{Session}
use Rattle.fs_ident.specs.declared.actor.Peer.TheVariants.{Client}
use Rattle.fs_ident.specs.declared.kind.Kind.TheVariants.{File, Dir}
use Rattle.fs_modes.specs.declared.modes.Modes.{Modes}
use Rattle.fs_model.specs.declared.op.Op.{Op}
use Rattle.fs_model.specs.declared.op.Op.TheVariants as op
use Rattle.fs_schedule.specs.declared.event.Event.{Event}
use Rattle.fs_schedule.specs.declared.event.Head.{Head}
use Rattle.fs_schedule.specs.declared.event.Head.TheVariants.{Servers}
use Rattle.fs_schedule.specs.declared.event.Schedule.{Schedule}
use Rattle.fs_schedule.specs.declared.event.What.{What}
use Rattle.fs_schedule.specs.declared.event.What.TheVariants.{Join, Do, Tell, Turn, Move}
use Rattle.fs_schedule.specs.declared.draws.Draws.{Draws}

-- three servers whose clocks agree, and a term that no made schedule outlasts
abbrev pub made_head : Head
made_head = Servers 3 0 1000000

-- ## Draws

-- the state after a draw
abbrev pub stirred : ℕ → ℕ
stirred x = (x * 6364136223846793005 + 1442695040888963407) % 2 ^ 64

-- what was drawn of so many numbers from 0 on, where this is the state after it
abbrev pub drawn : ℕ → ℕ → ℕ
drawn x many = (x / 2 ^ 33) % many

-- a session, a directory, a file in it and the kind of an operation are drawn one after another
abbrev pub draws_from : ℕ → Draws
draws_from x =
    let a = stirred x in
    let b = stirred a in
    let c = stirred b in
    let d = stirred c in
    record { session = 1 + drawn a 6; dir = 1 + drawn b 8; file = 1 + drawn c 5; kind = drawn d 8; state = d }

-- ## Operations

-- a letter and a digit
abbrev pub numbered_name : ℕ → ℕ → List ℕ
numbered_name letter k = letter ∷ (48 + k) ∷ []

abbrev pub dir_name : ℕ → List ℕ
dir_name k = numbered_name 100 k

abbrev pub file_name : ℕ → List ℕ
file_name k = numbered_name 102 k

-- reading, and nothing is denied
abbrev pub reading_only : Modes
reading_only = record { acc_r = true; acc_w = false; acc_d = false; deny_r = false; deny_w = false; deny_d = false }

-- the one of the first directories
abbrev pub creates_dir : ℕ → Op
creates_dir k = op.Create [] (dir_name k) Dir None

-- the first directory goes into the second one, under its name
abbrev pub moves_dir : Op
moves_dir = op.Rename [] (dir_name 1) (2 ∷ []) (dir_name 1)

-- the operation of a kind on a file of a directory; a file that goes away goes to the other directory
abbrev pub op_of : ℕ → ℕ → ℕ → ℕ → Op
op_of kind dir file to =
    if kind == 0 then op.Create (dir ∷ []) (file_name file) File None
    else if kind == 1 then op.Lookup (dir ∷ []) (file_name file)
    else if kind == 2 then op.List (dir ∷ [])
    else if kind == 3 then op.OpenFile (dir ∷ file ∷ []) 1 reading_only
    else if kind == 4 then op.Close (dir ∷ file ∷ []) 1
    else if kind == 5 then op.Info (dir ∷ file ∷ [])
    else if kind == 6 then op.Rename (dir ∷ []) (file_name file) (to ∷ []) (file_name file)
    else op.Delete (dir ∷ []) (file_name file)

-- the operation that was drawn; where a rename was, the directory to which it goes is drawn too
abbrev pub drawn_op : Draws → Op
drawn_op w = op_of w.kind w.dir w.file (1 + drawn (stirred w.state) 8)

abbrev pub state_behind : Draws → ℕ
state_behind w = if w.kind == 6 then stirred w.state else w.state

-- ## Events

-- what comes of the numbers from 1 to this one, in order
unfoldable pub each : (ℕ → List What) → ℕ → List What
each f zero = []
each f (suc k) = each f k ++ f (suc k)

abbrev pub session : ℕ → Session
session k = record { 0 = k }

-- the next packet arrives, so many times
abbrev pub tells : ℕ → List What
tells many = each (λ _. Tell None ∷ []) many

-- the session asks for the operation, and what is on its way arrives
abbrev pub asks : Session → Op → List What
asks s o = Do s o ∷ tells 6

-- a turn of the session of a number, and what is on its way arrives
abbrev pub turns : ℕ → List What
turns k = Turn (Client (session k)) ∷ tells 3

-- 52 events: the session asks four times, and then each session has its turn
abbrev pub block : Session → Op → List What
block s o = each (λ _. asks s o) 4 ++ each turns 6

-- what stands before the block of a number: two of the directories go to other servers
abbrev pub moves_before : ℕ → List What
moves_before b = if b == 300 then Move 0 (1 ∷ []) 1 ∷ [] else if b == 600 then Move 0 (2 ∷ []) 2 ∷ [] else []

-- for the blocks of these numbers nothing is drawn
abbrev pub is_fixed : ℕ → Bool
is_fixed b = nat_le 900 b && nat_lt b 910

-- the block of a number, where this is the state of the draws before it
abbrev pub block_at : ℕ → ℕ → List What
block_at b x = if is_fixed b then block (session 1) moves_dir else block (session (draws_from x).session) (drawn_op (draws_from x))

abbrev pub state_after : ℕ → ℕ → ℕ
state_after b x = if is_fixed b then x else state_behind (draws_from x)

-- the state of the draws before the block of a number
unfoldable pub state_before : ℕ → ℕ → ℕ
state_before n zero = n
state_before n (suc b) = state_after b (state_before n b)

-- so many blocks, numbered from 0
unfoldable pub blocks : ℕ → ℕ → List What
blocks n zero = []
blocks n (suc b) = blocks n b ++ (moves_before b ++ block_at b (state_before n b))

-- all that happens
abbrev pub happenings : ℕ → List What
happenings n = each (λ k. Join (session k) ∷ []) 6 ++ (each (λ k. block (session 1) (creates_dir k)) 8 ++ blocks n 1000)

-- one more event; the reading of each is its number
abbrev pub with_event : List Event → What → List Event
with_event es w = es ++ record { reading = length es + 1; what = w } ∷ []

-- these happen after the events, in order
abbrev pub with_events : List Event → List What → List Event
with_events es [] = es
with_events es (w ∷ ws) = with_events (with_event es w) ws

-- the made schedule of a number
unfoldable pub made : ℕ → Schedule
made n = record { head = made_head; events = with_events [] (happenings n) }
