-- Which texts are schedules, and what is wrong with any other.
use Rattle.std.specs.Prelude.{◌≡◌, ℕ, ◌+◌, ◌<◌, ◌≤◌, true, false, List, [], ◌∷◌, length, ◌⊎◌}
use Rattle.fs_schedule.specs.declared.event.Event.{Event}
use Rattle.fs_schedule.specs.declared.event.Schedule.{Schedule}
use Rattle.fs_schedule.specs.declared.event.Head.{Head}
use Rattle.fs_schedule.specs.declared.error.Which.{Which}
use Rattle.fs_schedule.specs.declared.error.Which.TheVariants.{Bytes, Servers, Sessions, Events, Packets}
use Rattle.fs_schedule.specs.declared.limits.TheConstants.{BYTES, EVENTS}
use Rattle.fs_schedule.specs.Spelling.{IsHeadLine, has_many, IsLineOf, names_late}
use Rattle.fs_schedule.specs.Skew.{IsTimely, IsUntimely}
use Rattle.fs_schedule.specs.Lines.{lines_of}

-- ## The first line

-- the line names the form, and the number of its servers is within the limit
pub record IsFormLine (head : Head) (line : List ℕ) : Type 0 where
  pub line_of : IsHeadLine head line
  pub limit : has_many head ≡ false

-- the line names a form but for a number of servers above the limit
abbrev pub NamesManyServers : List ℕ → Type 0
NamesManyServers line = (head : Head) × IsHeadLine head line × (has_many head ≡ true)

-- ## Lines behind the first

-- the line is the event's, and its session's number is within the limit
pub record IsEventLine (head : Head) (e : Event) (line : List ℕ) : Type 0 where
  pub line_of : IsLineOf head e line
  pub limit : names_late e.what ≡ false

-- the line is no event's
abbrev pub IsNoEvent : Head → List ℕ → Type 0
IsNoEvent head line = (e : Event) → IsLineOf head e line → ⊥

-- the line is an event's but for a session's number above the limit
abbrev pub NamesLateSession : Head → List ℕ → Type 0
NamesLateSession head line = (e : Event) × IsLineOf head e line × (names_late e.what ≡ true)

-- a line after so many events passes, and is the event's
pub record Passes (head : Head) (before : ℕ) (e : Event) (line : List ℕ) : Type 0 where
  pub short : length line ≤ BYTES
  pub event : IsEventLine head e line
  pub few : before < EVENTS

-- ## Faults of lines, in the order in which a line is tested

pub data LineFault : Type 0 where
  PassesLimit : Which → LineFault
  IsOutside : LineFault

-- the first line passes, and names the form
abbrev pub HeadPasses : Head → List ℕ → Type 0
HeadPasses head line = (length line ≤ BYTES) × IsFormLine head line

-- the first line has this fault; no session stands in it, and it is no event
abbrev pub HeadHas : LineFault → List ℕ → Type 0
HeadHas (PassesLimit Bytes) line = BYTES < length line
HeadHas (PassesLimit Servers) line = (length line ≤ BYTES) × NamesManyServers line
HeadHas (PassesLimit Sessions) line = ⊥
HeadHas (PassesLimit Events) line = ⊥
HeadHas (PassesLimit Packets) line = ⊥
HeadHas IsOutside line = (length line ≤ BYTES) × ((head : Head) → IsHeadLine head line → ⊥)

-- a line after so many events has this fault; servers are counted in the first line, and packets only in a run
abbrev pub LineHas : LineFault → Head → ℕ → List ℕ → Type 0
LineHas (PassesLimit Bytes) head before line = BYTES < length line
LineHas IsOutside head before line = (length line ≤ BYTES) × IsNoEvent head line
LineHas (PassesLimit Sessions) head before line = (length line ≤ BYTES) × NamesLateSession head line
LineHas (PassesLimit Events) head before line = (length line ≤ BYTES) × ((e : Event) × IsEventLine head e line) × (EVENTS ≤ before)
LineHas (PassesLimit Servers) head before line = ⊥
LineHas (PassesLimit Packets) head before line = ⊥

-- these lines after so many events are these events
abbrev pub AreEventLines : Head → ℕ → List Event → List (List ℕ) → Type 0
AreEventLines head before [] lines = lines ≡ []
AreEventLines head before (e ∷ es) [] = ⊥
AreEventLines head before (e ∷ es) (line ∷ lines) = Passes head before e line × AreEventLines head (before + 1) es lines

-- of these lines after so many events the one of number `at` is the first faulty one
abbrev pub FaultsAt : LineFault → Head → ℕ → ℕ → List (List ℕ) → Type 0
FaultsAt fault head at before [] = ⊥
FaultsAt fault head at before (line ∷ lines) =
    ((at ≡ before + 2) × LineHas fault head before line)
    ⊎ (((e : Event) × Passes head before e line) × FaultsAt fault head at (before + 1) lines)

-- ## Texts

abbrev pub AreLinesOf : Schedule → List (List ℕ) → Type 0
AreLinesOf s [] = ⊥
AreLinesOf s (line ∷ lines) = HeadPasses s.head line × AreEventLines s.head 0 s.events lines

-- the text is the schedule's, within the limits and the skew
abbrev pub IsScheduleText : Schedule → List ℕ → Type 0
IsScheduleText s bytes = AreLinesOf s (lines_of bytes) × IsTimely s.head s.events

-- of all lines the one of number `at` is the first faulty one
abbrev pub LinesFaultAt : LineFault → ℕ → List (List ℕ) → Type 0
LinesFaultAt fault at [] = ⊥
LinesFaultAt fault at (line ∷ lines) =
    ((at ≡ 1) × HeadHas fault line) ⊎ ((head : Head) × HeadPasses head line × FaultsAt fault head at 0 lines)

-- why a text is no schedule: a line, counted from 1, is faulty; or no line is, and one is more than the skew before an earlier one
pub data Fault : Type 0 where
  AtLine : ℕ → LineFault → Fault
  IsSkewed : ℕ → ℕ → Fault

-- the text has this fault, and no line before it has one
abbrev pub IsFirstFault : Fault → List ℕ → Type 0
IsFirstFault (AtLine at fault) bytes = LinesFaultAt fault at (lines_of bytes)
IsFirstFault (IsSkewed line earlier) bytes = (s : Schedule) × AreLinesOf s (lines_of bytes) × IsUntimely s.head s.events line earlier
