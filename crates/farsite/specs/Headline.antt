-- What every schedule comes to.
use Rattle.std.specs.Prelude.{◌≡◌, ℕ, List, [], Option, Some, None}
use Rattle.std.specs.Io.KnownBytes.{Appends}
use Rattle.fs_io.specs.Bytes.{IsPrefixWritten}
use Rattle.fs_report.specs.Json.{journal_json}
use Rattle.fs_report.specs.Report.{report_text}
use Rattle.fs_schedule.specs.declared.error.Which.{Which}
use Rattle.fs_schedule.specs.declared.error.Which.TheVariants.{Packets}
use Rattle.fs_schedule.specs.declared.event.Head.TheVariants.{Direct}
use Rattle.fs_schedule.specs.declared.event.Schedule.{Schedule}
use Rattle.fs_schedule.specs.Faults.{AtLine, IsFirstFault, IsScheduleText, PassesLimit}
use Rattle.fs_world.specs.Order.{AllAdmitted, replies_given}
use Rattle.fs_world.specs.Over.{AllCaused, said_from}
use Rattle.fs_world.specs.Refusals.{AllFair, NoneStrange}
use Rattle.fs_world.specs.Safe.{IsSerial}
use Rattle.fs_world.specs.World.{Run, Stop, AtPackets, first_world, journal_of, run_of, space_of, stop_of}
use Rattle.fs_words.specs.declared.command.Format.{Format}
use Rattle.fs_words.specs.declared.command.Format.TheVariants.{Report, Json}
use Rattle.farsite.specs.declared.status.Status.{Status}
use Rattle.farsite.specs.declared.status.Status.TheVariants as status

abbrev pub report_of : Run → List ℕ
report_of r = report_text r.outcomes (journal_of r.world) (space_of r.world)

abbrev pub json_of : Run → List ℕ
json_of r = journal_json (journal_of r.world) (space_of r.world)

-- what is written of a run in this format
abbrev pub text_of : Format → Run → List ℕ
text_of Report r = report_of r
text_of Json r = json_of r

-- what was written is this text, of the schedule's run, which went to its end; its journal is serial; an entry of a
-- log is refused only where a lease that it used had ended, or behind such a one, and a session is over only behind such a refusal;
-- nothing that was told is strange, neither to a link nor to a core; and in the direct form the journal has every reply that was told
pub record IsRunOf (schedule : Schedule) (text : List ℕ) (before now : Option (List ℕ)) : Type 0 where
  pub whole : stop_of schedule ≡ None
  pub written : Appends before now text
  pub headline : IsSerial schedule.events (run_of schedule)
  pub fair : AllFair (first_world schedule.head) schedule.events
  pub over : AllCaused [] (said_from (first_world schedule.head) schedule.events)
  pub known : NoneStrange (run_of schedule).outcomes
  pub admitted : schedule.head ≡ Direct
      → AllAdmitted (journal_of (run_of schedule).world) (replies_given schedule.events (run_of schedule).outcomes)

-- what was written is, in the format, the run of the schedule that was read
pub record IsRun (format : Format) (bytes : List ℕ) (before now : Option (List ℕ)) : Type 0 where
  pub schedule : Schedule
  pub read : IsScheduleText schedule bytes
  pub run : IsRunOf schedule (text_of format (run_of schedule)) before now

-- the bytes are a schedule, whose run went to its end, and a part of it in the format from the front on was written
abbrev pub IsPartOfRun : Format → List ℕ → Option (List ℕ) → Option (List ℕ) → Type 0
IsPartOfRun format bytes before now =
    (s : Schedule) × IsScheduleText s bytes
    × (stop_of s ≡ None) × IsPrefixWritten before now (text_of format (run_of s))

-- the bytes are a schedule, whose run is broken off there
abbrev pub IsStopped : Stop → List ℕ → Type 0
IsStopped stop bytes = (s : Schedule) × IsScheduleText s bytes × (stop_of s ≡ Some stop)

-- the line passes the limit: that of packets where the run comes to it, and any other as it is read
abbrev pub IsLimit : Which → ℕ → List ℕ → Type 0
IsLimit Packets at bytes = IsStopped (AtPackets at) bytes
IsLimit which at bytes = IsFirstFault (AtLine at (PassesLimit which)) bytes

-- an input is read to its end, so that it is within the limit, where this is what comes of it
abbrev pub IsReadWhole : Status → Type 0
IsReadWhole status.Done = Unit {0}
IsReadWhole (status.BadLine line) = Unit {0}
IsReadWhole (status.Skewed line earlier) = Unit {0}
IsReadWhole (status.Limit which at) = Unit {0}
IsReadWhole (status.Spent counter) = Unit {0}
IsReadWhole status.WriteFault = Unit {0}
IsReadWhole _ = ⊥
