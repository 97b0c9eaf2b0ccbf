-- How a call of the program ends.
use Rattle.std.specs.Prelude.{ℕ, List, ◌++◌, codes}
use Rattle.std.specs.Fmt.{decimal}
use Rattle.fs_msg.specs.declared.core_error.CoreError.{CoreError}
use Rattle.fs_msg.specs.declared.core_error.CoreError.TheVariants as core
use Rattle.fs_schedule.specs.Limits.{which_text}
use Rattle.fs_schedule.specs.declared.error.ScheduleError.{ScheduleError}
use Rattle.fs_schedule.specs.declared.error.ScheduleError.TheVariants as schedule
use Rattle.fs_io.specs.declared.reading.ReadError.{ReadError}
use Rattle.fs_io.specs.declared.reading.ReadError.TheVariants as reading
use Rattle.fs_schedule.specs.declared.error.Which.TheVariants.{Packets}
use Rattle.fs_launch.specs.declared.error.LaunchError.{LaunchError}
use Rattle.fs_launch.specs.declared.error.LaunchError.TheVariants as launch
use Rattle.fs_turns.specs.declared.stop.Stop.{Stop}
use Rattle.fs_turns.specs.declared.stop.Stop.TheVariants as stop
use Rattle.farsite.specs.declared.run_error.RunError.{RunError}
use Rattle.farsite.specs.declared.run_error.RunError.TheVariants as run
use Rattle.farsite.specs.declared.status.Status.{Status}
use Rattle.farsite.specs.declared.status.Status.TheVariants as status

-- the number with which the program ends
abbrev pub number_of : Status → ℕ
number_of status.Done = 0
number_of (status.Usage word) = 2
number_of (status.BadLine line) = 3
number_of (status.Skewed line earlier) = 4
number_of (status.Limit which at) = 5
number_of (status.TooLong limit) = 6
number_of status.ReadFault = 7
number_of status.WriteFault = 8
number_of (status.Spent counter) = 9
number_of status.Memory = 10
number_of status.LinkFault = 11

abbrev pub status_text : Status → List ℕ
status_text status.Done = codes "done"
status_text (status.Usage word) = codes "word " ++ decimal word ++ codes " is not understood"
status_text (status.BadLine line) = codes "line " ++ decimal line ++ codes " is not in the grammar"
status_text (status.Skewed line earlier) =
    codes "line " ++ (decimal line ++ (codes " is more than the skew before line " ++ decimal earlier))
status_text (status.Limit which at) = codes "line " ++ (decimal at ++ (codes " passes the limit of " ++ which_text which))
status_text (status.TooLong limit) = codes "the input has more than " ++ decimal limit ++ codes " bytes"
status_text status.ReadFault = codes "the input could not be read"
status_text status.WriteFault = codes "the output could not be written"
status_text (status.Spent counter) = codes "a counter is spent"
status_text status.Memory = codes "memory is wanting"
status_text status.LinkFault = codes "the address could not be bound"

-- the status of an input that was not read to its end
abbrev pub read_status : ReadError → Status
read_status reading.ReadFault = status.ReadFault
read_status (reading.TooLong limit) = status.TooLong limit
read_status reading.Memory = status.Memory

-- the status of an input that is no schedule, or no script
abbrev pub schedule_status : ScheduleError → Status
schedule_status (schedule.BadLine line) = status.BadLine line
schedule_status (schedule.Limit which at) = status.Limit which at
schedule_status (schedule.Skewed line earlier) = status.Skewed line earlier
schedule_status schedule.Memory = status.Memory

-- why a run is broken off at an event that is no step
abbrev pub run_error : CoreError → RunError
run_error (core.Spent counter) = run.Spent counter
run_error core.Memory = run.Memory

-- the status of a run that was broken off
abbrev pub run_status : RunError → Status
run_status (run.Spent counter) = status.Spent counter
run_status (run.Packets line) = status.Limit Packets line
run_status run.Memory = status.Memory

-- the status of a node that was broken off
abbrev pub stop_status : Stop → Status
stop_status stop.Write = status.WriteFault
stop_status (stop.Spent counter) = status.Spent counter
stop_status stop.Memory = status.Memory

-- the status of a node that did not end as it should
abbrev pub launch_status : LaunchError → Status
launch_status launch.Bind = status.LinkFault
launch_status (launch.Read why) = read_status why
launch_status (launch.Script why) = schedule_status why
launch_status (launch.Turns why) = stop_status why
