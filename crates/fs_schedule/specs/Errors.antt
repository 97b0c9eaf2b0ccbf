-- The texts of errors.
use Rattle.std.specs.Prelude.{ℕ, List, ◌++◌, codes}
use Rattle.std.specs.Fmt.{decimal}
use Rattle.fs_schedule.specs.Limits.{which_text}
use Rattle.fs_schedule.specs.declared.error.ScheduleError.{ScheduleError}
use Rattle.fs_schedule.specs.declared.error.ScheduleError.TheVariants.{BadLine, Limit, Skewed, Memory}

abbrev pub error_text : ScheduleError → List ℕ
error_text (BadLine line) = codes "line " ++ decimal line ++ codes " is not in the grammar"
error_text (Limit which at) = codes "line " ++ (decimal at ++ (codes " passes the limit of " ++ which_text which))
error_text (Skewed line earlier) = codes "line " ++ (decimal line ++ (codes " is more than the skew before line " ++ decimal earlier))
error_text Memory = codes "memory is wanting"
