-- The lines of a report.
use Rattle.std.specs.Prelude.{ℕ, ◌+◌, ◌==◌, List, Option, Some, None, length, position}

abbrev pub len_at : Option ℕ → ℕ → ℕ
len_at None all = all
len_at (Some k) all = k + 1

-- how many bytes the first line has, with its line feed, or how many there are where there is none
abbrev pub line_len : List ℕ → ℕ
line_len bytes = len_at (position (λ b. b == 10) bytes) (length bytes)
