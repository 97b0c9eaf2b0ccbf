-- What nodes count.
use Rattle.std.specs.Prelude.{ℕ, ◌+◌, ◌-◌, ◌^◌, min}

-- so many more, but no more than the end of its type
abbrev pub raised_by : ℕ → ℕ → ℕ
raised_by n more = min (n + more) (2 ^ 64 - 1)
