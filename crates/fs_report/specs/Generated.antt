-- The line that a made schedule's run comes to.
use Rattle.std.specs.Prelude.{ℕ, List, ◌++◌, codes}
use Rattle.std.specs.Fmt.{decimal}

-- from which number it was made, and how many events, items of the journal, refused entries and nodes there are
abbrev pub generated_line : ℕ → ℕ → ℕ → ℕ → ℕ → List ℕ
generated_line n events journal refused nodes =
    codes "gen " ++ (decimal n ++ (codes " events " ++ (decimal events ++ (codes " journal " ++ (decimal journal
    ++ (codes " refused " ++ (decimal refused ++ (codes " nodes " ++ (decimal nodes ++ codes "\n")))))))))
