-- The lines with which a node ends.
use Rattle.std.specs.Prelude.{ℕ, List, ◌++◌, codes}
use Rattle.std.specs.Fmt.{decimal}

-- the client's entry of that number was refused
abbrev pub over_line : ℕ → List ℕ
over_line n = codes "over " ++ (decimal n ++ codes "\n")

-- something is left to do; so many lines of the script were done
abbrev pub open_line : ℕ → List ℕ
open_line lines = codes "open " ++ (decimal lines ++ codes "\n")

-- what was counted
abbrev pub summary_line : ℕ → ℕ → ℕ → ℕ → ℕ → List ℕ
summary_line turns admitted dropped receive_faults send_faults =
    codes "summary turns " ++ (decimal turns ++ (codes " admitted " ++ (decimal admitted ++ (codes " dropped " ++ (decimal dropped
    ++ (codes " receive_faults " ++ (decimal receive_faults ++ (codes " send_faults " ++ (decimal send_faults ++ codes "\n")))))))))
