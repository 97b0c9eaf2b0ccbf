-- How modes are written: letters of RWD in this order, and `-` for no denial.
use Rattle.std.specs.Prelude.{ℕ, Bool, List, ◌++◌, codes, if◌then◌else◌, [], ◌∷◌}
use Rattle.fs_modes.specs.declared.modes.Mode.{Mode}
use Rattle.fs_modes.specs.declared.modes.Mode.TheVariants.{AccR, AccW, AccD, DenyR, DenyW, DenyD}
use Rattle.fs_modes.specs.declared.modes.Modes.{Modes}

-- the letters of those that are there
abbrev pub letters : Bool → Bool → Bool → List ℕ
letters r w d = (if r then codes "R" else []) ++ (if w then codes "W" else []) ++ (if d then codes "D" else [])

abbrev pub acc_text : Modes → List ℕ
acc_text m = letters m.acc_r m.acc_w m.acc_d

-- the letters, or a dash for none
abbrev pub dashed : List ℕ → List ℕ
dashed [] = codes "-"
dashed (b ∷ bs) = b ∷ bs

abbrev pub deny_text : Modes → List ℕ
deny_text m = dashed (letters m.deny_r m.deny_w m.deny_d)

abbrev pub mode_text : Mode → List ℕ
mode_text AccR = codes "aR"
mode_text AccW = codes "aW"
mode_text AccD = codes "aD"
mode_text DenyR = codes "dR"
mode_text DenyW = codes "dW"
mode_text DenyD = codes "dD"
