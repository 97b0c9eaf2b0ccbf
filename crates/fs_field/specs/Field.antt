-- The fields of files, and when two of them are one.
use Rattle.std.specs.Prelude.{ℕ, Bool, true, false, List, ◌==◌, ◌&&◌}
use Rattle.fs_ident.specs.Ident.{same}
use Rattle.fs_modes.specs.declared.modes.Mode.{Mode}
use Rattle.fs_modes.specs.declared.modes.Mode.TheVariants.{AccR, AccW, AccD, DenyR, DenyW, DenyD}
use Rattle.fs_field.specs.declared.field.Field.{Field}
use Rattle.fs_field.specs.declared.field.Field.TheVariants.{Life, Child, Names, Info, Own, SelfW, Other}

-- the place of a mode among the six
abbrev pub mode_rank : Mode → ℕ
mode_rank AccR = 0
mode_rank AccW = 1
mode_rank AccD = 2
mode_rank DenyR = 3
mode_rank DenyW = 4
mode_rank DenyD = 5

-- the two modes are one
abbrev pub same_mode : Mode → Mode → Bool
same_mode m n = mode_rank m == mode_rank n

-- the two fields are one
abbrev pub same_field : Field → Field → Bool
same_field (Life a) (Life b) = same a b
same_field (Child a m) (Child b n) = same a b && same m n
same_field (Names a) (Names b) = same a b
same_field (Info a) (Info b) = same a b
same_field (Own a) (Own b) = same a b
same_field (SelfW a m) (SelfW b n) = same a b && same_mode m n
same_field (Other a m) (Other b n) = same a b && same_mode m n
same_field a b = false

-- the file of a field
abbrev pub file_of : Field → List ℕ
file_of (Life a) = a
file_of (Child a n) = a
file_of (Names a) = a
file_of (Info a) = a
file_of (Own a) = a
file_of (SelfW a m) = a
file_of (Other a m) = a

-- a field that is no part of what sessions tell of modes
abbrev pub tells_no_mode : Field → Bool
tells_no_mode (SelfW f m) = false
tells_no_mode (Other f m) = false
tells_no_mode field = true
