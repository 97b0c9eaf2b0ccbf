-- What a value tells, where it is known.
use Rattle.std.specs.Prelude.{ℕ, Bool, false, List, [], ◌∷◌, Option, Some, None, ◌==◌, if◌then◌else◌}
use Rattle.std.specs.List.{list_any, filter}
use Rattle.fs_ident.specs.declared.kind.Kind.{Kind}
use Rattle.fs_modes.specs.declared.modes.Mode.{Mode}
use Rattle.fs_modes.specs.declared.modes.Mode.TheVariants.{AccR, AccW, AccD, DenyR, DenyW, DenyD}
use Rattle.fs_modes.specs.declared.modes.Modes.{Modes}
use Rattle.fs_modes.specs.Modes.{none, or, has, conflicts}
use Rattle.fs_field.specs.declared.value.Value.{Value}
use Rattle.fs_field.specs.declared.value.Value.TheVariants as value
use Rattle.fs_field.specs.After.{Handles}

-- what the file is, or that it does not live
abbrev pub life_told : Option Value → Option (Option Kind)
life_told (Some (value.Life kind)) = Some kind
life_told v = None

-- what has the name, or that nothing has it
abbrev pub child_told : Option Value → Option (Option (List ℕ))
child_told (Some (value.Child child)) = Some child
child_told v = None

abbrev pub names_told : Option Value → Option (List (List ℕ))
names_told (Some (value.Names names)) = Some names
names_told v = None

abbrev pub own_told : Option Value → Option Handles
own_told (Some (value.Own own)) = Some own
own_told v = None

-- it is known that another session has the mode
abbrev pub is_other_told : Option Value → Bool
is_other_told (Some (value.Other held)) = held
is_other_told v = false

-- ## The session's own handles

-- the modes under the handle
abbrev pub modes_under : Handles → ℕ → Option Modes
modes_under [] h = None
modes_under (x ∷ xs) h = if x.0 == h then Some x.1 else modes_under xs h

-- what the handles have together
abbrev pub all_modes : Handles → Modes
all_modes [] = none
all_modes (x ∷ xs) = or x.1 (all_modes xs)

abbrev pub own_conflicts : Handles → Modes → Bool
own_conflicts own modes = list_any (λ x. conflicts x.1 modes) own

-- the modes that are there, in the order of the six
abbrev pub modes_listed : Modes → List Mode
modes_listed m = filter (has m) (AccR ∷ AccW ∷ AccD ∷ DenyR ∷ DenyW ∷ DenyD ∷ [])
