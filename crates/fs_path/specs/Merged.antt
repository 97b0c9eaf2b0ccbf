-- Names that join others in order of number, each number once.
use Rattle.std.specs.Prelude.{ℕ, List, [], ◌∷◌, if◌then◌else◌}
use Rattle.std.specs.List.{list_any}
use Rattle.fs_ident.specs.declared.actor.PathNo.{PathNo}
use Rattle.fs_path.specs.Index.{is_numbered, no_of_named, with_named}

-- one name more, unless its number is there
abbrev pub with_once : ℕ × PathNo → List (ℕ × PathNo) → List (ℕ × PathNo)
with_once name names = if list_any (is_numbered no_of_named name.1) names then names else with_named name names

-- each of these
abbrev pub with_each : List (ℕ × PathNo) → List (ℕ × PathNo) → List (ℕ × PathNo)
with_each [] names = names
with_each (n ∷ ns) names = with_each ns (with_once n names)
