-- What operations are asked of and fields are of, and the words of it.
use Rattle.std.specs.Prelude.{◌≡◌, ℕ, ◌<◌, ◌^◌, true, List, [], ◌∷◌}
use Rattle.std.specs.Fmt.{decimal}
use Rattle.fs_ident.specs.Ident.{IsId}
use Rattle.fs_ident.specs.IdText.{id_text}
use Rattle.fs_ident.specs.Name.{IsName}
use Rattle.fs_ident.specs.declared.kind.Kind.{Kind}
use Rattle.fs_modes.specs.declared.modes.Mode.{Mode}
use Rattle.fs_modes.specs.declared.modes.Modes.{Modes}
use Rattle.fs_modes.specs.Modes.{has_access}
use Rattle.fs_modes.specs.Letters.{acc_text, deny_text, mode_text}
use Rattle.fs_schedule.specs.Words.{Word, Bare, Quoted}
use Rattle.fs_schedule.specs.Spelling.{kind_text}

-- a file and a mode
abbrev pub file_mode_words : List ℕ × Mode → List Word
file_mode_words p = Bare (id_text p.0) ∷ Bare (mode_text p.1) ∷ []

abbrev pub IsFileMode : List ℕ × Mode → Type 0
IsFileMode p = IsId p.0

-- a directory and a name in it
abbrev pub place_words : List ℕ × List ℕ → List Word
place_words p = Bare (id_text p.0) ∷ Quoted p.1 ∷ []

abbrev pub IsPlace : List ℕ × List ℕ → Type 0
IsPlace p = IsId p.0 × IsName p.1

-- the same and a kind
abbrev pub entry_words : List ℕ × List ℕ × Kind → List Word
entry_words p = Bare (id_text p.0) ∷ Quoted p.1 ∷ Bare (kind_text p.2) ∷ []

abbrev pub IsEntry : List ℕ × List ℕ × Kind → Type 0
IsEntry p = IsId p.0 × IsName p.1

-- two places
abbrev pub places_words : List ℕ × List ℕ × List ℕ × List ℕ → List Word
places_words p = Bare (id_text p.0) ∷ Quoted p.1 ∷ Bare (id_text p.2) ∷ Quoted p.3 ∷ []

abbrev pub ArePlaces : List ℕ × List ℕ × List ℕ × List ℕ → Type 0
ArePlaces p = IsId p.0 × IsName p.1 × IsId p.2 × IsName p.3

-- a file and the number of a handle
abbrev pub handle_words : List ℕ × ℕ → List Word
handle_words p = Bare (id_text p.0) ∷ Bare (decimal p.1) ∷ []

abbrev pub IsHandle : List ℕ × ℕ → Type 0
IsHandle p = IsId p.0 × (p.1 < 2 ^ 32)

-- the same and modes
abbrev pub opening_words : List ℕ × ℕ × Modes → List Word
opening_words p = Bare (id_text p.0) ∷ Bare (decimal p.1) ∷ Bare (acc_text p.2) ∷ Bare (deny_text p.2) ∷ []

abbrev pub IsOpening : List ℕ × ℕ × Modes → Type 0
IsOpening p = IsId p.0 × (p.1 < 2 ^ 32) × (has_access p.2 ≡ true)

-- a size and a stamp
abbrev pub values_words : ℕ × ℕ → List Word
values_words p = Bare (decimal p.0) ∷ Bare (decimal p.1) ∷ []

abbrev pub AreValues : ℕ × ℕ → Type 0
AreValues p = (p.0 < 2 ^ 64) × (p.1 < 2 ^ 64)

-- a file, the number of a handle, and these
abbrev pub setting_words : List ℕ × ℕ × ℕ × ℕ → List Word
setting_words p = Bare (id_text p.0) ∷ Bare (decimal p.1) ∷ Bare (decimal p.2) ∷ Bare (decimal p.3) ∷ []

abbrev pub IsSetting : List ℕ × ℕ × ℕ × ℕ → Type 0
IsSetting p = IsId p.0 × (p.1 < 2 ^ 32) × (p.2 < 2 ^ 64) × (p.3 < 2 ^ 64)
