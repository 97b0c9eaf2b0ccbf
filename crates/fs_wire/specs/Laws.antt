-- What the laws say of a spelling: of what reads it, of the values that have one, and of their texts.
use Rattle.std.specs.Prelude.{◌≡◌, ◌++◌, ℕ, List, Ok}
use Rattle.fs_wire.specs.Ranges.{IsBytes}
use Rattle.fs_wire.specs.Readers.{Reader}

-- what is spelled is read, whatever follows
abbrev pub IsReadBack : {A : Type 0} → Reader A → (A → Type 0) → (A → List ℕ) → Type 0
IsReadBack {A = A} read Fits text = (v : A) (rest : List ℕ) → Fits v → read (text v ++ rest) ≡ Ok (v, rest)

-- what is read was spelled so
abbrev pub WasSpelled : {A : Type 0} → Reader A → (A → Type 0) → (A → List ℕ) → Type 0
WasSpelled {A = A} read Fits text =
    (bytes rest : List ℕ) (v : A) → IsBytes bytes → read bytes ≡ Ok (v, rest) → Fits v × (bytes ≡ text v ++ rest)
