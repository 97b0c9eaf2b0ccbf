-- How far bytes begin a spelling, and where tags stand in it: apart from any way of reading.
use Rattle.std.specs.Prelude.{◌≡◌, ℕ, ◌-◌, ◌≤◌, Bool, true, false, List, [], ◌∷◌, ◌++◌, length, take, get_or, Err}
use Rattle.fs_wire.specs.declared.fault.Fault.{Fault}
use Rattle.fs_wire.specs.Ranges.{IsBytes}
use Rattle.fs_wire.specs.Readers.{Reader}

-- some spelling begins with the bytes, or is the bytes
pub record IsPrefix {A : Type 0} (Fits : A → Type 0) (text : A → List ℕ) (bytes : List ℕ) : Type 0 where
  pub whole : A
  pub fits : Fits whole
  pub rest : List ℕ
  pub begins : text whole ≡ bytes ++ rest

-- some spelling begins with the bytes and goes on
pub record IsProperPrefix {A : Type 0} (Fits : A → Type 0) (text : A → List ℕ) (bytes : List ℕ) : Type 0 where
  pub whole : A
  pub fits : Fits whole
  pub next : ℕ
  pub rest : List ℕ
  pub begins : text whole ≡ bytes ++ next ∷ rest

-- some spelling begins with the bytes and has a tag next
pub record HasTagNext {A : Type 0} (Fits : A → Type 0) (text : A → List ℕ) (tags : A → List Bool) (bytes : List ℕ) : Type 0 where
  pub whole : A
  pub fits : Fits whole
  pub rest : List ℕ
  pub begins : text whole ≡ bytes ++ rest
  pub tag : get_or (tags whole) (length bytes) false ≡ true

-- no front of the bytes is a spelling; those up to the fault's place begin one that goes on, no more of them do, and the fault says
-- whether a tag is next there
pub record IsInPlace {A : Type 0} (Fits : A → Type 0) (text : A → List ℕ) (tags : A → List Bool) (bytes : List ℕ) (f : Fault) : Type 0 where
  pub none : (k : ℕ) (v : A) → Fits v → take k bytes ≡ text v → ⊥
  pub within : f.left ≤ length bytes
  pub begins : IsProperPrefix Fits text (take (length bytes - f.left) bytes)
  pub longest : (k : ℕ) → k ≤ length bytes → IsPrefix Fits text (take k bytes) → k ≤ length bytes - f.left
  pub tag : f.tag ≡ true → HasTagNext Fits text tags (take (length bytes - f.left) bytes)
  pub other : HasTagNext Fits text tags (take (length bytes - f.left) bytes) → f.tag ≡ true

-- where reading stops, it says the place
abbrev pub StopsInPlace : {A : Type 0} → Reader A → (A → Type 0) → (A → List ℕ) → (A → List Bool) → Type 0
StopsInPlace read Fits text tags = (bytes : List ℕ) (f : Fault) → IsBytes bytes → read bytes ≡ Err f → IsInPlace Fits text tags bytes f

-- spellings are told apart by their bytes: none is a proper prefix of another, and two with the same bytes are of one value
abbrev pub AreApart : {A : Type 0} → (A → Type 0) → (A → List ℕ) → Type 0
AreApart {A = A} Fits text = (v w : A) (rest : List ℕ) → Fits v → Fits w → text w ≡ text v ++ rest → (rest ≡ []) × (v ≡ w)
