-- Bytes between separators.
use Rattle.std.specs.Prelude.{◌≡◌, ℕ, Bool, false, List, [], ◌∷◌, ◌==◌, Option, Some, None}
use Rattle.std.specs.List.{AllByRecursion}
use Rattle.fs_schedule.specs.Words.{Word, Bare, Quoted, line_text}

-- the byte is none of these
abbrev pub Lacks : ℕ → List ℕ → Type 0
Lacks b bytes = AllByRecursion (λ x. (x == b) ≡ false) bytes

abbrev pub begins_quoted : List ℕ → Bool
begins_quoted [] = false
begins_quoted (b ∷ bs) = b == 34

-- what can stand as a word: bare bytes without a space that do not begin with a quote, or a name without a quote
abbrev pub FitsWord : Word → Type 0
FitsWord (Bare bytes) = Lacks 32 bytes × (begins_quoted bytes ≡ false)
FitsWord (Quoted name) = Lacks 34 name

-- the bytes behind a separator, if it stands there
abbrev pub rest_from : ℕ → Option (List ℕ) → List ℕ
rest_from b None = []
rest_from b (Some bytes) = b ∷ bytes

-- the line is made of these words, of one at least
abbrev pub AreWords : List Word → List ℕ → Type 0
AreWords [] line = ⊥
AreWords (w ∷ ws) line = FitsWord w × AllByRecursion FitsWord ws × (line ≡ line_text (w ∷ ws))
