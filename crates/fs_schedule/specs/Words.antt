-- Lines as words parted by one space.
use Rattle.std.specs.Prelude.{ℕ, List, [], ◌∷◌, ◌++◌, flat_map}
use Rattle.fs_ident.specs.Texts.{quoted}

-- a word of a line: bare bytes, or a name that stands in double quotes
pub data Word : Type 0 where
  Bare : List ℕ → Word
  Quoted : List ℕ → Word

abbrev pub word_text : Word → List ℕ
word_text (Bare bytes) = bytes
word_text (Quoted name) = quoted name

-- the words, parted by one space
abbrev pub line_text : List Word → List ℕ
line_text [] = []
line_text (w ∷ ws) = word_text w ++ flat_map (λ v. 32 ∷ word_text v) ws
