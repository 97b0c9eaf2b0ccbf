-- One thing at most, as a list.
use Rattle.std.specs.Prelude.{List, [], ◌∷◌, Option, Some, None}

-- the one, if there is one
abbrev pub listed : {X : Type 0} → Option X → List X
listed None = []
listed (Some x) = x ∷ []
