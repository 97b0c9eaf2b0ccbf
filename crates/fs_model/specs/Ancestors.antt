-- The files reached from a file by following parents.
use Rattle.std.specs.Prelude.{ℕ, zero, suc, Bool, List, [], ◌∷◌, Option, Some, None, nat_eq, option_map}
use Rattle.std.specs.Option.{option_map_or}
use Rattle.std.specs.List.{list_any}
use Rattle.std.specs.FinMap.{get, len}
use Rattle.std.specs.Cmp.Lexicographic.{pointwise}
use Rattle.fs_model.specs.declared.node.Node.{Node}
use Rattle.fs_model.specs.Namespace.{NodeMap}

-- the directory that the node is in
abbrev pub directory_of : Option Node → Option (List ℕ)
directory_of None = None
directory_of (Some n) = option_map (λ p. p.0) n.parent

-- the first so many ancestors, the nearest first
abbrev pub ancestors_within : ℕ → NodeMap → List ℕ → List (List ℕ)
ancestors_within zero m id = []
ancestors_within (suc k) m id = option_map_or (λ dir. dir ∷ ancestors_within k m dir) (directory_of (get m id)) []

-- all ancestors: a chain of parents that meets no file twice is no longer than there are nodes
abbrev pub ancestors : NodeMap → List ℕ → List (List ℕ)
ancestors m id = ancestors_within (len m) m id

-- the file is one of these
abbrev pub is_among : List ℕ → List (List ℕ) → Bool
is_among id ids = list_any (λ other. pointwise nat_eq other id) ids

-- the file is this directory or an ancestor of it
abbrev pub is_on_chain : NodeMap → List ℕ → List ℕ → Bool
is_on_chain m file dir = is_among file (dir ∷ ancestors m dir)
