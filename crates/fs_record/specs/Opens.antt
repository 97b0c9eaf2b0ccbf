-- The files that are open.
use Rattle.std.specs.Prelude.{ℕ, Bool, true, not, ◌&&◌, List, [], ◌∷◌, Option}
use Rattle.std.specs.List.{filter, list_all}
use Rattle.std.specs.FinMap.{get, keys}
use Rattle.fs_ident.specs.Ident.{same}
use Rattle.fs_model.specs.declared.node.Node.{Node}
use Rattle.fs_model.specs.Step.{is_unused}
use Rattle.fs_record.specs.Records.{RecordMap, node_of}

-- some session has a handle
abbrev pub is_open : Option Node → Bool
is_open o = not (is_unused o)

-- the files with handles, in order
abbrev pub open_files : RecordMap → List (List ℕ)
open_files m = filter (λ f. is_open (node_of (get m f))) (keys m)

-- no file stands twice
abbrev pub are_apart : List (List ℕ) → Bool
are_apart [] = true
are_apart (f ∷ fs) = list_all (λ g. not (same g f)) fs && are_apart fs
