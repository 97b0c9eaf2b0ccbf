-- Lists that stand at files.
use Rattle.std.specs.Prelude.{◌≡◌, ℕ, List, [], Option, Some, None, if◌then◌else◌}
use Rattle.std.specs.BTreeMap.{BTreeMap}
use Rattle.std.specs.FinMap.{get}
use Rattle.fs_ident.specs.Ident.{same}
use Rattle.fs_ident.specs.Maps.{map_of}
use Rattle.fs_path.specs.Walk.{is_among}

-- the items of each file
abbrev pub FilesOf : Type 0 → Type 0
FilesOf X = BTreeMap (List ℕ) (List X)

-- nothing where there is no list
abbrev pub listed : {X : Type 0} → Option (List X) → List X
listed None = []
listed (Some xs) = xs

abbrev pub listed_at : {X : Type 0} → FilesOf X → List ℕ → List X
listed_at files file = listed (get (map_of files) file)

-- the items at this file change so, and those at others do not
abbrev pub ChangesAt : {X : Type 0} → (List X → List X) → List ℕ → FilesOf X → FilesOf X → Type 0
ChangesAt change file old new = (f : List ℕ) → listed_at new f ≡ if same f file then change (listed_at old f) else listed_at old f

-- so it is at each of these files
abbrev pub ChangesAmong : {X : Type 0} → (List X → List X) → List (List ℕ) → FilesOf X → FilesOf X → Type 0
ChangesAmong change files old new = (f : List ℕ) → listed_at new f ≡ if is_among f files then change (listed_at old f) else listed_at old f
