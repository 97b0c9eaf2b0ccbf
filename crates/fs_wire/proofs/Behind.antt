-- What stands behind the first tag of a choice, for choices that are made of others.
use Rattle.std.proofs.Common.{◌≡◌, ℕ, ◌<◌, ◌||◌, not, Bool, true, false, List, ◌∷◌}
use Rattle.fs_wire.specs.Readers.{Reader, either_at}
use Rattle.fs_wire.proofs.Says.{Says}

-- the text is a tag that passes the test, and behind it what the tag's reader reads
pub record IsBehind {A : Type 0} (of : ℕ → Reader A) (test : ℕ → Bool) (v : A) (text : List ℕ) (tags : List Bool) : Type 0 where
  pub tag : ℕ
  pub below : tag < 256
  pub passes : test tag ≡ true
  pub rest : List ℕ
  pub marks : List Bool
  pub says : Says (of tag) v rest marks
  pub text_is : tag ∷ rest ≡ text
  pub tags_is : true ∷ marks ≡ tags

pub behind : {A : Type 0} {of : ℕ → Reader A} {test : ℕ → Bool} {v : A} {text rest : List ℕ} {tags marks : List Bool} (k : ℕ) → k < 256 → test k ≡ true → Says (of k) v rest marks → k ∷ rest ≡ text → true ∷ marks ≡ tags → IsBehind of test v text tags
behind {A} {of} {test} {v} {text} {rest} {tags} {marks} k lt passes s text_is tags_is = record { tag = k; below = lt; passes = passes; rest = rest; marks = marks; says = s; text_is = text_is; tags_is = tags_is }

pub first-says : {A : Type 0} (t : Bool) {first : Reader A} (second : Reader A) {v : A} {text : List ℕ} {tags : List Bool} → t ≡ true → Says first v text tags → Says (either_at t first second) v text tags
unfolding either_at
first-says true second e s = s
first-says false second e s = absurd cc

pub second-says : {A : Type 0} (t : Bool) (first : Reader A) {second : Reader A} {v : A} {text : List ℕ} {tags : List Bool} → t ≡ false → Says second v text tags → Says (either_at t first second) v text tags
unfolding either_at
second-says true first e s = absurd cc
second-says false first e s = s

-- a tag of the list that is not the first one is one of the others
pub other : (a b : Bool) → (a || b) ≡ true → a ≡ false → b ≡ true
other true b e h = absurd cc
other false b e h = e

pub implied : (a b : Bool) → (not a || b) ≡ true → a ≡ true → b ≡ true
implied true b e h = e
implied false b e h = absurd cc
