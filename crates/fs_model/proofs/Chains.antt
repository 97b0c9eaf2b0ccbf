-- The way up from a directory, one step at a time.
use Rattle.std.proofs.Common.{◌≡◌, ℕ, zero, suc, ◌+◌, ◌-◌, ◌<◌, List, ◌∷◌, Bool, true, false, refl, sym, arith, nat_eq}
use Rattle.std.specs.Prelude.{Option, Some, None, is_some}
use Rattle.std.specs.FinMap.{get}
use Rattle.std.specs.Cmp.Lexicographic.{pointwise}
use Rattle.std.proofs.Math.Bool.{or-false}
use Rattle.fs_model.specs.Ancestors.{directory_of, ancestors_within, is_among}
use Rattle.fs_model.specs.Namespace.{NodeMap}
use Rattle.fs_model.specs.Ways.{directory_from}

-- the file is this directory or one of so many above it
abbrev pub reaches : ℕ → NodeMap → List ℕ → List ℕ → Bool
reaches k m file at = is_among file (at ∷ ancestors_within k m at)

pub reaches_here : (k : ℕ) (m : NodeMap) (file at : List ℕ) → pointwise nat_eq at file ≡ true → reaches k m file at ≡ true
reaches_here k m file at e = rw e

pub reaches_top : (k : ℕ) (m : NodeMap) (file at : List ℕ) → pointwise nat_eq at file ≡ false → directory_of (get m at) ≡ None → reaches k m file at ≡ false
reaches_top zero m file at e top = rw e
reaches_top (suc k) m file at e top = rw (e, top)

pub reaches_up : (n i : ℕ) (m : NodeMap) (file at up : List ℕ) → i < n → pointwise nat_eq at file ≡ false → directory_of (get m at) ≡ Some up → reaches (n - i) m file at ≡ reaches (n - (i + 1)) m file up
reaches_up n i m file at up lt e is =
    let one : n - i ≡ suc (n - (i + 1)) = omega arith in
    rw (one, e, is)

pub reaches_last : (n i : ℕ) (m : NodeMap) (file at : List ℕ) → n - i ≡ 0 → reaches (n - i) m file at ≡ pointwise nat_eq at file
reaches_last n i m file at e = rw e (or-false (pointwise nat_eq at file))

-- the file is the one at a place or one of so many above it
abbrev pub reaches_from : ℕ → NodeMap → List ℕ → Option (List ℕ) → Bool
reaches_from k m file None = false
reaches_from k m file (Some at) = reaches k m file at

abbrev pub is_the_file : List ℕ → Option (List ℕ) → Bool
is_the_file file None = false
is_the_file file (Some at) = pointwise nat_eq at file

pub from_start : (n : ℕ) (m : NodeMap) (file dir : List ℕ) (at : Option (List ℕ)) → at ≡ Some dir → reaches n m file dir ≡ reaches_from (n - 0) m file at
from_start n m file dir at e = let same : n - 0 ≡ n = omega arith in rw (same, e)

pub from_here : (k : ℕ) (m : NodeMap) (file : List ℕ) (at : Option (List ℕ)) → is_the_file file at ≡ true → reaches_from k m file at ≡ true
from_here k m file None e = e
from_here k m file (Some at) e = reaches_here k m file at e

pub from_top : (k : ℕ) (m : NodeMap) (file : List ℕ) (at : Option (List ℕ)) → is_the_file file at ≡ false → None ≡ directory_from m at → reaches_from k m file at ≡ false
from_top k m file None e top = refl
from_top k m file (Some at) e top = reaches_top k m file at e (sym top)

pub from_up : (n i : ℕ) (m : NodeMap) (file : List ℕ) (at up : Option (List ℕ)) → i < n → is_the_file file at ≡ false → is_some up ≡ true → up ≡ directory_from m at → reaches_from (n - i) m file at ≡ reaches_from (n - (i + 1)) m file up
from_up n i m file at None lt e h is = absurd (cc)
from_up n i m file None (Some up) lt e h is = absurd (cc)
from_up n i m file (Some at) (Some up) lt e h is = reaches_up n i m file at up lt e (sym is)

pub from_last : (n i : ℕ) (m : NodeMap) (file : List ℕ) (at : Option (List ℕ)) → n - i ≡ 0 → reaches_from (n - i) m file at ≡ is_the_file file at
from_last n i m file None e = refl
from_last n i m file (Some at) e = reaches_last n i m file at e
