-- A lease that is taken out of its place and put back, and a table of which nothing is asked back.
use Rattle.std.proofs.Common.{◌≡◌, ◌∙◌, ℕ, zero, suc, ◌<◌, Bool, true, false, not, List, [], ◌∷◌, refl, sym, ap, cond, length, get_or, map, arith}
use Rattle.std.specs.Prelude.{◌&&◌, Option, Some, None, slice_set, option_map}
use Rattle.std.specs.List.{filter, find, insert, remove}
use Rattle.fs_path.specs.Leases.{PathLease}
use Rattle.fs_path.specs.Returns.{asked_back, goes_back, held_after, is_needed}
use Rattle.fs_path.specs.Tables.{leaving}
use Rattle.fs_path.specs.declared.having.Having.{Having}

pub same_there : {X : Type 0} (xs : List X) (at : ℕ) (x y : X) → at < length xs → x ≡ get_or xs at x → y ≡ get_or xs at y → x ≡ y
same_there [] at x y h e f = absurd (omega (arith, h))
same_there (k ∷ ks) zero x y h e f = e ∙ sym f
same_there (k ∷ ks) (suc at) x y h e f = same_there ks at x y (omega (arith, h)) e f

pub put_back : {X : Type 0} (xs : List X) (at : ℕ) (y : X) → at < length xs → insert (remove xs at) at y ≡ slice_set xs at y
put_back [] at y h = absurd (omega (arith, h))
put_back (x ∷ xs) zero y h = refl
put_back (x ∷ xs) (suc at) y h = ap (λ ys. x ∷ ys) (put_back xs at y (omega (arith, h)))

absent : {X Y : Type 0} (f : X → Y) (o : Option X) → option_map f o ≡ None → o ≡ None
absent f None e = refl
absent f (Some x) e = absurd (cc e)

pub none_back : (asked : Having → Bool) (issued : List PathLease) (held : List Having) → find asked held ≡ None → held_after asked issued held ≡ held
none_back asked issued [] e = refl
none_back asked issued (h ∷ hs) e = by (asked h) refl e (none_back asked issued hs)
  where
    by : (b : Bool) → asked h ≡ b → cond b (Some h) (find asked hs) ≡ None → (find asked hs ≡ None → held_after asked issued hs ≡ hs)
        → map (asked_back asked) (cond (not (b && not (is_needed issued h))) (h ∷ filter (λ x. not (goes_back asked issued x)) hs) (filter (λ x. not (goes_back asked issued x)) hs)) ≡ h ∷ hs
    by true q s rest = absurd (cc s)
    by false q s rest = ap (λ x. x ∷ held_after asked issued hs) (ap (λ c. cond c (leaving h) h) q) ∙ ap (λ xs. h ∷ xs) (rest s)

-- nothing of the number is had
pub none_of : {Y : Type 0} (f : Having → Y) (asked : Having → Bool) (issued : List PathLease) (held : List Having) → option_map f (find asked held) ≡ None → held_after asked issued held ≡ held
none_of f asked issued held e = none_back asked issued held (absent f (find asked held) e)
