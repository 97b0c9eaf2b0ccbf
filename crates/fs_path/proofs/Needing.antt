-- Leases that leave, each of which a path needs that was given out.
use Rattle.std.proofs.Common.{◌≡◌, ◌∙◌, ◌&&◌, ◌||◌, Bool, true, false, not, List, [], ◌∷◌, refl, sym, ap, subst, cond, map}
use Rattle.std.specs.Prelude.{Ok, Err, OnOk, OnErr, Result}
use Rattle.fs_ident.specs.declared.memory.Memory.{Memory}
use Rattle.std.specs.List.{filter, list_any}
use Rattle.fs_ident.specs.Ordered.{put_before}
use Rattle.fs_ident.proofs.Booleans.{neither}
use Rattle.fs_path.specs.Leases.{PathLease, goes_over, path_before}
use Rattle.fs_path.specs.Returns.{AreNeeded, asked_back, goes_back, held_after, is_needed}
use Rattle.fs_path.specs.Tables.{is_leaving, lease_of, leaving, with_held, with_issued}
use Rattle.fs_path.specs.declared.having.Having.{Having}
use Rattle.fs_path.specs.declared.having.Having.TheVariants.{Held}

-- ## One more in a list

first_or : (a b c : Bool) → (a || (b || c)) ≡ (b || (a || c))
first_or true true c = refl
first_or true false c = refl
first_or false b c = refl

-- one of them passes where the new one does, or one of the others
any_put : {X : Type 0} (test greater : X → Bool) (new : X) (xs : List X) → list_any test (put_before greater new xs) ≡ (test new || list_any test xs)
any_put test greater new [] = refl
any_put test greater new (x ∷ xs) = by (greater x) (any_put test greater new xs)
  where
    by : (b : Bool) → list_any test (put_before greater new xs) ≡ (test new || list_any test xs) → list_any test (cond b (new ∷ x ∷ xs) (x ∷ put_before greater new xs)) ≡ (test new || (test x || list_any test xs))
    by true rest = refl
    by false rest = ap (λ b. test x || b) rest ∙ first_or (test x) (test new) (list_any test xs)

-- none passes a test that is harder
none_harder : {X : Type 0} (test other : X → Bool) (xs : List X) → ((x : X) → test x ≡ false → other x ≡ false) → list_any test xs ≡ false → list_any other xs ≡ false
none_harder test other [] f h = refl
none_harder test other (x ∷ xs) f h =
    let q = neither (test x) (list_any test xs) h in
    ap (λ b. b || list_any other xs) (f x q.0) ∙ none_harder test other xs f q.1

-- ## They are needed

harder : (a b c : Bool) → (a && not c) ≡ false → (a && not (b || c)) ≡ false
harder true true c h = refl
harder true false c h = h
harder false b c h = refl

-- with one lease more given out
pub needed_issued : (l : PathLease) (issued : List PathLease) (held : List Having) → AreNeeded issued held → AreNeeded (with_issued l issued) held
needed_issued l issued held h = none_harder (goes_back is_leaving issued) (goes_back is_leaving (with_issued l issued)) held
    (λ x e. ap (λ b. is_leaving x && not b) (any_put (goes_over (lease_of x).file) (λ y. path_before l.no y.no) l issued)
    ∙ harder (is_leaving x) (goes_over (lease_of x).file l) (is_needed issued x) e)
    h

-- with one more from another server, which does not leave
pub needed_held : (l : PathLease) (issued : List PathLease) (held : List Having) → AreNeeded issued held → AreNeeded issued (with_held (Held l) held)
needed_held l issued held h = any_put (goes_back is_leaving issued) (λ x. path_before l.no (lease_of x).no) (Held l) held ∙ h

stays_needed : (issued : List PathLease) (h : Having) (a n : Bool) → (a && not n) ≡ false → is_needed issued h ≡ n → goes_back is_leaving issued h ≡ false → goes_back is_leaving issued (cond a (leaving h) h) ≡ false
stays_needed issued h true n e q k = ap not q ∙ e
stays_needed issued h false n e q k = k

-- where those asked back go, but for those that are needed
pub needed_after : (asked : Having → Bool) (issued : List PathLease) (held : List Having) → AreNeeded issued held → AreNeeded issued (held_after asked issued held)
needed_after asked issued [] h = refl
needed_after asked issued (x ∷ xs) h =
    let q = neither (goes_back is_leaving issued x) (list_any (goes_back is_leaving issued) xs) h in
    by (goes_back asked issued x) refl q.0 (needed_after asked issued xs q.1)
  where
    by : (b : Bool) → goes_back asked issued x ≡ b → goes_back is_leaving issued x ≡ false → list_any (goes_back is_leaving issued) (held_after asked issued xs) ≡ false
        → list_any (goes_back is_leaving issued) (map (asked_back asked) (cond (not b) (x ∷ filter (λ y. not (goes_back asked issued y)) xs) (filter (λ y. not (goes_back asked issued y)) xs))) ≡ false
    by true e k rest = rest
    by false e k rest = ap (λ c. c || list_any (goes_back is_leaving issued) (held_after asked issued xs)) (stays_needed issued x (asked x) (is_needed issued x) e refl k) ∙ rest

-- where the leaving ones go that are needed no more
pub needed_left : (issued : List PathLease) (held : List Having) → AreNeeded issued (held_after is_leaving issued held)
needed_left issued [] = refl
needed_left issued (x ∷ xs) = by (goes_back is_leaving issued x) refl (needed_left issued xs)
  where
    by : (b : Bool) → goes_back is_leaving issued x ≡ b → list_any (goes_back is_leaving issued) (held_after is_leaving issued xs) ≡ false
        → list_any (goes_back is_leaving issued) (map (asked_back is_leaving) (cond (not b) (x ∷ filter (λ y. not (goes_back is_leaving issued y)) xs) (filter (λ y. not (goes_back is_leaving issued y)) xs))) ≡ false
    by true e rest = rest
    by false e rest = ap (λ c. c || list_any (goes_back is_leaving issued) (held_after is_leaving issued xs)) (stays_needed issued x (is_leaving x) (is_needed issued x) e refl e) ∙ rest

-- ## After a call

-- one lease more is given out, or no memory was left
pub needed_once_issued : (r : Result (Unit {0}) Memory) (l : PathLease) (issued was now : List PathLease) (held : List Having)
    → OnOk r (now ≡ with_issued l was) → OnErr r (now ≡ was) → was ≡ issued → AreNeeded issued held → AreNeeded now held
needed_once_issued (Ok v) l issued was now held f g e h = subst (λ ls. AreNeeded ls held) (sym (f ∙ ap (with_issued l) e)) (needed_issued l issued held h)
needed_once_issued (Err m) l issued was now held f g e h = subst (λ ls. AreNeeded ls held) (sym (g ∙ e)) h

-- and one more is taken
pub needed_once_held : (r : Result (Unit {0}) Memory) (l : PathLease) (issued : List PathLease) (held was now : List Having)
    → OnOk r (now ≡ with_held (Held l) was) → OnErr r (now ≡ was) → was ≡ held → AreNeeded issued held → AreNeeded issued now
needed_once_held (Ok v) l issued held was now f g e h = subst (AreNeeded issued) (sym (f ∙ ap (with_held (Held l)) e)) (needed_held l issued held h)
needed_once_held (Err m) l issued held was now f g e h = subst (AreNeeded issued) (sym (g ∙ e)) h

-- those asked back are gone or leaving
pub needed_once_asked : (asked : Having → Bool) (issued ls : List PathLease) (held was now : List Having) → now ≡ held_after asked ls was → ls ≡ issued → was ≡ held → AreNeeded issued held → AreNeeded issued now
needed_once_asked asked issued ls held was now f e g h = subst (AreNeeded issued) (sym (f ∙ ap (λ xs. held_after asked xs was) e ∙ ap (held_after asked issued) g)) (needed_after asked issued held h)

-- one that was given out is back
pub needed_once_back : (issued now : List PathLease) (was held : List Having) → now ≡ issued → held ≡ held_after is_leaving issued was → AreNeeded now held
needed_once_back issued now was held e f = subst (λ ls. AreNeeded ls held) (sym e) (subst (AreNeeded issued) (sym f) (needed_left issued was))
