-- Leases that go back, and what stands in the way of a freeze or a move.
use Rattle.std.proofs.Common.{◌≡◌, ◌∙◌, ℕ, ◌+◌, ◌≤◌, ◌==◌, Bool, true, false, not, List, [], ◌∷◌, refl, sym, ap, subst, cond, inl, inr, arith}
use Rattle.std.specs.Prelude.{◌&&◌, ◌||◌, Option, Some, None, is_some, nat_lt, option_map}
use Rattle.std.specs.List.{filter, find, list_any}
use Rattle.fs_ident.specs.In.{In}
use Rattle.fs_ident.specs.Ident.{same}
use Rattle.fs_ident.specs.declared.actor.PathNo.{PathNo}
use Rattle.fs_ident.specs.declared.actor.TxnNo.{TxnNo}
use Rattle.fs_field.specs.Table.{same_txn}
use Rattle.std.proofs.lemmas.Bool.Decides.{nat_tests}
use Rattle.fs_ident.proofs.Booleans.{both}
use Rattle.fs_ident.proofs.Same.{same_self}
use Rattle.fs_ident.proofs.Standing.{In-filter, In-map, In-mapped, In-put, In-put_here, none_pass}
use Rattle.fs_path.specs.Laws.{FreezeFreezes, NextIsNew, NoneGoesInto, NoneGoesThrough, NumbersGoOn, ReturnsKeepNumbers, ThawTakesItsOwn, WhatGoesIsOnNoPath, WhatIsNeededStays}
use Rattle.fs_path.specs.Leases.{PathLease, goes_into, goes_over, has_no, lesser_no, path_before, named_to_peer}
use Rattle.fs_path.specs.Numbers.{next_path}
use Rattle.fs_path.specs.Returns.{asked_back, goes_back, is_needed}
use Rattle.fs_path.specs.Tables.{frozen_for, lease_of}

-- what passes a test and stands in a list stands among those that pass
pub passes : {X : Type 0} (test : X → Bool) (x : X) (xs : List X) → In x xs → test x ≡ true → In x (filter test xs)
passes test x [] i e = absurd i
passes test x (y ∷ ys) (inl q) e = subst (λ b. In x (cond b (y ∷ filter test ys) (filter test ys))) (sym (ap test (sym q) ∙ e)) (inl q)
passes test x (y ∷ ys) (inr i) e = by (test y) (passes test x ys i e)
  where
    by : (b : Bool) → In x (filter test ys) → In x (cond b (y ∷ filter test ys) (filter test ys))
    by true j = inr j
    by false j = j

-- whoever stands among those that pass does so
pub passed : {X : Type 0} (test : X → Bool) (x : X) (xs : List X) → In x (filter test xs) → test x ≡ true
passed test x [] i = absurd i
passed test x (y ∷ ys) i = by (test y) refl (passed test x ys) i
  where
    by : (b : Bool) → test y ≡ b → (In x (filter test ys) → test x ≡ true) → In x (cond b (y ∷ filter test ys) (filter test ys)) → test x ≡ true
    by true e rest (inl q) = ap test q ∙ e
    by true e rest (inr j) = rest j
    by false e rest j = rest j

denied : (b : Bool) → not b ≡ true → b ≡ false
denied true h = absurd (cc h)
denied false h = refl

unneeded : (a b : Bool) → b ≡ true → not (a && not b) ≡ true
unneeded true true e = refl
unneeded false true e = refl
unneeded a false e = absurd (cc e)

pub goes : WhatGoesIsOnNoPath
goes asked issued held x i =
    let m = In-map (λ h. named_to_peer (lease_of h)) x (filter (goes_back asked issued) held) i in
    let t = both (asked m.0) (not (is_needed issued m.0)) (passed (goes_back asked issued) m.0 held m.1.0) in
    (m.0, (In-filter (goes_back asked issued) m.0 held m.1.0, (t.0, (denied (is_needed issued m.0) t.1, m.1.1))))

pub stays : WhatIsNeededStays
stays asked issued held h i e =
    In-mapped (asked_back asked) h (filter (λ x. not (goes_back asked issued x)) held)
    (passes (λ x. not (goes_back asked issued x)) h held i (unneeded (asked h) (is_needed issued h) e))

-- ## In the way

absent : {X Y : Type 0} (f : X → Y) (o : Option X) → option_map f o ≡ None → o ≡ None
absent f None e = refl
absent f (Some x) e = absurd (cc e)

both_absent : (a b : Option PathNo) → lesser_no a b ≡ None → (a ≡ None) × (b ≡ None)
both_absent None b e = (refl, e)
both_absent (Some a) None e = absurd (cc e)
both_absent (Some a) (Some b) e = by (path_before b a) e
  where
    by : (c : Bool) → cond c (Some b) (Some a) ≡ None → (Some a ≡ None) × (Some b ≡ None)
    by true h = absurd (cc h)
    by false h = absurd (cc h)

pub none_through : NoneGoesThrough
none_through file issued e l i = none_pass (goes_over file) issued (absent (λ (x : PathLease). x.no) (find (goes_over file) issued) e) l i

pub none_into : NoneGoesInto
none_into owners me prefix t e =
    let q = both_absent _ _ e in (
      λ l i. none_pass (goes_into owners me prefix) t.issued (absent (λ (x : PathLease). x.no) _ q.0) l i,
      λ h i. none_pass (λ x. goes_into owners me prefix (lease_of x)) t.held (absent (λ x. (lease_of x).no) _ q.1) h i,
    )

-- ## Kept files

kept_here : (file : List ℕ) (frozen : List (List ℕ × TxnNo)) (x : List ℕ × TxnNo) → In x frozen → same x.0 file ≡ true → is_some (frozen_for file frozen) ≡ true
kept_here file [] x i e = absurd i
kept_here file (y ∷ ys) x i e = by (same y.0 file) refl i (λ j. kept_here file ys x j e)
  where
    by : (b : Bool) → same y.0 file ≡ b → In x (y ∷ ys) → (In x ys → is_some (frozen_for file ys) ≡ true) → is_some (option_map (λ z. z.1) (cond b (Some y) (find (λ z. same z.0 file) ys))) ≡ true
    by true q j rest = refl
    by false q (inl z) rest = let wrong : true ≡ false = sym e ∙ ap (λ w. same w.0 file) z ∙ q in absurd (cc wrong)
    by false q (inr j) rest = rest j

pub freezes : FreezeFreezes
freezes file txn frozen = kept_here file _ (file, txn) (In-put_here _ (file, txn) frozen) (same_self file)

pub thaws : ThawTakesItsOwn
thaws txn frozen x i = (
  λ e. passes (λ y. not (same_txn y.1 txn)) x frozen i (ap not e),
  λ e j. let wrong : true ≡ false = sym (passed (λ y. not (same_txn y.1 txn)) x frozen j) ∙ ap not e in absurd (cc wrong),
)

-- ## Numbers

next_is : (me given : ℕ) (number : PathNo) → next_path me given ≡ Some number → (number.server ≡ me) × (number.count ≡ given + 1)
next_is me given number e = by (nat_lt given 0xffff_ffff_ffff_ffff) e
  where
    by : (b : Bool) → cond b (Some (let n : PathNo = record { server = me; count = given + 1 } in n)) None ≡ Some number → (number.server ≡ me) × (number.count ≡ given + 1)
    by true h = let q : (let n : PathNo = record { server = me; count = given + 1 } in n) ≡ number = cc h in (ap (λ (n : PathNo). n.server) (sym q), ap (λ (n : PathNo). n.count) (sym q))
    by false h = absurd (cc h)

apart : (a b n : ℕ) → a ≤ n → b ≡ n + 1 → (a == b) ≡ false
apart a b n h e = grind (arith, nat_tests, h, e)

never : (a b : Bool) → b ≡ false → (a && b) ≡ false
never true b e = e
never false b e = refl

pub next_new : NextIsNew
next_new me given number [] g e = refl
next_new me given number (l ∷ ls) g e =
    let q = next_is me given number e in
    let here : has_no number l ≡ false = never (l.no.server == number.server) (l.no.count == number.count) (apart l.no.count number.count given (g l (inl refl)).1 q.1) in
    subst (λ b. (b || list_any (has_no number) ls) ≡ false) (sym here) (next_new me given number ls (λ x i. g x (inr i)) e)

pub go_on : NumbersGoOn
go_on me given l issued g e x i = elim (In-put (λ y. path_before l.no y.no) x l issued i) as (λ _. (x.no.server ≡ me) × (x.no.count ≤ given + 1)) [
  | inl q ↦ let n = next_is me given l.no e in let s : x.no.server ≡ me = ap (λ (y : PathLease). y.no.server) q ∙ n.0 in let c : x.no.count ≡ given + 1 = ap (λ (y : PathLease). y.no.count) q ∙ n.1 in (s, omega (arith, c))
  | inr j ↦ let r = g x j in (r.0, omega (arith, r.1))
]

pub returned : ReturnsKeepNumbers
returned me given number issued g x i = g x (In-filter (λ l. not (has_no number l)) x issued i)
