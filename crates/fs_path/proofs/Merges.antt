-- Names that join others in order of number, each number once; and lists in order with the same names, which are one.
use Rattle.std.proofs.Common.{◌≡◌, ◌∙◌, ◌+◌, ◌<◌, ℕ, Bool, true, false, List, [], ◌∷◌, ◌⊎◌, refl, sym, ap, subst, cond, map, length, get_or, drop, inl, inr}
use Rattle.std.specs.Prelude.{Option, is_some}
use Rattle.std.specs.List.{filter, list_all, list_any, position}
use Rattle.std.proofs.lemmas.List.{drop_more}
use Rattle.fs_ident.specs.In.{In}
use Rattle.fs_ident.specs.Ordered.{put_before}
use Rattle.fs_ident.specs.declared.actor.PathNo.{PathNo}
use Rattle.fs_ident.proofs.Booleans.{both}
use Rattle.fs_ident.proofs.Passing.{all-In}
use Rattle.fs_ident.proofs.Standing.{In-filter, In-map, In-mapped, In-put, In-put_here, any_In}
use Rattle.fs_path.specs.Index.{are_rising, is_numbered, no_of_held, no_of_issued, no_of_named, with_named}
use Rattle.fs_path.specs.Leases.{PathLease, named_to_peer, path_before, same_path_no}
use Rattle.fs_path.specs.Merged.{with_each, with_once}
use Rattle.fs_path.specs.Returns.{goes_back, recalls, releases}
use Rattle.fs_path.specs.Tables.{lease_of}
use Rattle.fs_path.specs.declared.having.Having.{Having}
use Rattle.fs_path.proofs.LeaseLaws.{passed, passes}
use Rattle.fs_path.proofs.Over.{recalls_rise}
use Rattle.fs_path.proofs.Rising.{not_back, placed_any, rising_filter, rising_map, rising_put, same_no_self, same_no_symm, unlike}

abbrev Names : Type 0
Names = List (ℕ × PathNo)

-- each of these names is one of those
abbrev pub AreAmong : List (ℕ × PathNo) → List (ℕ × PathNo) → Type 0
AreAmong names all = (x : ℕ × PathNo) → In x names → In x all

-- ## What a number determines

-- each behind the first has a greater number
behind_first : {X : Type 0} (key : X → PathNo) (z : X) (zs : List X) → are_rising key (z ∷ zs) ≡ true → (x : X) → In x zs → path_before (key z) (key x) ≡ true
behind_first key z zs o x i = all-In (λ y. path_before (key z) (key y)) zs (both (list_all (λ y. path_before (key z) (key y)) zs) (are_rising key zs) o).0 x i

rest_rises : {X : Type 0} (key : X → PathNo) (z : X) (zs : List X) → are_rising key (z ∷ zs) ≡ true → are_rising key zs ≡ true
rest_rises key z zs o = (both (list_all (λ y. path_before (key z) (key y)) zs) (are_rising key zs) o).1

not_both : (b : Bool) → b ≡ true → b ≡ false → ⊥
not_both true p q = absurd (cc q)
not_both false p q = absurd (cc p)

-- no item stands behind itself
not_behind : {X : Type 0} (key : X → PathNo) (z : X) (zs : List X) → are_rising key (z ∷ zs) ≡ true → (x : X) → In x zs → x ≡ z → ⊥
not_behind key z zs o x i e = not_both (same_path_no (key z) (key x)) (ap (λ y. same_path_no (key z) (key y)) e ∙ same_no_self (key z)) (unlike (key z) (key x) (behind_first key z zs o x i))

-- of items whose numbers rise, two of one number are one
pub one_of_number : {X : Type 0} (key : X → PathNo) (xs : List X) → are_rising key xs ≡ true → (x y : X) → In x xs → In y xs → same_path_no (key x) (key y) ≡ true → x ≡ y
one_of_number key [] o x y i j e = absurd i
one_of_number key (z ∷ zs) o x y (inl p) (inl q) e = p ∙ sym q
one_of_number key (z ∷ zs) o x y (inl p) (inr j) e =
    absurd (not_both (same_path_no (key x) (key y)) e (ap (λ w. same_path_no (key w) (key y)) p ∙ unlike (key z) (key y) (behind_first key z zs o y j)))
one_of_number key (z ∷ zs) o x y (inr i) (inl q) e =
    absurd (not_both (same_path_no (key x) (key y)) e (same_no_symm (key x) (key y) ∙ ap (λ w. same_path_no (key w) (key x)) q ∙ unlike (key z) (key x) (behind_first key z zs o x i)))
one_of_number key (z ∷ zs) o x y (inr i) (inr j) e = one_of_number key zs (rest_rises key z zs o) x y i j e

-- ## The same items in order

-- what stands in the other list, but is not its first, stands behind it
behind : {X : Type 0} (key : X → PathNo) (x y : X) (xs ys : List X) → x ≡ y → are_rising key (x ∷ xs) ≡ true → ((z : X) → In z (x ∷ xs) → In z (y ∷ ys)) → (z : X) → In z xs → In z ys
behind key x y xs ys e o f z i = elim (f z (inr i)) as (λ _. In z ys) [
  | inl p ↦ absurd (not_behind key x xs o z i (p ∙ sym e))
  | inr j ↦ j
]

-- the first of both is one
one_first : {X : Type 0} (key : X → PathNo) (x y : X) (xs ys : List X) → are_rising key (x ∷ xs) ≡ true → are_rising key (y ∷ ys) ≡ true → In x (y ∷ ys) → In y (x ∷ xs) → x ≡ y
one_first key x y xs ys o p (inl e) j = e
one_first key x y xs ys o p (inr i) (inl e) = sym e
one_first key x y xs ys o p (inr i) (inr j) = absurd (not_both (path_before (key x) (key y)) (behind_first key x xs o y j) (not_back (key y) (key x) (behind_first key y ys p x i)))

-- two lists whose numbers rise, with the same items, are one
pub same_rising : {X : Type 0} (key : X → PathNo) (xs ys : List X) → are_rising key xs ≡ true → are_rising key ys ≡ true → ((x : X) → In x xs → In x ys) → ((x : X) → In x ys → In x xs) → xs ≡ ys
same_rising key [] [] o p f g = refl
same_rising key [] (y ∷ ys) o p f g = absurd (g y (inl refl))
same_rising key (x ∷ xs) [] o p f g = absurd (f x (inl refl))
same_rising key (x ∷ xs) (y ∷ ys) o p f g =
    let e : x ≡ y = one_first key x y xs ys o p (f x (inl refl)) (g y (inl refl)) in
    ap (λ z. z ∷ xs) e
    ∙ ap (λ zs. y ∷ zs) (same_rising key xs ys (rest_rises key x xs o) (rest_rises key y ys p) (behind key x y xs ys e o f) (behind key y x ys xs (sym e) p g))

-- ## One name more

put_kept : {X : Type 0} (test : X → Bool) (x new : X) (ys : List X) → In x ys → In x (put_before test new ys)
put_kept test x new [] i = absurd i
put_kept test x new (y ∷ ys) i = by (test y) i (put_kept test x new ys)
  where
    by : (b : Bool) → In x (y ∷ ys) → (In x ys → In x (put_before test new ys)) → In x (cond b (new ∷ y ∷ ys) (y ∷ put_before test new ys))
    by true j rest = inr j
    by false (inl e) rest = inl e
    by false (inr j) rest = inr (rest j)

-- the numbers rise still
pub once_rises : (name : ℕ × PathNo) (names : List (ℕ × PathNo)) → are_rising no_of_named names ≡ true → are_rising no_of_named (with_once name names) ≡ true
once_rises name names h = by (list_any (is_numbered no_of_named name.1) names) refl
  where
    by : (b : Bool) → list_any (is_numbered no_of_named name.1) names ≡ b → are_rising no_of_named (cond b names (with_named name names)) ≡ true
    by true e = h
    by false e = rising_put no_of_named name names h e

-- what stands there is the name, or stood there
pub once_from : (x name : ℕ × PathNo) (names : List (ℕ × PathNo)) → In x (with_once name names) → (x ≡ name) ⊎ In x names
once_from x name names i = by (list_any (is_numbered no_of_named name.1) names) i
  where
    by : (b : Bool) → In x (cond b names (with_named name names)) → (x ≡ name) ⊎ In x names
    by true j = inr j
    by false j = In-put (λ n. path_before name.1 n.1) x name names j

-- what stood there still does
pub once_kept : (x name : ℕ × PathNo) (names : List (ℕ × PathNo)) → In x names → In x (with_once name names)
once_kept x name names i = by (list_any (is_numbered no_of_named name.1) names)
  where
    by : (b : Bool) → In x (cond b names (with_named name names))
    by true = i
    by false = put_kept (λ n. path_before name.1 n.1) x name names i

-- the name stands there, where a number determines its name
pub once_here : (all : List (ℕ × PathNo)) (name : ℕ × PathNo) (names : List (ℕ × PathNo)) → are_rising no_of_named all ≡ true → In name all → AreAmong names all → In name (with_once name names)
once_here all name names o i a = by (list_any (is_numbered no_of_named name.1) names) refl
  where
    by : (b : Bool) → list_any (is_numbered no_of_named name.1) names ≡ b → In name (cond b names (with_named name names))
    by true e =
        let q = any_In (is_numbered no_of_named name.1) names e in
        subst (λ x. In x names) (one_of_number no_of_named all o q.0 name (a q.0 q.1.0) i q.1.1) q.1.0
    by false e = In-put_here (λ n. path_before name.1 n.1) name names

pub once_among : (all : List (ℕ × PathNo)) (name : ℕ × PathNo) (names : List (ℕ × PathNo)) → In name all → AreAmong names all → AreAmong (with_once name names) all
once_among all name names i a x j = elim (once_from x name names j) as (λ _. In x all) [
  | inl e ↦ subst (λ y. In y all) (sym e) i
  | inr k ↦ a x k
]

-- nothing changes where there is a place of its number
pub once_there : (name : ℕ × PathNo) (names : List (ℕ × PathNo)) (o : Option ℕ) → o ≡ position (is_numbered no_of_named name.1) names → is_some o ≡ true → names ≡ with_once name names
once_there name names o e s = sym (ap (λ b. cond b names (with_named name names)) (sym (placed_any (is_numbered no_of_named name.1) names o e) ∙ s))

-- and it joins them where there is none
pub once_new : (name : ℕ × PathNo) (names : List (ℕ × PathNo)) (o : Option ℕ) → o ≡ position (is_numbered no_of_named name.1) names → is_some o ≡ false → with_named name names ≡ with_once name names
once_new name names o e s = sym (ap (λ b. cond b names (with_named name names)) (sym (placed_any (is_numbered no_of_named name.1) names o e) ∙ s))

-- ## Each of some names

-- one of those that are left
pub each_step : (ns : List (ℕ × PathNo)) (names : List (ℕ × PathNo)) (i : ℕ) (d : ℕ × PathNo) → i < length ns → with_each (drop i ns) names ≡ with_each (drop (i + 1) ns) (with_once (get_or ns i d) names)
each_step ns names i d l = ap (λ ms. with_each ms names) (drop_more ns i d l)

pub each_rises : (ns names : List (ℕ × PathNo)) → are_rising no_of_named names ≡ true → are_rising no_of_named (with_each ns names) ≡ true
each_rises [] names h = h
each_rises (n ∷ ns) names h = each_rises ns (with_once n names) (once_rises n names h)

pub each_from : (x : ℕ × PathNo) (ns names : List (ℕ × PathNo)) → In x (with_each ns names) → In x ns ⊎ In x names
each_from x [] names i = inr i
each_from x (n ∷ ns) names i = elim (each_from x ns (with_once n names) i) as (λ _. ((x ≡ n) ⊎ In x ns) ⊎ In x names) [
  | inl j ↦ inl (inr j)
  | inr j ↦ elim (once_from x n names j) as (λ _. ((x ≡ n) ⊎ In x ns) ⊎ In x names) [ inl e ↦ inl (inl e) | inr k ↦ inr k ]
]

pub each_kept : (x : ℕ × PathNo) (ns names : List (ℕ × PathNo)) → In x names → In x (with_each ns names)
each_kept x [] names i = i
each_kept x (n ∷ ns) names i = each_kept x ns (with_once n names) (once_kept x n names i)

pub each_among : (all ns names : List (ℕ × PathNo)) → AreAmong ns all → AreAmong names all → AreAmong (with_each ns names) all
each_among all ns names a b x i = elim (each_from x ns names i) as (λ _. In x all) [ inl j ↦ a x j | inr j ↦ b x j ]

-- they all stand there, where a number determines its name
pub each_here : (all ns names : List (ℕ × PathNo)) → are_rising no_of_named all ≡ true → AreAmong ns all → AreAmong names all → (x : ℕ × PathNo) → In x ns → In x (with_each ns names)
each_here all [] names o a b x i = absurd i
each_here all (n ∷ ns) names o a b x (inl e) = each_kept x ns (with_once n names) (subst (λ y. In y (with_once n names)) (sym e) (once_here all n names o (a n (inl refl)) b))
each_here all (n ∷ ns) names o a b x (inr i) = each_here all ns (with_once n names) o (λ y j. a y (inr j)) (once_among all n names (a n (inl refl)) b) x i

-- ## Names of leases

-- the names of leases whose numbers rise
pub issued_rise : (issued : List PathLease) → are_rising no_of_issued issued ≡ true → are_rising no_of_named (map named_to_peer issued) ≡ true
issued_rise issued h = rising_map no_of_issued no_of_named named_to_peer (λ l. refl) issued ∙ h

pub held_rise : (held : List Having) → are_rising no_of_held held ≡ true → are_rising no_of_named (map (λ h. named_to_peer (lease_of h)) held) ≡ true
held_rise held h = rising_map no_of_held no_of_named (λ x. named_to_peer (lease_of x)) (λ x. refl) held ∙ h

-- a name of those that pass is that of one that passes
pub recalls_In : (test : PathLease → Bool) (issued : List PathLease) (x : ℕ × PathNo) → In x (recalls test issued) → (l : PathLease) × (In l issued × ((test l ≡ true) × (x ≡ named_to_peer l)))
recalls_In test issued x i =
    let m = In-map named_to_peer x (filter test issued) i in
    (m.0, (In-filter test m.0 issued m.1.0, (passed test m.0 issued m.1.0, m.1.1)))

pub recalls_has : (test : PathLease → Bool) (issued : List PathLease) (l : PathLease) → In l issued → test l ≡ true → In (named_to_peer l) (recalls test issued)
recalls_has test issued l i e = In-mapped named_to_peer l (filter test issued) (passes test l issued i e)

-- and is a name of all
pub recalls_among : (test : PathLease → Bool) (issued : List PathLease) → AreAmong (recalls test issued) (map named_to_peer issued)
recalls_among test issued x i =
    let m = recalls_In test issued x i in
    subst (λ y. In y (map named_to_peer issued)) (sym m.1.1.1) (In-mapped named_to_peer m.0 issued m.1.0)

pub releases_In : (asked : Having → Bool) (issued : List PathLease) (held : List Having) (x : ℕ × PathNo) → In x (releases asked issued held)
    → (h : Having) × (In h held × ((goes_back asked issued h ≡ true) × (x ≡ named_to_peer (lease_of h))))
releases_In asked issued held x i =
    let m = In-map (λ h. named_to_peer (lease_of h)) x (filter (goes_back asked issued) held) i in
    (m.0, (In-filter (goes_back asked issued) m.0 held m.1.0, (passed (goes_back asked issued) m.0 held m.1.0, m.1.1)))

pub releases_has : (asked : Having → Bool) (issued : List PathLease) (held : List Having) (h : Having) → In h held → goes_back asked issued h ≡ true → In (named_to_peer (lease_of h)) (releases asked issued held)
releases_has asked issued held h i e = In-mapped (λ x. named_to_peer (lease_of x)) h (filter (goes_back asked issued) held) (passes (goes_back asked issued) h held i e)

pub releases_among : (asked : Having → Bool) (issued : List PathLease) (held : List Having) → AreAmong (releases asked issued held) (map (λ h. named_to_peer (lease_of h)) held)
releases_among asked issued held x i =
    let m = releases_In asked issued held x i in
    subst (λ y. In y (map (λ h. named_to_peer (lease_of h)) held)) (sym m.1.1.1) (In-mapped (λ h. named_to_peer (lease_of h)) m.0 held m.1.0)

pub releases_rise : (asked : Having → Bool) (issued : List PathLease) (held : List Having) → are_rising no_of_held held ≡ true → are_rising no_of_named (releases asked issued held) ≡ true
releases_rise asked issued held h = held_rise (filter (goes_back asked issued) held) (rising_filter no_of_held (goes_back asked issued) held h)

-- names in order that are those of the leases given out that pass
pub recalls_are : (test : PathLease → Bool) (issued : List PathLease) (names : List (ℕ × PathNo)) → are_rising no_of_issued issued ≡ true → are_rising no_of_named names ≡ true
    → AreAmong names (recalls test issued) → AreAmong (recalls test issued) names → names ≡ recalls test issued
recalls_are test issued names o r f g = same_rising no_of_named names (recalls test issued) r (recalls_rise test issued o) f g

-- and of those from other servers that go back
pub releases_are : (asked : Having → Bool) (issued : List PathLease) (held : List Having) (names : List (ℕ × PathNo)) → are_rising no_of_held held ≡ true → are_rising no_of_named names ≡ true
    → AreAmong names (releases asked issued held) → AreAmong (releases asked issued held) names → names ≡ releases asked issued held
releases_are asked issued held names o r f g = same_rising no_of_named names (releases asked issued held) r (releases_rise asked issued held o) f g
