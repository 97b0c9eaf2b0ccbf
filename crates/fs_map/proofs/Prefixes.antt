-- With which prefixes an identifier begins.
use Rattle.std.proofs.Common.{◌≡◌, ◌∙◌, ◌⊎◌, ℕ, true, false, List, [], ◌∷◌, refl, ap, sym, length, take, inl, inr, arith, ◌++◌, ◌+◌, length-append}
use Rattle.std.specs.Prelude.{nat_eq}
use Rattle.std.specs.Ordering.{nat_cmp}
use Rattle.std.specs.Cmp.{nat_cmp_total}
use Rattle.std.specs.Cmp.Lexicographic.{slice_cmp}
use Rattle.std.proofs.lemmas.Cmp.{tied_itself}
use Rattle.std.specs.declared.cmp.Ordering.TheVariants.{Less, Equal}
use Rattle.std.proofs.lemmas.Bool.Decides.{nat_tests}
use Rattle.std.proofs.lemmas.List.{take_at}
use Rattle.fs_ident.proofs.Booleans.{first, second, joined}
use Rattle.fs_map.specs.Map.{begins}
use Rattle.fs_map.specs.Change.{front}

pub number_is : (x y : ℕ) → nat_eq x y ≡ true → x ≡ y
number_is x y h = grind (arith, nat_tests)

pub number_itself : (x : ℕ) → nat_eq x x ≡ true
number_itself x = grind (arith, nat_tests)

pub begins_itself : (p : List ℕ) → begins p p ≡ true
begins_itself [] = refl
begins_itself (x ∷ p) = joined _ _ (number_itself x) (begins_itself p)

-- a prefix is the identifier itself or one of what is above it
pub itself_or_above : (p : List ℕ) (n : ℕ) (ns : List ℕ) → begins p (n ∷ ns) ≡ true → (p ≡ n ∷ ns) ⊎ (begins p (front n ns) ≡ true)
itself_or_above [] n ns h = inr refl
itself_or_above (x ∷ []) n [] h = inl (ap (λ m. m ∷ []) (number_is x n (first _ _ h)))
itself_or_above (x ∷ y ∷ p) n [] h = let q : false ≡ true = second (nat_eq x n) false h in absurd (cc)
itself_or_above (x ∷ p) n (m ∷ ms) h = elim (itself_or_above p m ms (second _ _ h)) [
  | inl e ↦ inl (ap (λ l. x ∷ l) e ∙ ap (λ l. l ∷ m ∷ ms) (number_is x n (first _ _ h)))
  | inr b ↦ inr (joined _ _ (first _ _ h) b)
]

pub begins_below : (p : List ℕ) (n : ℕ) (ns : List ℕ) → begins p (front n ns) ≡ true → begins p (n ∷ ns) ≡ true
begins_below [] n ns h = refl
begins_below (x ∷ p) n [] h = absurd (cc)
begins_below (x ∷ p) n (m ∷ ms) h = joined _ _ (first _ _ h) (begins_below p m ms (second _ _ h))

pub begins_nothing : (p : List ℕ) → begins p [] ≡ true → p ≡ []
begins_nothing [] h = refl
begins_nothing (x ∷ p) h = absurd (cc)

-- of two identifiers that begin with one another both are the same
pub both_ways : (p q : List ℕ) → begins p q ≡ true → begins q p ≡ true → p ≡ q
both_ways [] q h k = sym (begins_nothing q k)
both_ways (x ∷ p) [] h k = absurd (cc)
both_ways (x ∷ p) (y ∷ q) h k = ap (λ l. x ∷ l) (both_ways p q (second _ _ h) (second _ _ k)) ∙ ap (λ m. m ∷ q) (number_is x y (first _ _ h))

-- what is above is not the identifier
pub above_differs : (n : ℕ) (ns : List ℕ) → front n ns ≡ n ∷ ns → ⊥
above_differs n [] e = absurd (cc)
above_differs n (m ∷ ms) e = let q : front m ms ≡ m ∷ ms = cc in above_differs m ms q

pub begins_above : (n : ℕ) (ns : List ℕ) → begins (front n ns) (n ∷ ns) ≡ true
begins_above n ns = begins_below (front n ns) n ns (begins_itself (front n ns))

-- a prefix comes first
pub prefix_first : (p q : List ℕ) → begins p q ≡ true → (p ≡ q) ⊎ (slice_cmp nat_cmp p q ≡ Less)
prefix_first [] [] h = inl refl
prefix_first [] (y ∷ q) h = inr refl
prefix_first (x ∷ p) [] h = absurd (cc)
prefix_first (x ∷ p) (y ∷ q) h =
    let same : x ≡ y = number_is x y (first _ _ h) in
    let tied : nat_cmp x y ≡ Equal = ap (λ m. nat_cmp x m) (sym same) ∙ tied_itself nat_cmp_total x in
    elim (prefix_first p q (second _ _ h)) [
      | inl e ↦ inl (ap (λ l. x ∷ l) e ∙ ap (λ m. m ∷ q) same)
      | inr l ↦ inr (rw tied l)
    ]

-- what is left of an identifier without its last number
pub front_is : (n : ℕ) (ns : List ℕ) (above : List ℕ) (x : ℕ) → n ∷ ns ≡ above ++ x ∷ [] → front n ns ≡ above
front_is n ns above x e =
    let l : length above ≡ length ns = (let q : length (n ∷ ns) ≡ length above + 1 = ap length e ∙ length-append above (x ∷ []) in omega arith) in
    ap (take (length ns)) e ∙ take_at above (x ∷ []) (length ns) l
