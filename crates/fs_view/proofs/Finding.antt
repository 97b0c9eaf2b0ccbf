-- The lease of a number is found by its place, and the best of a field by their numbers.
use Rattle.std.proofs.Common.{◌≡◌, ◌==◌, ◌<◌, ℕ, ◌+◌, ◌&&◌, ◌||◌, Bool, true, false, not, List, [], ◌∷◌, refl, ap, cond, zero, suc, length, get_or, map, arith, sym, ◌∙◌, inl, inr}
use Rattle.std.specs.Prelude.{Option, Some, None, nat_lt, option_map, is_some, IfSome}
use Rattle.std.specs.List.{find, filter, list_any, position, position_or_len, remove}
use Rattle.std.proofs.lemmas.Bool.Decides.{nat_tests}
use Rattle.std.proofs.lemmas.Bool.{not-true}
use Rattle.std.proofs.lemmas.List.{length-map}
use Rattle.fs_ident.specs.In.{In}
use Rattle.fs_ident.specs.declared.actor.LeaseNo.{LeaseNo}
use Rattle.fs_ident.proofs.Booleans.{both, neither}
use Rattle.fs_ident.proofs.Options.{cond_none}
use Rattle.fs_field.specs.declared.field.Field.{Field}
use Rattle.fs_field.specs.declared.lease_kind.LeaseKind.{LeaseKind}
use Rattle.fs_field.specs.Field.{same_field}
use Rattle.fs_field.specs.Table.{same_no}
use Rattle.fs_field.proofs.SameNo.{same_no_is, same_no_self, same_no_symm}
use Rattle.fs_view.specs.declared.view_lease.ViewLease.{ViewLease}
use Rattle.fs_view.specs.declared.view_lease.Standing.{Standing}
use Rattle.fs_view.specs.declared.view_lease.Standing.TheVariants.{Held, Pinned, Leaving}
use Rattle.fs_view.specs.declared.key.Key.{Key}
use Rattle.fs_view.specs.Index.{better_of, is_on, key_in, key_of, numbers_on, taken_by}
use Rattle.fs_view.specs.ViewLease.{has_number, is_better, is_enough, is_live, number_of, serves}
use Rattle.fs_view.specs.View.{are_distinct, taken_from}
use Rattle.fs_view.proofs.Places.{alone, any_filter, none_at, none_removed}

-- ## By key

abbrev pub same_key : Key → Key → Bool
same_key a b = (a.server == b.server) && (a.count == b.count)

keyed_len : (n : LeaseNo) (ks : List ViewLease) → position_or_len (same_key (key_of n)) (map key_in ks) ≡ position_or_len (has_number n) ks
keyed_len n [] = refl
keyed_len n (k ∷ ks) =
    ap (λ b. cond (not b) (1 + position_or_len (same_key (key_of n)) (map key_in ks)) 0) (same_no_symm n (number_of k.standing))
    ∙ ap (λ m. cond (not (has_number n k)) (1 + m) 0) (keyed_len n ks)

pub keyed : (n : LeaseNo) (ks : List ViewLease) → position (same_key (key_of n)) (map key_in ks) ≡ position (has_number n) ks
keyed n ks =
    ap (λ m. cond (nat_lt m (length (map key_in ks))) (Some m) None) (keyed_len n ks)
    ∙ ap (λ m. cond (nat_lt (position_or_len (has_number n) ks) m) (Some (position_or_len (has_number n) ks)) None) (length-map ks key_in)

within_by : (p len at : ℕ) → cond (nat_lt p len) (Some p) None ≡ Some at → at < len
within_by p len at h = elim (nat_lt p len) as (λ b. nat_lt p len ≡ b → cond b (Some p) None ≡ Some at → at < len) [
  | true ↦ λ t g. let e : p ≡ at = cc g in omega (arith, e, below p len t)
  | false ↦ λ t g. absurd (cc g)
] refl h
  where
    below : (p len : ℕ) → nat_lt p len ≡ true → p < len
    below p len t = grind (arith, nat_tests)

-- a place is one of the list's
pub within : (test : ViewLease → Bool) (ks : List ViewLease) (at : ℕ) → position test ks ≡ Some at → at < length ks
within test ks at h = within_by (position_or_len test ks) (length ks) at h

pub within_some : (test : ViewLease → Bool) (ks : List ViewLease) (o : Option ℕ) → o ≡ position test ks → IfSome o (λ at. at < length ks)
within_some test ks None e = tt
within_some test ks (Some at) e = within test ks at (sym e)

pub none_found : (test : ViewLease → Bool) (ks : List ViewLease) → position test ks ≡ None → find test ks ≡ None
none_found test ks h = none_any ks (none_at test ks h)
  where
    none_any : (ks : List ViewLease) → list_any test ks ≡ false → find test ks ≡ None
    none_any [] h = refl
    none_any (k ∷ ks) h = let q = neither (test k) (list_any test ks) h in ap (λ b. cond b (Some k) (find test ks)) q.0 ∙ none_any ks q.1

len_any : (test : ViewLease → Bool) (ks : List ViewLease) → nat_lt (position_or_len test ks) (length ks) ≡ list_any test ks
len_any test [] = refl
len_any test (k ∷ ks) =
    elim (test k) as (λ b. nat_lt (cond (not b) (1 + position_or_len test ks) 0) (suc (length ks)) ≡ (b || list_any test ks)) [
      | true ↦ grind (arith, nat_tests)
      | false ↦ one_on (position_or_len test ks) (length ks) ∙ len_any test ks
    ]
  where
    one_on : (n l : ℕ) → nat_lt (1 + n) (suc l) ≡ nat_lt n l
    one_on n l = grind (arith, nat_tests)

some_by : (b : Bool) (n : ℕ) → is_some (cond b (Some n) None) ≡ b
some_by true n = refl
some_by false n = refl

pub has_place : (test : ViewLease → Bool) (ks : List ViewLease) → is_some (position test ks) ≡ list_any test ks
has_place test ks = some_by (nat_lt (position_or_len test ks) (length ks)) (position_or_len test ks) ∙ len_any test ks

-- ## One lease has a number

any_number : (k : ViewLease) (ks : List ViewLease) → In k ks → list_any (has_number (number_of k.standing)) ks ≡ true
any_number k [] i = absurd i
any_number k (j ∷ ks) i = elim i [
  | inl e ↦ ap (λ b. b || list_any (has_number (number_of k.standing)) ks) (ap (λ (x : ViewLease). has_number (number_of k.standing) x) (sym e) ∙ same_no_self (number_of k.standing))
  | inr r ↦ ap (λ b. has_number (number_of k.standing) j || b) (any_number k ks r) ∙ ever (has_number (number_of k.standing) j)
]
  where
    ever : (b : Bool) → (b || true) ≡ true
    ever true = refl
    ever false = refl

-- those behind a lease have other numbers
apart : (j k : ViewLease) (ks : List ViewLease) → are_distinct (j ∷ ks) ≡ true → In k ks → same_no (number_of j.standing) (number_of k.standing) ≡ true → ⊥
apart j k ks d i h =
    let q = both (not (list_any (has_number (number_of j.standing)) ks)) (are_distinct ks) d in
    let any = ap (λ (n : LeaseNo). list_any (has_number n) ks) (same_no_is (number_of j.standing) (number_of k.standing) h) ∙ any_number k ks i in
    let wrong : true ≡ false = sym any ∙ not-true (list_any (has_number (number_of j.standing)) ks) q.0 in
    absurd (cc wrong)

rest_of : (j : ViewLease) (ks : List ViewLease) → are_distinct (j ∷ ks) ≡ true → are_distinct ks ≡ true
rest_of j ks d = (both (not (list_any (has_number (number_of j.standing)) ks)) (are_distinct ks) d).1

pub only_one : (a b : ViewLease) (ks : List ViewLease) → are_distinct ks ≡ true → In a ks → In b ks → same_no (number_of a.standing) (number_of b.standing) ≡ true → a ≡ b
only_one a b [] d i j h = absurd i
only_one a b (k ∷ ks) d i j h = elim i [
  | inl e ↦ elim j [
    | inl f ↦ e ∙ sym f
    | inr f ↦ absurd (apart k b ks d f (ap (λ (x : ViewLease). same_no (number_of x.standing) (number_of b.standing)) (sym e) ∙ h))
  ]
  | inr e ↦ elim j [
    | inl f ↦ absurd (apart k a ks d e (ap (λ (x : ViewLease). same_no (number_of x.standing) (number_of a.standing)) (sym f) ∙ same_no_symm (number_of b.standing) (number_of a.standing) ∙ h))
    | inr f ↦ only_one a b ks (rest_of k ks d) e f h
  ]
]

pub find_there : (k : ViewLease) (ks : List ViewLease) → In k ks → are_distinct ks ≡ true → find (has_number (number_of k.standing)) ks ≡ Some k
find_there k [] i d = absurd i
find_there k (j ∷ ks) i d =
    elim (has_number (number_of k.standing) j) as (λ b. has_number (number_of k.standing) j ≡ b → cond b (Some j) (find (has_number (number_of k.standing)) ks) ≡ Some k) [
      | true ↦ λ t. ap Some (only_one j k (j ∷ ks) d (inl refl) i t)
      | false ↦ λ t. elim i [
        | inl e ↦ let wrong : true ≡ false = sym (ap (λ (x : ViewLease). same_no (number_of x.standing) (number_of k.standing)) (sym e) ∙ same_no_self (number_of k.standing)) ∙ t in absurd (cc wrong)
        | inr r ↦ find_there k ks r (rest_of j ks d)
      ]
    ] refl

pub got_in : (ks : List ViewLease) (at : ℕ) (x : ViewLease) → at < length ks → x ≡ get_or ks at x → In x ks
got_in [] at x h e = absurd (omega (arith, h))
got_in (k ∷ ks) zero x h e = inl e
got_in (k ∷ ks) (suc at) x h e = inr (got_in ks at x (omega (arith, h)) e)

-- what stands at a place is all that has its number
pub removed_at : (ks : List ViewLease) (at : ℕ) (x : ViewLease) → at < length ks → x ≡ get_or ks at x → are_distinct ks ≡ true → remove ks at ≡ filter (λ k. not (has_number (number_of x.standing) k)) ks
removed_at [] at x h e d = absurd (omega (arith, h))
removed_at (k ∷ ks) zero x h e d =
    let others : LeaseNo → List ViewLease → List ViewLease = λ n. filter (λ j. not (has_number n j)) in
    let q = both (not (list_any (has_number (number_of k.standing)) ks)) (are_distinct ks) d in
    sym (none_removed (number_of k.standing) ks (not-true (list_any (has_number (number_of k.standing)) ks) q.0))
    ∙ sym (ap (λ b. cond (not b) (k ∷ others (number_of k.standing) ks) (others (number_of k.standing) ks)) (same_no_self (number_of k.standing)))
    ∙ ap (λ (y : ViewLease). others (number_of y.standing) (k ∷ ks)) (sym e)
removed_at (k ∷ ks) (suc at) x h e d =
    let others : List ViewLease → List ViewLease = filter (λ j. not (has_number (number_of x.standing) j)) in
    let i = got_in ks at x (omega (arith, h)) e in
    ap (λ rest. k ∷ rest) (removed_at ks at x (omega (arith, h)) e (rest_of k ks d))
    ∙ elim (has_number (number_of x.standing) k) as (λ b. has_number (number_of x.standing) k ≡ b → k ∷ others ks ≡ cond (not b) (k ∷ others ks) (others ks)) [
      | true ↦ λ t. absurd (apart k x ks d i t)
      | false ↦ λ t. refl
    ] refl

-- the one of a number is there still at the reading, or none is
pub live_there : (now : ℕ) (n : LeaseNo) (ks : List ViewLease) (k : ViewLease) → find (has_number n) ks ≡ Some k → are_distinct ks ≡ true → list_any (has_number n) (filter (is_live now) ks) ≡ is_live now k
live_there now n [] k h d = absurd (cc h)
live_there now n (j ∷ js) k h d =
    let live : List ViewLease → List ViewLease = filter (is_live now) in
    elim (has_number n j) as (λ b. has_number n j ≡ b → cond b (Some j) (find (has_number n) js) ≡ Some k → list_any (has_number n) (cond (is_live now j) (j ∷ live js) (live js)) ≡ is_live now k) [
      | true ↦ λ t g.
          let e : j ≡ k = cc g in
          elim (is_live now j) as (λ b. list_any (has_number n) (cond b (j ∷ live js) (live js)) ≡ b) [
            | true ↦ ap (λ b. b || list_any (has_number n) (live js)) t
            | false ↦ any_filter n (is_live now) js (alone n j js t d)
          ] ∙ ap (is_live now) e
      | false ↦ λ t g. elim (is_live now j) as (λ b. list_any (has_number n) (cond b (j ∷ live js) (live js)) ≡ is_live now k) [
        | true ↦ ap (λ b. b || list_any (has_number n) (live js)) t ∙ live_there now n js k g (rest_of j js d)
        | false ↦ live_there now n js k g (rest_of j js d)
      ]
    ] refl h

none_any_more : (n : LeaseNo) (ks : List ViewLease) → find (has_number n) ks ≡ None → list_any (has_number n) ks ≡ false
none_any_more n [] h = refl
none_any_more n (k ∷ ks) h = let q = cond_none (has_number n k) k (find (has_number n) ks) h in ap (λ b. b || list_any (has_number n) ks) q.0 ∙ none_any_more n ks q.1

pub none_live : (now : ℕ) (n : LeaseNo) (ks : List ViewLease) → find (has_number n) ks ≡ None → list_any (has_number n) (filter (is_live now) ks) ≡ false
none_live now n ks h = any_filter n (is_live now) ks (none_any_more n ks h)

-- ## By field

not_on : (now : ℕ) (f : Field) (kind : LeaseKind) (s : Standing) → is_on f s ≡ false → serves now f kind s ≡ false
not_on now f kind (Held l) h = ap (λ b. (b && is_enough l.kind kind) && nat_lt now l.until) h
not_on now f kind (Pinned u) h = ap (λ b. (b && is_enough u.lease.kind kind) && nat_lt now u.lease.until) h
not_on now f kind (Leaving l) h = refl

-- those on the field, one after another
each_taken : (now : ℕ) (f : Field) (kind : LeaseKind) (ks js : List ViewLease) (best : Option ViewLease) → are_distinct ks ≡ true → ((k : ViewLease) → In k js → In k ks) → taken_by now f kind ks best (numbers_on f js) ≡ taken_from now f kind best js
each_taken now f kind ks [] best d i = refl
each_taken now f kind ks (j ∷ js) best d i =
    let numbers : List ViewLease → List LeaseNo = map (λ (k : ViewLease). number_of k.standing) in
    let on : List ViewLease → List ViewLease = filter (λ (k : ViewLease). is_on f k.standing) in
    elim (is_on f j.standing) as (λ b. is_on f j.standing ≡ b → taken_by now f kind ks best (numbers (cond b (j ∷ on js) (on js))) ≡ taken_from now f kind (cond (serves now f kind j.standing && is_better j best) (Some j) best) js) [
      | true ↦ λ t.
          ap (λ o. taken_by now f kind ks (better_of now f kind best o) (numbers_on f js)) (find_there j ks (i j (inl refl)) d)
          ∙ each_taken now f kind ks js (cond (serves now f kind j.standing && is_better j best) (Some j) best) d (λ k r. i k (inr r))
      | false ↦ λ t.
          each_taken now f kind ks js best d (λ k r. i k (inr r))
          ∙ sym (ap (λ b. taken_from now f kind (cond (b && is_better j best) (Some j) best) js) (not_on now f kind j.standing t))
    ] refl

pub taken_by_number : (now : ℕ) (f : Field) (kind : LeaseKind) (ks : List ViewLease) → are_distinct ks ≡ true → taken_by now f kind ks None (numbers_on f ks) ≡ taken_from now f kind None ks
taken_by_number now f kind ks d = each_taken now f kind ks ks None d (λ k i. i)
