-- What is found among prefixes in order, and the longest of them.
use Rattle.std.proofs.Common.{◌≡◌, ◌∙◌, ◌⊎◌, ℕ, Bool, true, false, List, [], ◌∷◌, ◌++◌, refl, ap, sym, length, inl, inr, arith, cond, subst, ◌+◌, ◌<◌, length-append, Result, Ok, Err, IfOk, IfErr}
use Rattle.std.specs.Prelude.{Some, None, slice_index_or}
use Rattle.std.specs.Ordering.{nat_cmp, eq_by_cmp, is_eq}
use Rattle.std.specs.Cmp.Lexicographic.{slice_cmp, nat_list_cmp_total}
use Rattle.std.specs.List.Sorted.{IsSearchInRange, IsBinarySearchResult}
use Rattle.std.specs.declared.cmp.Ordering.TheVariants.{Less, Equal}
use Rattle.std.proofs.lemmas.Cmp.{tied_itself}
use Rattle.fs_ident.specs.In.{In}
use Rattle.fs_ident.specs.Ordered.{Keyed, are_keys_in_order}
use Rattle.fs_ident.proofs.Booleans.{first, second, equal_is, less}
use Rattle.fs_ident.proofs.MapsOf.{anti}
use Rattle.fs_ident.proofs.Searched.{searched as by_name}
use Rattle.fs_map.specs.Map.{begins, longest, or_before}
use Rattle.fs_map.specs.Change.{at, before_all, front}
use Rattle.fs_map.proofs.Prefixes.{begins_itself, itself_or_above, begins_below, begins_nothing, prefix_first, front_is}

abbrev pub Before : List ℕ → List ℕ → Type 0
Before a b = slice_cmp nat_cmp a b ≡ Less

abbrev pub tied : List ℕ → List ℕ → Bool
tied a b = eq_by_cmp (slice_cmp nat_cmp) a b

pub tied_is : (a b : List ℕ) → tied a b ≡ true → a ≡ b
tied_is a b t = anti a b (equal_is _ t)

pub tied_self : (a : List ℕ) → tied a a ≡ true
tied_self a = ap is_eq (tied_itself nat_list_cmp_total a)

-- what comes before is another
pub apart : (a b : List ℕ) → Before a b → a ≡ b → ⊥
apart a b l e = let q : Equal ≡ Less = sym (tied_itself nat_list_cmp_total a) ∙ ap (λ x. slice_cmp nat_cmp a x) e ∙ l in absurd (cc)

-- neither of two comes before the other both ways
pub one_way : (a b : List ℕ) → Before a b → Before b a → ⊥
one_way a b l m = apart a a (nat_list_cmp_total.trans a b a l m) refl

-- what is found stands after a key before all
pub found_after : {V : Type 0} (x k : List ℕ) (v : V) (listed : Keyed V) → before_all x listed ≡ true → at k listed ≡ Some v → Before x k
found_after x k v [] h f = absurd (cc)
found_after x k v (e ∷ es) h f =
    elim (tied k e.0) as (λ b. tied k e.0 ≡ b → cond b (Some e.1) (at k es) ≡ Some v → Before x k) [
      | true ↦ λ t _. subst (λ y. Before x y) (sym (tied_is k e.0 t)) (less _ (first _ _ h))
      | false ↦ λ t g. found_after x k v es (second _ _ h) g
    ] refl f

pub found_In : {V : Type 0} (k : List ℕ) (v : V) (listed : Keyed V) → at k listed ≡ Some v → In (k, v) listed
found_In k v [] f = absurd (cc)
found_In k v (e ∷ es) f =
    elim (tied k e.0) as (λ b. tied k e.0 ≡ b → cond b (Some e.1) (at k es) ≡ Some v → ((k, v) ≡ e) ⊎ In (k, v) es) [
      | true ↦ λ t g. let q : e.1 ≡ v = cc in inl (ap (λ x. (x, v)) (tied_is k e.0 t) ∙ ap (λ x. (e.0, x)) (sym q))
      | false ↦ λ t g. inr (found_In k v es g)
    ] refl f

-- a key before all is none of them
pub before_In : {V : Type 0} (x : List ℕ) (e : List ℕ × V) (listed : Keyed V) → before_all x listed ≡ true → In e listed → Before x e.0
before_In x e [] h i = absurd i
before_In x e (f ∷ fs) h i = elim i [
  | inl q ↦ subst (λ (g : List ℕ × _). Before x g.0) (sym q) (less _ (first _ _ h))
  | inr j ↦ before_In x e fs (second _ _ h) j
]

pub In_found : {V : Type 0} (e : List ℕ × V) (listed : Keyed V) → are_keys_in_order listed ≡ true → In e listed → at e.0 listed ≡ Some e.1
In_found e [] h i = absurd i
In_found e (f ∷ fs) h i = elim i [
  | inl q ↦ ap (λ b. cond b (Some f.1) (at e.0 fs)) (ap (λ (g : List ℕ × _). tied e.0 g.0) (sym q) ∙ tied_self e.0) ∙ ap (λ (g : List ℕ × _). Some g.1) (sym q)
  | inr j ↦
      elim (tied e.0 f.0) as (λ b. tied e.0 f.0 ≡ b → cond b (Some f.1) (at e.0 fs) ≡ Some e.1) [
        | true ↦ λ t. absurd (apart f.0 e.0 (before_In f.0 e fs (first _ _ h) j) (sym (tied_is e.0 f.0 t)))
        | false ↦ λ t. In_found e fs (second _ _ h) j
      ] refl
]

-- ## The longest prefix

-- of prefixes behind it there is none of the identifier's
none_behind : {V : Type 0} (id : List ℕ) (listed : Keyed V) → before_all id listed ≡ true → longest listed id ≡ None
none_behind id [] h = refl
none_behind id (e ∷ es) h =
    let l : Before id e.0 = less _ (first _ _ h) in
    let rest = none_behind id es (second _ _ h) in
    elim (begins e.0 id) as (λ b. begins e.0 id ≡ b → or_before (longest es id) (cond b (Some e) None) ≡ None) [
      | true ↦ λ t. elim (prefix_first e.0 id t) [ inl q ↦ absurd (apart id e.0 l (sym q)) | inr m ↦ absurd (one_way id e.0 l m) ]
      | false ↦ λ t. ap (λ o. or_before o None) rest
    ] refl

-- an identifier that is listed is its own longest prefix
pub longest_itself : {V : Type 0} (id : List ℕ) (v : V) (listed : Keyed V) → are_keys_in_order listed ≡ true → at id listed ≡ Some v → longest listed id ≡ Some (id, v)
longest_itself id v [] h f = absurd (cc)
longest_itself id v (e ∷ es) h f =
    elim (tied id e.0) as (λ b. tied id e.0 ≡ b → cond b (Some e.1) (at id es) ≡ Some v → longest (e ∷ es) id ≡ Some (id, v)) [
      | true ↦ λ t g.
          let q : id ≡ e.0 = tied_is id e.0 t in
          let w : e.1 ≡ v = cc in
          let none : longest es id ≡ None = none_behind id es (subst (λ x. before_all x es ≡ true) (sym q) (first _ _ h)) in
          let own : begins e.0 id ≡ true = subst (λ x. begins x id ≡ true) q (begins_itself id) in
          ap (λ o. or_before o (cond (begins e.0 id) (Some e) None)) none ∙ ap (λ b. cond b (Some e) None) own ∙ ap (λ x. Some (x, e.1)) (sym q) ∙ ap (λ x. Some (id, x)) w
      | false ↦ λ t g. ap (λ o. or_before o (cond (begins e.0 id) (Some e) None)) (longest_itself id v es (second _ _ h) g)
    ] refl f

-- one that is not listed has the longest prefix of what is above it
pub longest_above : {V : Type 0} (n : ℕ) (ns : List ℕ) (listed : Keyed V) → at (n ∷ ns) listed ≡ None → longest listed (n ∷ ns) ≡ longest listed (front n ns)
longest_above n ns [] f = refl
longest_above n ns (e ∷ es) f =
    elim (tied (n ∷ ns) e.0) as (λ b. tied (n ∷ ns) e.0 ≡ b → cond b (Some e.1) (at (n ∷ ns) es) ≡ None → longest (e ∷ es) (n ∷ ns) ≡ longest (e ∷ es) (front n ns)) [
      | true ↦ λ t g. absurd (cc)
      | false ↦ λ t g.
          let same : begins e.0 (n ∷ ns) ≡ begins e.0 (front n ns) = same_test e.0 t in
          ap (λ b. or_before (longest es (n ∷ ns)) (cond b (Some e) None)) same ∙ ap (λ o. or_before o (cond (begins e.0 (front n ns)) (Some e) None)) (longest_above n ns es g)
    ] refl f
  where
    same_test : (p : List ℕ) → tied (n ∷ ns) p ≡ false → begins p (n ∷ ns) ≡ begins p (front n ns)
    same_test p t =
        elim (begins p (n ∷ ns)) as (λ b. begins p (n ∷ ns) ≡ b → b ≡ begins p (front n ns)) [
          | true ↦ λ h. elim (itself_or_above p n ns h) [
            | inl q ↦ let wrong : true ≡ false = sym (tied_self (n ∷ ns)) ∙ ap (λ x. tied (n ∷ ns) x) (sym q) ∙ t in absurd (cc)
            | inr k ↦ sym k
          ]
          | false ↦ λ h.
              elim (begins p (front n ns)) as (λ b. begins p (front n ns) ≡ b → false ≡ b) [
                | true ↦ λ k. let wrong : true ≡ false = sym (begins_below p n ns k) ∙ h in absurd (cc)
                | false ↦ λ k. refl
              ] refl
        ] refl

pub longest_nothing : {V : Type 0} (listed : Keyed V) → at [] listed ≡ None → longest listed [] ≡ None
longest_nothing [] f = refl
longest_nothing (e ∷ es) f =
    elim (tied [] e.0) as (λ b. tied [] e.0 ≡ b → cond b (Some e.1) (at [] es) ≡ None → longest (e ∷ es) [] ≡ None) [
      | true ↦ λ t g. absurd (cc)
      | false ↦ λ t g. ap (λ o. or_before o (cond (begins e.0 []) (Some e) None)) (longest_nothing es g)
          ∙ elim (begins e.0 []) as (λ b. begins e.0 [] ≡ b → cond b (Some e) None ≡ None) [
            | true ↦ λ h. let wrong : true ≡ false = ap (λ x. tied [] x) (sym (begins_nothing e.0 h)) ∙ t in absurd (cc)
            | false ↦ λ h. refl
          ] refl
    ] refl f

-- the same of an identifier that is split
pub longest_split : {V : Type 0} (id above : List ℕ) (x : ℕ) (listed : Keyed V) → id ≡ above ++ x ∷ [] → at id listed ≡ None → longest listed id ≡ longest listed above
longest_split [] above x listed e h = let q : 0 ≡ length above + 1 = ap length e ∙ length-append above (x ∷ []) in absurd (omega arith)
longest_split (n ∷ ns) above x listed e h = longest_above n ns listed h ∙ ap (longest listed) (front_is n ns above x e)

pub longest_empty : {V : Type 0} (id : List ℕ) (listed : Keyed V) → length id ≡ 0 → at id listed ≡ None → longest listed id ≡ None
longest_empty [] listed l h = longest_nothing listed h
longest_empty (n ∷ ns) listed l h = absurd (omega arith)

-- ## A search

-- what a search among prefixes in order finds
pub searched : {V : Type 0} (listed : Keyed V) (id : List ℕ) (r : Result ℕ ℕ) → are_keys_in_order listed ≡ true → IsSearchInRange r (length listed)
    → IsBinarySearchResult (λ (e : List ℕ × V). slice_cmp nat_cmp e.0 id) listed r
    → IfOk r (λ place. place < length listed) × IfOk r (λ place. (e : List ℕ × V) → longest listed id ≡ Some (slice_index_or listed place e)) × IfErr r (λ _. at id listed ≡ None)
searched listed id (Ok place) sorted within here = (within, found, tt)
  where
    found : (e : List ℕ × _) → longest listed id ≡ Some (slice_index_or listed place e)
    found e =
        let entry : List ℕ × _ = slice_index_or listed place e in
        let key : entry.0 ≡ id = anti entry.0 id (here e) in
        let value : at id listed ≡ Some entry.1 = (by_name listed id (Ok place) sorted within here).0.value e in
        longest_itself id entry.1 listed sorted value ∙ ap (λ x. Some (x, entry.1)) (sym key)
searched listed id (Err place) sorted within parted = (tt, tt, (by_name listed id (Err place) sorted within parted).1.absent)
