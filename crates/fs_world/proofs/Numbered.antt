-- The numbers of each actor's items.
use Rattle.std.proofs.Common.{◌≡◌, ℕ, ◌+◌, ◌≤◌, ◌==◌, ◌⊎◌, inl, inr, Bool, true, false, List, [], ◌∷◌, ◌++◌, length, refl, ap, sym, ◌∙◌}
use Rattle.std.proofs.Common.{cond, arith, length-append, subst}
use Rattle.std.proofs.lemmas.List.{append-nil}
use Rattle.std.proofs.lemmas.List.Elements.{filter-append}
use Rattle.std.proofs.lemmas.Bool.{eqb-true}
use Rattle.std.proofs.lemmas.Bool.Decides.{nat_tests}
use Rattle.std.specs.Prelude.{Some, None, unwrap_or, filter}
use Rattle.std.specs.Cmp.{nat_cmp_total, unsigned_tied}
use Rattle.std.specs.FinMap.{get, insert, get-insert}
use Rattle.fs_ident.specs.declared.actor.Session.{Session}
use Rattle.fs_ident.specs.declared.actor.Peer.{Peer}
use Rattle.fs_ident.specs.declared.actor.Peer.TheVariants.{Server, Client}
use Rattle.fs_ident.specs.In.{In}
use Rattle.fs_msg.specs.declared.item.Item.{Item}
use Rattle.fs_world.specs.Order.{items_of, same_actor, AreNumberedFrom}
use Rattle.fs_world.specs.Direct.{Counts}

numbered_push : (k : ℕ) (is : List Item) (i : Item) → AreNumberedFrom k is → i.n ≡ k + length is → AreNumberedFrom k (is ++ i ∷ [])
numbered_push k [] i h e = (e ∙ (omega arith), tt)
numbered_push k (x ∷ xs) i h e = (h.0, numbered_push (k + 1) xs i h.1 (e ∙ (omega arith)))

-- ## One item for each number

at_least : (k : ℕ) (is : List Item) (i : Item) → AreNumberedFrom k is → In i is → k ≤ i.n
at_least k [] i h m = absurd m
at_least k (x ∷ xs) i h (inl e) = let same : i.n ≡ x.n = ap (λ (y : Item). y.n) e in omega (arith, h.0)
at_least k (x ∷ xs) i h (inr m) = omega (arith, at_least (k + 1) xs i h.1 m)

pub number_of_one : (k : ℕ) (is : List Item) (i j : Item) → AreNumberedFrom k is → In i is → In j is → i.n ≡ j.n → i ≡ j
number_of_one k [] i j h a b e = absurd a
number_of_one k (x ∷ xs) i j h (inl p) (inl q) e = p ∙ sym q
number_of_one k (x ∷ xs) i j h (inl p) (inr q) e = let same : i.n ≡ x.n = ap (λ (y : Item). y.n) p in
    absurd (omega (arith, h.0, at_least (k + 1) xs j h.1 q))
number_of_one k (x ∷ xs) i j h (inr p) (inl q) e = let same : j.n ≡ x.n = ap (λ (y : Item). y.n) q in
    absurd (omega (arith, h.0, at_least (k + 1) xs i h.1 p))
number_of_one k (x ∷ xs) i j h (inr p) (inr q) e = number_of_one (k + 1) xs i j h.1 p q e

in_filter : {X : Type 0} (b : Bool) (p : X → Bool) (x y : X) (ys : List X) → p y ≡ b → p x ≡ true → (x ≡ y) ⊎ In x (filter p ys)
    → In x (filter p (y ∷ ys))
in_filter true p x y ys e t h = rw e h
in_filter false p x y ys e t (inl q) = absurd (let no : p x ≡ false = ap p q ∙ e in cc)
in_filter false p x y ys e t (inr h) = rw e h

pub kept : {X : Type 0} (p : X → Bool) (xs : List X) (x : X) → p x ≡ true → In x xs → In x (filter p xs)
kept p [] x t h = absurd h
kept p (y ∷ ys) x t (inl e) = in_filter (p y) p x y ys refl t (inl e)
kept p (y ∷ ys) x t (inr h) = in_filter (p y) p x y ys refl t (inr (kept p ys x t h))

-- two items of one session with one number are one
pub one_item : (journal : List Item) (s : Session) (i j : Item) → AreNumberedFrom 1 (items_of (Client s) journal) → In i journal
    → In j journal → i.by ≡ Client s → j.by ≡ Client s → i.n ≡ j.n → i ≡ j
one_item journal s i j h a b ai bj e =
    let own : (x : Item) → x.by ≡ Client s → same_actor (Client s) x.by ≡ true =
    λ x q. ap (same_actor (Client s)) q ∙ grind (arith, nat_tests) in
    number_of_one 1 (items_of (Client s) journal) i j h (kept _ journal i (own i ai) a) (kept _ journal j (own j bj) b) e

-- ## Counts

-- the session's items have the numbers 1, 2, 3 .., and its count is how many there are
pub record IsCounted (journal : List Item) (asked : Counts) (s : Session) : Type 0 where
  pub numbered : AreNumberedFrom 1 (items_of (Client s) journal)
  pub counted : length (items_of (Client s) journal) ≡ unwrap_or (get asked s.0) 0

get_counts : (asked : Counts) (k v q : ℕ) → get (insert asked k v) q ≡ cond (q == k) (Some v) (get asked q)
get_counts asked k v q = get-insert nat_cmp_total asked k v q ∙ ap (λ b. cond b (Some v) (get asked q)) (unsigned_tied q k)

-- a session joined: its count was none and is 0
pub counted_joined : (journal : List Item) (asked : Counts) (c s : Session) → get asked c.0 ≡ None → IsCounted journal asked s
    → IsCounted journal (insert asked c.0 0) s
counted_joined journal asked c s none h = record {
  numbered = h.numbered;
  counted =
      h.counted ∙ same (s.0 == c.0) refl ∙ ap (λ o. unwrap_or o 0) (sym (get_counts asked c.0 0 s.0));
}
  where
    same : (b : Bool) → (s.0 == c.0) ≡ b → unwrap_or (get asked s.0) 0 ≡ unwrap_or (cond b (Some 0) (get asked s.0)) 0
    same true t = ap (λ q. unwrap_or (get asked q) 0) (eqb-true s.0 c.0 t) ∙ ap (λ o. unwrap_or o 0) none
    same false t = refl

items_more : (who : Peer) (journal : List Item) (i : Item) (b : Bool) → same_actor who i.by ≡ b
    → items_of who (journal ++ i ∷ []) ≡ items_of who journal ++ cond b (i ∷ []) []
items_more who journal i b t = filter-append (λ (x : Item). same_actor who x.by) journal (i ∷ [])
    ∙ ap (λ y. items_of who journal ++ cond y (i ∷ []) []) t

-- a session was answered: it has one more item, of the number that is now its count
pub counted_answered : (journal : List Item) (asked : Counts) (c s : Session) (n : ℕ) (i : Item) → get asked c.0 ≡ Some n → i.by ≡ Client c
    → i.n ≡ n + 1 → IsCounted journal asked s → IsCounted (journal ++ i ∷ []) (insert asked c.0 (n + 1)) s
counted_answered journal asked c s n i some by number h = here (s.0 == c.0) refl
  where
    items : (b : Bool) → (s.0 == c.0) ≡ b → items_of (Client s) (journal ++ i ∷ []) ≡ items_of (Client s) journal ++ cond b (i ∷ []) []
    items b t = items_more (Client s) journal i b (ap (same_actor (Client s)) by ∙ t)

    here : (b : Bool) → (s.0 == c.0) ≡ b → IsCounted (journal ++ i ∷ []) (insert asked c.0 (n + 1)) s
    here true t =
        let before : length (items_of (Client s) journal) ≡ n = h.counted ∙ ap (λ q. unwrap_or (get asked q) 0) (eqb-true s.0 c.0 t)
        ∙ ap (λ o. unwrap_or o 0) some in
        record {
          numbered = subst (AreNumberedFrom 1) (sym (items true t)) (numbered_push 1 (items_of (Client s) journal) i h.numbered (number
              ∙ (omega arith)));
          counted = ap length (items true t) ∙ length-append (items_of (Client s) journal) (i ∷ []) ∙ (omega arith)
              ∙ ap (λ o. unwrap_or o 0) (sym (get_counts asked c.0 (n + 1) s.0 ∙ ap (λ b. cond b (Some (n + 1)) (get asked s.0)) t));
        }
    here false t =
        let same : items_of (Client s) (journal ++ i ∷ []) ≡ items_of (Client s) journal =
        items false t ∙ append-nil (items_of (Client s) journal) in
        record {
          numbered = subst (AreNumberedFrom 1) (sym same) h.numbered;
          counted = ap length same ∙ h.counted
              ∙ ap (λ o. unwrap_or o 0) (sym (get_counts asked c.0 (n + 1) s.0 ∙ ap (λ b. cond b (Some (n + 1)) (get asked s.0)) t));
        }

-- no server has an item where sessions alone are answered
pub none_served : (k : ℕ) (journal : List Item) (c : Session) (i : Item) → i.by ≡ Client c → items_of (Server k) journal ≡ []
    → items_of (Server k) (journal ++ i ∷ []) ≡ []
none_served k journal c i by h = items_more (Server k) journal i false (ap (same_actor (Server k)) by)
    ∙ append-nil (items_of (Server k) journal) ∙ h
