-- A change of a map, and what is given away, differ from what is above only where a list has an entry.
use Rattle.std.proofs.Common.{◌≡◌, ◌≢◌, ◌∙◌, ℕ, Bool, true, false, List, [], ◌∷◌, ◌++◌, refl, ap, sym, length, inl, inr, cond, subst, arith, ◌+◌, ◌<◌, ◌≤◌, ◌==◌, suc, get_or, drop, drop-cons}
use Rattle.std.proofs.Math.ListN.{drop_of_length-le}
use Rattle.std.specs.Prelude.{Some, None, ◌&&◌, not, nat_eq, unwrap_or, option_map}
use Rattle.std.specs.Bool.{Decides, beq}
use Rattle.std.specs.Cmp.{booleans_Decides, unsigned_Decides}
use Rattle.fs_ident.specs.Ordered.{Keyed, are_keys_in_order}
use Rattle.fs_map.specs.Map.{begins, told_of, IsMap, IsPiece, Owners, Tells, server_of, gives, is_given, after_take}
use Rattle.fs_map.specs.Change.{at, front, turned, IsNext}
use Rattle.fs_map.specs.Part.{IsPartOf}
use Rattle.fs_map.proofs.Prefixes.{itself_or_above, begins_below}
use Rattle.fs_map.proofs.Found.{tied_self, longest_above}
use Rattle.fs_map.proofs.Listing.{Lists, some_is, tells, reduced}
use Rattle.fs_map.proofs.Merging.{IsListedSoFar, left_out, added, begun, ended, only_old}

told_above : {V : Type 0} (n : ℕ) (ns : List ℕ) (listed : Keyed V) → at (n ∷ ns) listed ≡ None → told_of listed (n ∷ ns) ≡ told_of listed (front n ns)
told_above n ns listed h = ap (option_map (λ e. e.1)) (longest_above n ns listed h)

pub server_above : (owners : Owners) (n : ℕ) (ns : List ℕ) → at (n ∷ ns) owners ≡ None → server_of owners (n ∷ ns) ≡ server_of owners (front n ns)
server_above owners n ns h = ap (λ o. unwrap_or o 0) (told_above n ns owners h)

pub gives_above : (prefix : List ℕ) (given : Keyed Bool) → IsPiece prefix given → (n : ℕ) (ns : List ℕ) → at (n ∷ ns) given ≡ None → gives prefix given (n ∷ ns) ≡ gives prefix given (front n ns)
gives_above prefix given p n ns h =
    ap (λ b. b && (unwrap_or (told_of given (n ∷ ns)) false)) same ∙ ap (λ o. begins prefix (front n ns) && (unwrap_or o false)) (told_above n ns given h)
  where
    there : at prefix given ≡ Some p.first.0
    there = ap (at prefix) p.first.2 ∙ ap (λ b. cond b (Some p.first.0) (at prefix p.first.1)) (tied_self prefix)

    same : begins prefix (n ∷ ns) ≡ begins prefix (front n ns)
    same = elim (begins prefix (n ∷ ns)) as (λ b. begins prefix (n ∷ ns) ≡ b → b ≡ begins prefix (front n ns)) [
      | true ↦ λ b. elim (itself_or_above prefix n ns b) [
        | inl e ↦ let wrong : Some p.first.0 ≡ None = sym there ∙ ap (λ x. at x given) e ∙ h in absurd (cc)
        | inr c ↦ sym c
      ]
      | false ↦ λ b. elim (begins prefix (front n ns)) as (λ c. begins prefix (front n ns) ≡ c → false ≡ c) [
        | true ↦ λ c. let wrong : true ≡ false = sym (begins_below prefix n ns c) ∙ b in absurd (cc)
        | false ↦ λ c. refl
      ] refl
    ] refl

pub change_above : (owners : Owners) (to : ℕ) (prefix : List ℕ) (given : Keyed Bool) → IsPiece prefix given → (n : ℕ) (ns : List ℕ) → at (n ∷ ns) owners ≡ None → at (n ∷ ns) given ≡ None → begins [] (front n ns) ≡ true → after_take owners to prefix given (n ∷ ns) ≡ after_take owners to prefix given (front n ns)
change_above owners to prefix given p n ns h k b =
    ap (λ g. cond g to (server_of owners (n ∷ ns))) (gives_above prefix given p n ns k) ∙ ap (λ s. cond (gives prefix given (front n ns)) to s) (server_above owners n ns h)

-- no second list
abbrev pub nothing : Keyed Bool
nothing = []

-- the server has the identifier
abbrev pub is_mine : Owners → ℕ → List ℕ → Bool
is_mine owners me id = server_of owners id == me

pub mine_above : (owners : Owners) (me : ℕ) (prefix : List ℕ) (n : ℕ) (ns : List ℕ) → at (n ∷ ns) owners ≡ None → at (n ∷ ns) nothing ≡ None → begins prefix (front n ns) ≡ true → is_mine owners me (n ∷ ns) ≡ is_mine owners me (front n ns)
mine_above owners me prefix n ns h k b = ap (λ s. s == me) (server_above owners n ns h)

-- ## One place

module _ {V : Type 0} (same : V → V → Bool) (tests : (x y : V) → Decides (same x y) (x ≡ y)) (f : List ℕ → V) (top : List ℕ) where
  as_above : (n : ℕ) (ns : List ℕ) → turned same f top (n ∷ ns) ≡ None → begins top (front n ns) ≡ true → f (n ∷ ns) ≡ f (front n ns)
  as_above n ns t b =
      elim (same (f (front n ns)) (f (n ∷ ns))) as (λ s. same (f (front n ns)) (f (n ∷ ns)) ≡ s → cond (true && not s) (Some (f (n ∷ ns))) None ≡ None → f (n ∷ ns) ≡ f (front n ns)) [
        | true ↦ λ s _. sym ((tests (f (front n ns)) (f (n ∷ ns))).0 s)
        | false ↦ λ s g. absurd (cc)
      ] refl (ap (λ c. cond (c && not (same (f (front n ns)) (f (n ∷ ns)))) (Some (f (n ∷ ns))) None) (sym b) ∙ t)

  pub stays : (place : List ℕ) → turned same f top place ≡ None → (n : ℕ) (ns : List ℕ) → place ≡ n ∷ ns → begins top (front n ns) ≡ true → f (n ∷ ns) ≡ f (front n ns)
  stays place t n ns e b = as_above n ns (ap (turned same f top) (sym e) ∙ t) b

  pub turns : (n : ℕ) (ns : List ℕ) (v : V) → turned same f top (n ∷ ns) ≡ Some v → (begins top (front n ns) ≡ true) × (f (front n ns) ≢ f (n ∷ ns)) × (f (n ∷ ns) ≡ v)
  turns n ns v t =
      elim (begins top (front n ns)) as (λ b. begins top (front n ns) ≡ b → cond (b && not (same (f (front n ns)) (f (n ∷ ns)))) (Some (f (n ∷ ns))) None ≡ Some v → (begins top (front n ns) ≡ true) × (f (front n ns) ≢ f (n ∷ ns)) × (f (n ∷ ns) ≡ v)) [
        | false ↦ λ b g. absurd (cc)
        | true ↦ λ b g. elim (same (f (front n ns)) (f (n ∷ ns))) as (λ s. same (f (front n ns)) (f (n ∷ ns)) ≡ s → cond (true && not s) (Some (f (n ∷ ns))) None ≡ Some v → (begins top (front n ns) ≡ true) × (f (front n ns) ≢ f (n ∷ ns)) × (f (n ∷ ns) ≡ v)) [
          | true ↦ λ s k. absurd (cc)
          | false ↦ λ s k. (b, (λ e. let wrong : true ≡ false = sym ((tests (f (front n ns)) (f (n ∷ ns))).1 e) ∙ s in absurd (cc)), some_is k)
        ] refl g
      ] refl t

  module _ {A B : Type 0} (listed : Keyed V) (old : Keyed A) (new : Keyed B) (place : List ℕ) (old_rest : Keyed A) (new_rest : Keyed B) (s : IsListedSoFar f top listed old new) (next : IsNext old new place old_rest new_rest) where
    -- a place that tells what is told above is left out
    pub passed_by : turned same f top place ≡ None → IsListedSoFar f top listed old_rest new_rest
    passed_by t = left_out f top listed old new place old_rest new_rest s next (stays place t)

    -- another is listed
    pub listed_too : (v : V) → turned same f top place ≡ Some v → IsListedSoFar f top (listed ++ (place, v) ∷ []) old_rest new_rest
    listed_too v t = go place refl
      where
        go : (p : List ℕ) → place ≡ p → IsListedSoFar f top (listed ++ (place, v) ∷ []) old_rest new_rest
        go [] e = let wrong : None ≡ Some v = ap (turned same f top) (sym e) ∙ t in absurd (cc)
        go (n ∷ ns) e =
            let q = turns n ns v (ap (turned same f top) (sym e) ∙ t) in
            let same_entry : (n ∷ ns, f (n ∷ ns)) ≡ (place, v) = ap (λ x. (x, f (n ∷ ns))) (sym e) ∙ ap (λ x. (place, x)) q.2 in
            let more = added f top listed old new place old_rest new_rest s next n ns e q.0 q.1 in
            subst (λ (x : List ℕ × V). IsListedSoFar f top (listed ++ x ∷ []) old_rest new_rest) same_entry more

-- ## The whole change

-- a list of the changed servers is a map that tells them
pub changed_map : (f : List ℕ → ℕ) (owners : Owners) → Lists f [] owners → IsMap owners × Tells owners f
changed_map f owners l = (reduced f [] owners l, λ id. ap (λ o. unwrap_or o 0) (tells f [] owners l id refl))

-- a list of what the server has is a piece that gives it
pub piece_given : (owners : Owners) (me : ℕ) (prefix : List ℕ) (given : Keyed Bool) → Lists (is_mine owners me) prefix given → IsPiece prefix given × ((id : List ℕ) → gives prefix given id ≡ is_given owners me prefix id)
piece_given owners me prefix given l = (reduced (is_mine owners me) prefix given l, same)
  where
    same : (id : List ℕ) → gives prefix given id ≡ is_given owners me prefix id
    same id = elim (begins prefix id) as (λ b. begins prefix id ≡ b → (b && (unwrap_or (told_of given id) false)) ≡ (b && is_mine owners me id)) [
      | true ↦ λ b. ap (λ o. unwrap_or o false) (tells (is_mine owners me) prefix given l id b)
      | false ↦ λ b. refl
    ] refl

-- ## From the top to the end

module _ (owners : Owners) (to : ℕ) (prefix : List ℕ) (given : Keyed Bool) where
  abbrev changed_to : List ℕ → ℕ
  changed_to id = after_take owners to prefix given id

  pub change_begun : (listed part : Owners) (new : Keyed Bool) → IsPiece prefix given → IsPartOf prefix part owners → listed ≡ (prefix, after_take owners to prefix given prefix) ∷ [] → new ≡ given → IsListedSoFar (after_take owners to prefix given) prefix listed part new
  change_begun listed part new p s e q =
      subst (λ l. IsListedSoFar changed_to prefix l part new) (sym e)
      (subst (λ n. IsListedSoFar changed_to prefix ((prefix, changed_to prefix) ∷ []) part n) (sym q)
      (begun changed_to prefix part given (λ n ns h k b. change_above owners to prefix given p n ns (sym (s.same (n ∷ ns) (begins_below prefix n ns b)) ∙ h) k refl)))

  module _ (listed old : Owners) (new : Keyed Bool) (place : List ℕ) (old_rest : Owners) (new_rest : Keyed Bool) (s : IsListedSoFar (after_take owners to prefix given) prefix listed old new) (next : IsNext old new place old_rest new_rest) where
    pub change_kept : turned nat_eq (after_take owners to prefix given) prefix place ≡ None → IsListedSoFar (after_take owners to prefix given) prefix listed old_rest new_rest
    change_kept t = passed_by nat_eq unsigned_Decides changed_to prefix listed old new place old_rest new_rest s next t

    pub change_listed : (v : ℕ) (more : Owners) → turned nat_eq (after_take owners to prefix given) prefix place ≡ Some v → more ≡ listed ++ (place, v) ∷ [] → IsListedSoFar (after_take owners to prefix given) prefix more old_rest new_rest
    change_listed v more t e = subst (λ l. IsListedSoFar changed_to prefix l old_rest new_rest) (sym e) (listed_too nat_eq unsigned_Decides changed_to prefix listed old new place old_rest new_rest s next v t)

  pub change_ended : (listed old : Owners) (new : Keyed Bool) → IsListedSoFar (after_take owners to prefix given) prefix listed old new → old ≡ [] → new ≡ [] → Lists (after_take owners to prefix given) prefix listed
  change_ended listed old new s p q =
      ended changed_to prefix listed (subst (λ o. IsListedSoFar changed_to prefix listed o nothing) p (subst (IsListedSoFar changed_to prefix listed old) q s))

pub next_item : {X : Type 0} (l : List X) (i : ℕ) (x : X) → i < length l → x ≡ get_or l i x → drop i l ≡ x ∷ drop (i + 1) l
next_item l i x within is =
    let one : suc i ≡ i + 1 = omega arith in
    drop-cons l i x within ∙ ap (λ y. y ∷ drop (suc i) l) (sym is) ∙ ap (λ n. x ∷ drop n l) one

pub passed_all : {X : Type 0} (l : List X) (i : ℕ) → length l ≤ i → drop i l ≡ []
passed_all l i h = drop_of_length-le l h

module _ (owners : Owners) (me : ℕ) (prefix : List ℕ) where
  pub piece_begun : (given : Keyed Bool) (part : Owners) → server_of owners prefix ≡ me → IsPartOf prefix part owners → given ≡ (prefix, true) ∷ [] → IsListedSoFar (is_mine owners me) prefix given part nothing
  piece_begun given part m s e =
      let mine : true ≡ is_mine owners me prefix = sym ((unsigned_Decides (server_of owners prefix) me).1 m) in
      subst (λ g. IsListedSoFar (is_mine owners me) prefix g part nothing) (sym (e ∙ ap (λ b. (prefix, b) ∷ []) mine))
      (begun (is_mine owners me) prefix part nothing (λ n ns h k b. mine_above owners me prefix n ns (sym (s.same (n ∷ ns) (begins_below prefix n ns b)) ∙ h) k b))

  -- the next prefix of the map, where no second list is
  module _ (given : Keyed Bool) (old : Owners) (e : List ℕ × ℕ) (es : Owners) (s : IsListedSoFar (is_mine owners me) prefix given old nothing) (h : are_keys_in_order old ≡ true) (q : old ≡ e ∷ es) where
    next : IsNext old nothing e.0 es nothing
    next = only_old old nothing e es q refl h

    pub piece_order : are_keys_in_order es ≡ true
    piece_order = next.old_order

    pub piece_kept : (still : Keyed Bool) → still ≡ given → turned beq (is_mine owners me) prefix e.0 ≡ None → IsListedSoFar (is_mine owners me) prefix still es nothing
    piece_kept still m t = subst (λ g. IsListedSoFar (is_mine owners me) prefix g es nothing) (sym m) (passed_by beq booleans_Decides (is_mine owners me) prefix given old nothing e.0 es nothing s next t)

    pub piece_listed : (v : Bool) (more : Keyed Bool) → turned beq (is_mine owners me) prefix e.0 ≡ Some v → more ≡ given ++ (e.0, v) ∷ [] → IsListedSoFar (is_mine owners me) prefix more es nothing
    piece_listed v more t m = subst (λ g. IsListedSoFar (is_mine owners me) prefix g es nothing) (sym m) (listed_too beq booleans_Decides (is_mine owners me) prefix given old nothing e.0 es nothing s next v t)

  pub piece_ended : (given : Keyed Bool) (old : Owners) → IsListedSoFar (is_mine owners me) prefix given old nothing → old ≡ [] → IsPiece prefix given × ((id : List ℕ) → gives prefix given id ≡ is_given owners me prefix id)
  piece_ended given old s p = piece_given owners me prefix given (ended (is_mine owners me) prefix given (subst (λ o. IsListedSoFar (is_mine owners me) prefix given o nothing) p s))

-- ## All below a prefix

whole_piece : (prefix : List ℕ) → IsPiece prefix ((prefix, true) ∷ [])
whole_piece prefix = reduced (λ _. true) prefix ((prefix, true) ∷ []) (ended {A = Bool} {B = Bool} (λ _. true) prefix ((prefix, true) ∷ []) (begun {A = Bool} {B = Bool} (λ _. true) prefix [] [] (λ n ns p q b. refl)))

pub is_whole : (p prefix : List ℕ) (given : Keyed Bool) → p ≡ prefix → given ≡ (prefix, true) ∷ [] → IsPiece p given
is_whole p prefix given e q = subst (λ x. IsPiece x given) (sym e) (subst (IsPiece prefix) (sym q) (whole_piece prefix))
