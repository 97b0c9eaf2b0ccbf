-- The list of a changed map and that of a piece, and which places show what is owned.
use Rattle.std.proofs.Common.{◌≡◌, ◌≢◌, ◌∙◌, ℕ, zero, suc, Bool, true, false, List, [], ◌∷◌, ◌++◌, refl, ap, sym, length, cond, subst, arith, ◌≤◌, ◌==◌}
use Rattle.std.specs.Prelude.{Option, Some, None, ◌&&◌, ◌||◌, nat_eq, is_some, unwrap_or}
use Rattle.std.specs.Bool.{beq}
use Rattle.std.specs.Cmp.{booleans_Decides, unsigned_Decides}
use Rattle.std.specs.List.{list_any}
use Rattle.std.specs.Ordering.{nat_cmp}
use Rattle.std.specs.Cmp.Lexicographic.{slice_cmp}
use Rattle.std.specs.FinMap.Entries.{is_some-find}
use Rattle.std.proofs.lemmas.List.Folds.{list_any-append}
use Rattle.fs_ident.specs.Ordered.{Keyed}
use Rattle.fs_ident.proofs.Booleans.{neither, joined, first, second}
use Rattle.fs_ident.proofs.Options.{not_some}
use Rattle.fs_map.specs.Map.{begins, told_of, IsMap, IsPiece, Owners, Tells, server_of, gives, is_given, after_take}
use Rattle.fs_map.specs.Change.{at, front}
use Rattle.fs_map.specs.Lists.{places_of, turns, map_after_take, piece_of, owns_given}
use Rattle.fs_map.specs.Part.{part_after}
use Rattle.fs_map.proofs.Listing.{shorter, Lists, told, listing, one_list}
use Rattle.fs_map.proofs.Found.{tied, tied_is, tied_self}
use Rattle.fs_map.proofs.Changing.{change_above, mine_above, server_above, gives_above, is_mine, changed_map, piece_given}
use Rattle.fs_map.proofs.Turns.{is_one_of, turns_list}

-- what is no place of a list has no value there
pub unlisted : {V : Type 0} (id : List ℕ) (listed : Keyed V) → is_one_of id (places_of listed) ≡ false → at id listed ≡ None
unlisted id listed h = not_some (at id listed) (is_some-find (slice_cmp nat_cmp) id listed ∙ h)

-- nor in either of two
pub unlisted_both : {A B : Type 0} (id : List ℕ) (old : Keyed A) (new : Keyed B) → is_one_of id (places_of old ++ places_of new) ≡ false → (at id old ≡ None) × (at id new ≡ None)
unlisted_both id old new h =
    let q = neither _ _ (sym (list_any-append (tied id) (places_of old) (places_of new)) ∙ h) in
    (unlisted id old q.0, unlisted id new q.1)

-- ## The lists

module _ (owners : Owners) (me : ℕ) (prefix : List ℕ) (given : Keyed Bool) where
  pub taken_lists : IsPiece prefix given → Lists (after_take owners me prefix given) [] (map_after_take owners me prefix given)
  taken_lists p = turns_list nat_eq (after_take owners me prefix given) [] unsigned_Decides (places_of owners ++ places_of given)
      (λ n ns h b. let q = unlisted_both (n ∷ ns) owners given h in change_above owners me prefix given p n ns q.0 q.1 b)

  pub part_lists : IsPiece prefix given → Lists (after_take owners me prefix given) prefix (part_after owners me prefix given)
  part_lists p = turns_list nat_eq (after_take owners me prefix given) prefix unsigned_Decides (places_of owners ++ places_of given)
      (λ n ns h b. let q = unlisted_both (n ∷ ns) owners given h in change_above owners me prefix given p n ns q.0 q.1 refl)

  pub taken_map : IsPiece prefix given → IsMap (map_after_take owners me prefix given) × Tells (map_after_take owners me prefix given) (after_take owners me prefix given)
  taken_map p = changed_map (after_take owners me prefix given) (map_after_take owners me prefix given) (taken_lists p)

module _ (owners : Owners) (me : ℕ) (prefix : List ℕ) (mine : server_of owners prefix ≡ me) where
  pub piece_lists : Lists (is_mine owners me) prefix (piece_of owners me prefix)
  piece_lists =
      subst (λ b. Lists (is_mine owners me) prefix ((prefix, b) ∷ turns beq (is_mine owners me) prefix (places_of owners))) ((unsigned_Decides (server_of owners prefix) me).1 mine)
      (turns_list beq (is_mine owners me) prefix booleans_Decides (places_of owners) (λ n ns h b. mine_above owners me prefix n ns (unlisted (n ∷ ns) owners h) refl b))

  pub piece_piece : IsPiece prefix (piece_of owners me prefix) × ((id : List ℕ) → gives prefix (piece_of owners me prefix) id ≡ is_given owners me prefix id)
  piece_piece = piece_given owners me prefix (piece_of owners me prefix) piece_lists

-- ## What is owned

pub any_tied : (test : List ℕ → Bool) (id : List ℕ) (places : List (List ℕ)) → list_any test places ≡ false → is_one_of id places ≡ true → test id ≡ false
any_tied test id [] h o = absurd (cc)
any_tied test id (p ∷ ps) h o =
    let q = neither (test p) (list_any test ps) h in
    elim (tied id p) as (λ t. tied id p ≡ t → (t || is_one_of id ps) ≡ true → test id ≡ false) [
      | true ↦ λ t _. ap test (tied_is id p t) ∙ q.0
      | false ↦ λ t g. any_tied test id ps q.1 g
    ] refl o

module _ (owners : Owners) (me : ℕ) (prefix : List ℕ) (given : Keyed Bool) (m : IsMap owners) (p : IsPiece prefix given) (none : owns_given owners me prefix given ≡ false) where
  abbrev places : List (List ℕ)
  places = places_of owners ++ places_of given

  abbrev shows : List ℕ → Bool
  shows id = gives prefix given id && (server_of owners id == me)

  root_listed : at [] owners ≡ None → ⊥
  root_listed h =
      let there : at [] owners ≡ Some m.first.0 = ap (at []) m.first.2 ∙ ap (λ b. cond b (Some m.first.0) (at [] m.first.1)) (tied_self []) in
      let wrong : Some m.first.0 ≡ None = sym there ∙ h in
      absurd (cc)

  step : (id : List ℕ) → ((at id owners ≡ None) × (at id given ≡ None) → shows id ≡ false) → shows id ≡ false
  step id above =
      elim (is_one_of id places) as (λ b. is_one_of id places ≡ b → shows id ≡ false) [
        | true ↦ λ o. any_tied shows id places none o
        | false ↦ λ o. above (unlisted_both id owners given o)
      ] refl

  shown_within : (k : ℕ) (id : List ℕ) → length id ≤ k → shows id ≡ false
  shown_within k [] s = step [] (λ q. absurd (root_listed q.0))
  shown_within zero (n ∷ ns) s = absurd (omega arith)
  shown_within (suc k) (n ∷ ns) s =
      let higher : shows (front n ns) ≡ false = shown_within k (front n ns) (shorter n ns k s) in
      step (n ∷ ns) (λ q. ap (λ g. g && (server_of owners (n ∷ ns) == me)) (gives_above prefix given p n ns q.1) ∙ ap (λ x. gives prefix given (front n ns) && (x == me)) (server_above owners n ns q.0) ∙ higher)

  pub shown : (id : List ℕ) → gives prefix given id ≡ true → server_of owners id ≢ me
  shown id g e =
      let wrong : shows id ≡ true = joined _ _ g ((unsigned_Decides (server_of owners id) me).1 e) in
      let not_shown : shows id ≡ false = shown_within (length id) id (omega arith) in
      absurd (cc)

-- ## One list

-- the list of the changed servers from the prefix on is the part
pub part_is : (owners : Owners) (me : ℕ) (prefix : List ℕ) (given : Keyed Bool) (listed : Owners) → IsPiece prefix given → Lists (after_take owners me prefix given) prefix listed → listed ≡ part_after owners me prefix given
part_is owners me prefix given listed p l = one_list (after_take owners me prefix given) prefix listed (part_after owners me prefix given) l (part_lists owners me prefix given p)

-- a piece that gives what the server has is the list
pub piece_is : (owners : Owners) (me : ℕ) (prefix : List ℕ) (given : Keyed Bool) → server_of owners prefix ≡ me → IsPiece prefix given × ((id : List ℕ) → gives prefix given id ≡ is_given owners me prefix id) → given ≡ piece_of owners me prefix
piece_is owners me prefix given mine p =
    one_list (is_mine owners me) prefix given (piece_of owners me prefix)
    (listing (is_mine owners me) prefix given p.0 (λ id h. told prefix given p.0 false id h ∙ ap Some (below id h)))
    (piece_lists owners me prefix mine)
  where
    below : (id : List ℕ) → begins prefix id ≡ true → unwrap_or (told_of given id) false ≡ is_mine owners me id
    below id h = ap (λ x. x && (unwrap_or (told_of given id) false)) (sym h) ∙ p.1 id ∙ ap (λ x. x && is_mine owners me id) h

-- ## Some identifier

pub any_is : (test : List ℕ → Bool) (places : List (List ℕ)) → list_any test places ≡ true → (id : List ℕ) × (test id ≡ true)
any_is test [] h = absurd (cc)
any_is test (p ∷ ps) h = elim (test p) as (λ b. test p ≡ b → (b || list_any test ps) ≡ true → (id : List ℕ) × (test id ≡ true)) [
  | true ↦ λ t _. (p, t)
  | false ↦ λ t g. any_is test ps g
] refl h

pub owned : (owners : Owners) (me : ℕ) (prefix : List ℕ) (given : Keyed Bool) → owns_given owners me prefix given ≡ true → (id : List ℕ) × ((gives prefix given id ≡ true) × (server_of owners id ≡ me))
owned owners me prefix given h =
    let found = any_is (λ id. gives prefix given id && (server_of owners id == me)) (places_of owners ++ places_of given) h in
    (found.0, (first _ _ found.1, (unsigned_Decides (server_of owners found.0) me).0 (second _ _ found.1)))
