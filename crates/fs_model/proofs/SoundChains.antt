-- Chains of parents: how far a file is from the root.
use Rattle.std.proofs.Common.{◌≡◌, ◌≢◌, inl, inr, ℕ, zero, suc, ◌-◌, ◌<◌, ◌≤◌, List, [], ◌∷◌, refl, sym, ap, ◌∙◌, subst, true, false, cond, arith, Option, Some, None, IsSome, IsTrue, is_some, nat_eq}
use Rattle.std.proofs.lemmas.Bool.{or_cases, or_left, or_right, or_parts}
use Rattle.std.specs.Option.{option_map_or}
use Rattle.std.specs.FinMap.{get, remove, len, empty_of_len, get-empty, len-remove}
use Rattle.std.specs.Ordering.{nat_cmp}
use Rattle.std.specs.Cmp.Lexicographic.{slice_cmp, nat_list_cmp_total, pointwise, bytes_decides}
use Rattle.fs_model.specs.declared.node.Node.{Node}
use Rattle.fs_model.specs.Namespace.{NodeMap}
use Rattle.fs_model.specs.Ancestors.{directory_of, ancestors_within, is_among}
use Rattle.fs_model.specs.Sound.{ReachesRoot}
use Rattle.fs_model.proofs.SoundMaps.{remove_other}

-- so many steps lead from the file to the root
abbrev pub Climbs : ℕ → NodeMap → List ℕ → Type 0
Climbs zero m file = file ≡ []
Climbs (suc k) m file = (dir : List ℕ) × (directory_of (get m file) ≡ Some dir) × Climbs k m dir

-- a file that has a directory is there
there : (o : Option Node) (dir : List ℕ) → directory_of o ≡ Some dir → is_some o ≡ true
there None dir e = absurd (cc e)
there (Some n) dir e = refl

-- the root has no parent
abbrev pub IsTop : NodeMap → Type 0
IsTop m = directory_of (get m []) ≡ None

module _ (m : NodeMap) (top : IsTop m) where
  pub not_root : (file dir : List ℕ) → directory_of (get m file) ≡ Some dir → file ≢ []
  not_root file dir e r = let q : None ≡ Some dir = sym top ∙ ap (λ f. directory_of (get m f)) (sym r) ∙ e in absurd (cc q)

  one_dir : (file a b : List ℕ) → directory_of (get m file) ≡ Some a → directory_of (get m file) ≡ Some b → a ≡ b
  one_dir file a b p q = let e : Some a ≡ Some b = sym p ∙ q in (let r : a ≡ b = cc e in r)

  pub one_depth : (i j : ℕ) (file : List ℕ) → Climbs i m file → Climbs j m file → i ≡ j
  one_depth zero zero file a b = refl
  one_depth zero (suc j) file a b = absurd (not_root file b.0 b.1 a)
  one_depth (suc i) zero file a b = absurd (not_root file a.0 a.1 b)
  one_depth (suc i) (suc j) file a b = ap suc (one_depth i j b.0 (subst (Climbs i m) (one_dir file a.0 b.0 a.1 b.1) a.2) b.2)

  -- the same for its directory
  above : (j : ℕ) (file dir : List ℕ) → Climbs j m file → directory_of (get m file) ≡ Some dir → (i : ℕ) × (i < j) × Climbs i m dir
  above zero file dir c e = absurd (not_root file dir e c)
  above (suc j) file dir c e = (j, omega arith, subst (Climbs j m) (one_dir file c.0 dir c.1 e) c.2)

  -- an ancestor is nearer to the root
  pub nearer : (fuel d : ℕ) (file other : List ℕ) → Climbs d m file → is_among other (ancestors_within fuel m file) ≡ true → (e : ℕ) × (e < d) × Climbs e m other
  nearer zero d file other c a = absurd (cc a)
  nearer (suc fuel) d file other c a = by (directory_of (get m file)) refl a (λ dir e k z. nearer fuel e dir other k z)
    where
      by : (o : Option (List ℕ)) → directory_of (get m file) ≡ o → is_among other (option_map_or (λ dir. dir ∷ ancestors_within fuel m dir) o []) ≡ true → ((dir : List ℕ) (e : ℕ) → Climbs e m dir → is_among other (ancestors_within fuel m dir) ≡ true → (i : ℕ) × (i < e) × Climbs i m other) → (i : ℕ) × (i < d) × Climbs i m other
      by None p a more = absurd (cc a)
      by (Some dir) p a more =
          let up = above d file dir c p in
          elim (or_cases (pointwise nat_eq dir other) (is_among other (ancestors_within fuel m dir)) a) as (λ _. (i : ℕ) × (i < d) × Climbs i m other) [
            | inl e ↦ (up.0, up.1, subst (Climbs up.0 m) ((bytes_decides dir other).0 e) up.2)
            | inr e ↦ (let r = more dir up.0 up.2 e in let l = up.1 in let k = r.1 in (r.0, omega arith, r.2))
          ]

  -- no more are found with more steps than the file has to the root
  pub enough : (fuel d most : ℕ) (file other : List ℕ) → Climbs d m file → d ≤ most → is_among other (ancestors_within fuel m file) ≡ true → is_among other (ancestors_within most m file) ≡ true
  enough zero d most file other c l a = absurd (cc a)
  enough (suc fuel) zero most file other c l a = by (directory_of (get m file)) refl a
    where
      by : (o : Option (List ℕ)) → directory_of (get m file) ≡ o → is_among other (option_map_or (λ dir. dir ∷ ancestors_within fuel m dir) o []) ≡ true → is_among other (ancestors_within most m file) ≡ true
      by None p a = absurd (cc a)
      by (Some dir) p a = absurd (not_root file dir p c)
  enough (suc fuel) (suc d) zero file other c l a = absurd (omega arith)
  enough (suc fuel) (suc d) (suc most) file other c l a =
      let seen : is_among other (c.0 ∷ ancestors_within fuel m c.0) ≡ true = sym (ap (λ o. is_among other (option_map_or (λ dir. dir ∷ ancestors_within fuel m dir) o [])) c.1) ∙ a in
      ap (λ o. is_among other (option_map_or (λ dir. dir ∷ ancestors_within most m dir) o [])) c.1 ∙
      elim (or_cases (pointwise nat_eq c.0 other) (is_among other (ancestors_within fuel m c.0)) seen) as (λ _. is_among other (c.0 ∷ ancestors_within most m c.0) ≡ true) [
        | inl e ↦ or_left _ _ e
        | inr e ↦ or_right _ _ (enough fuel d most c.0 other c.2 (omega arith) e)
      ]

-- the chain in another space, where what matters of each file on it is the same
pub climb_kept : (m n : NodeMap) (P : List ℕ → Type 0) → ((file dir : List ℕ) → P file → directory_of (get m file) ≡ Some dir → (directory_of (get n file) ≡ Some dir) × P dir) → (k : ℕ) (file : List ℕ) → P file → Climbs k m file → Climbs k n file
climb_kept m n P h zero file p c = c
climb_kept m n P h (suc k) file p c = let s = h file c.0 p c.1 in (c.0, s.0, climb_kept m n P h k c.0 s.1 c.2)

-- a file that is not on the chain may change
pub climb_clear : (m n : NodeMap) (file : List ℕ) → ((q : List ℕ) → q ≢ file → directory_of (get n q) ≡ directory_of (get m q)) → (d most : ℕ) (dir : List ℕ) → Climbs d m dir → d ≤ most → is_among file (dir ∷ ancestors_within most m dir) ≡ false → Climbs d n dir
climb_clear m n file h zero most dir c l a = c
climb_clear m n file h (suc d) zero dir c l a = absurd (omega arith)
climb_clear m n file h (suc d) (suc most) dir c l a =
    let off = or_parts (pointwise nat_eq dir file) (is_among file (ancestors_within (suc most) m dir)) a in
    let other : dir ≢ file = λ e. (let q : true ≡ false = sym ((bytes_decides dir file).1 e) ∙ off.0 in absurd (cc q)) in
    let rest : is_among file (c.0 ∷ ancestors_within most m c.0) ≡ false = sym (ap (λ o. is_among file (option_map_or (λ dir. dir ∷ ancestors_within most m dir) o [])) c.1) ∙ off.1 in
    (c.0, h dir other ∙ c.1, climb_clear m n file h d most c.0 c.2 (omega arith) rest)

some_file : (m : NodeMap) (file : List ℕ) → IsSome (get m file) → 0 < len m
some_file m file h = by (len m) refl
  where
    by : (k : ℕ) → len m ≡ k → 0 < k
    by zero e =
        let q : is_some (get m file) ≡ false = ap (λ (m : NodeMap). is_some (get m file)) (empty_of_len m e) ∙ ap is_some (get-empty (slice_cmp nat_cmp) file) in
        let r : true ≡ false = sym h ∙ q in absurd (cc r)
    by (suc k) e = omega arith

-- a chain is shorter than there are nodes
pub few_steps : (k : ℕ) (m : NodeMap) (file : List ℕ) → IsSome (get m []) → IsTop m → Climbs k m file → k < len m
few_steps zero m file root top c = some_file m [] root
few_steps (suc k) m file root top c =
    let rest : NodeMap = remove m file in
    let is_root : [] ≢ file = λ e. not_root m top file c.0 c.1 (sym e) in
    let at_root : get rest [] ≡ get m [] = remove_other m file [] is_root in
    let less : len rest ≡ len m - 1 = len-remove nat_list_cmp_total m file ∙ ap (λ b. cond b (len m - 1) (len m)) (there (get m file) c.0 c.1) in
    let near : List ℕ → Type 0 = λ q. (j : ℕ) × (j < suc k) × Climbs j m q in
    let step : (q dir : List ℕ) → near q → directory_of (get m q) ≡ Some dir → (directory_of (get rest q) ≡ Some dir) × near dir = λ q dir n e. (
      ap directory_of (remove_other m file q (λ s. let z = one_depth m top n.0 (suc k) file (subst (Climbs n.0 m) s n.2) c in let l = n.1 in omega arith)) ∙ e,
      (let up = above m top n.0 q dir n.2 e in let l = up.1 in let j = n.1 in (up.0, omega arith, up.2)),
    ) in
    let chain : Climbs k rest c.0 = climb_kept m rest near step k c.0 (k, omega arith, c.2) c.2 in
    let short : k < len rest = few_steps k rest c.0 (ap is_some at_root ∙ root) (ap directory_of at_root ∙ top) chain in
    omega arith

pub climbs : (k : ℕ) (m : NodeMap) (file : List ℕ) → IsTrue (is_among [] (file ∷ ancestors_within k m file)) → (d : ℕ) × Climbs d m file
climbs zero m file a = elim (or_cases (pointwise nat_eq file []) false a) as (λ _. (d : ℕ) × Climbs d m file) [
  | inl e ↦ (0, (bytes_decides file []).0 e)
  | inr e ↦ absurd (cc e)
]
climbs (suc k) m file a = elim (or_cases (pointwise nat_eq file []) (is_among [] (ancestors_within (suc k) m file)) a) as (λ _. (d : ℕ) × Climbs d m file) [
  | inl e ↦ (0, (bytes_decides file []).0 e)
  | inr e ↦ by (directory_of (get m file)) refl e (λ dir z. climbs k m dir z)
]
  where
    by : (o : Option (List ℕ)) → directory_of (get m file) ≡ o → is_among [] (option_map_or (λ dir. dir ∷ ancestors_within k m dir) o []) ≡ true → ((dir : List ℕ) → IsTrue (is_among [] (dir ∷ ancestors_within k m dir)) → (d : ℕ) × Climbs d m dir) → (d : ℕ) × Climbs d m file
    by None p z more = absurd (cc z)
    by (Some dir) p z more = let c = more dir z in (suc c.0, (dir, p, c.1))

pub reaches : (d : ℕ) (m : NodeMap) (file : List ℕ) → Climbs d m file → ReachesRoot m file
reaches d m file c = (d, reached d file c)
  where
    reached : (d : ℕ) (file : List ℕ) → Climbs d m file → is_among [] (file ∷ ancestors_within d m file) ≡ true
    reached zero file c = or_left _ _ ((bytes_decides file []).1 c)
    reached (suc d) file c = or_right _ _ (ap (λ o. is_among [] (option_map_or (λ dir. dir ∷ ancestors_within d m dir) o [])) c.1 ∙ reached d c.0 c.2)
