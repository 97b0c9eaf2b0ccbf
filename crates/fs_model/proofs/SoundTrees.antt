-- A tree stays a tree, by what a change does to kinds, places and children.
use Rattle.std.proofs.Common.{◌≡◌, ◌≢◌, ◌⊎◌, inl, inr, ℕ, zero, suc, ◌<◌, List, [], refl, sym, ap, ◌∙◌, true, false, arith, Option, Some, None, IsSome, is_some}
use Rattle.std.specs.Option.{option_map}
use Rattle.std.specs.FinMap.{get, len}
use Rattle.fs_ident.specs.declared.kind.Kind.TheVariants.{Dir}
use Rattle.fs_model.specs.declared.node.Node.{Node}
use Rattle.fs_model.specs.Namespace.{NodeMap}
use Rattle.fs_model.specs.Ancestors.{directory_of, is_on_chain}
use Rattle.fs_model.specs.Sound.{kind_of, parent_of, child_of, IsTree, ReachesRoot}
use Rattle.fs_model.proofs.SoundMaps.{either, Apart}
use Rattle.fs_model.proofs.SoundChains.{Climbs, IsTop, climbs, reaches, climb_kept, climb_clear, few_steps}

-- ## One node

pub is_there : (o : Option Node) → is_some (kind_of o) ≡ is_some o
is_there None = refl
is_there (Some n) = refl

-- two nodes of one kind, or none, are there or not together
pub there_as : (o p : Option Node) → kind_of o ≡ kind_of p → is_some o ≡ is_some p
there_as o p e = sym (is_there o) ∙ ap is_some e ∙ is_there p

by_place : (o : Option Node) → directory_of o ≡ option_map (λ p. p.0) (parent_of o)
by_place None = refl
by_place (Some n) = refl

dir_as : (o p : Option Node) → parent_of o ≡ parent_of p → directory_of o ≡ directory_of p
dir_as o p e = by_place o ∙ ap (option_map (λ p. p.0)) e ∙ sym (by_place p)

dir_at : (o : Option Node) (dir name : List ℕ) → parent_of o ≡ Some (dir, name) → directory_of o ≡ Some dir
dir_at o dir name e = by_place o ∙ ap (option_map (λ p. p.0)) e

place_at : (o : Option Node) (dir : List ℕ) → directory_of o ≡ Some dir → (name : List ℕ) × (parent_of o ≡ Some (dir, name))
place_at o dir e = by (parent_of o) (sym (by_place o) ∙ e)
  where
    by : (p : Option (List ℕ × List ℕ)) → option_map (λ p. p.0) p ≡ Some dir → (name : List ℕ) × (p ≡ Some (dir, name))
    by None e = absurd (cc e)
    by (Some p) e = let q : p.0 ≡ dir = cc e in (p.1, ap (λ dir. Some (dir, p.1)) q)

pub placed_there : (o : Option Node) (dir name : List ℕ) → parent_of o ≡ Some (dir, name) → is_some o ≡ true
placed_there None dir name e = absurd (cc e)
placed_there (Some n) dir name e = refl

pub same_some : {A : Type 0} (a b : A) → Some a ≡ Some b → a ≡ b
same_some a b e = cc e

same_place : (a b c d : List ℕ) → ◌≡◌ {A = Option (List ℕ × List ℕ)} (Some (a, b)) (Some (c, d)) → (a ≡ c) × (b ≡ d)
same_place a b c d e = let q = same_some {A = List ℕ × List ℕ} (a, b) (c, d) e in (ap (λ p. p.0) q, ap (λ p. p.1) q)

-- the same name in the same directory, or not
at_or_apart : (dir name other_dir other_name : List ℕ) → ((dir ≡ other_dir) × (name ≡ other_name)) ⊎ Apart dir name other_dir other_name
at_or_apart dir name other_dir other_name = by (either dir other_dir) (either name other_name)
  where
    by : (dir ≡ other_dir) ⊎ (dir ≢ other_dir) → (name ≡ other_name) ⊎ (name ≢ other_name) → ((dir ≡ other_dir) × (name ≡ other_name)) ⊎ Apart dir name other_dir other_name
    by (inl p) (inl q) = inl (p, q)
    by (inl p) (inr q) = inr (λ a b. q b)
    by (inr p) z = inr (λ a b. p a)

pub not_none : {A : Type 0} (a : A) (o : Option A) → o ≡ Some a → o ≡ None → ⊥
not_none a o p q = let e : Some a ≡ None = sym p ∙ q in cc e

-- ## The tree before

module _ (m : NodeMap) (tree : IsTree m) where
  pub tops : IsTop m
  tops = by_place (get m []) ∙ ap (option_map (λ p. p.0)) tree.unplaced

  pub root_there : IsSome (get m [])
  root_there = sym (is_there (get m [])) ∙ ap is_some tree.root

  pub depth : (file : List ℕ) → IsSome (get m file) → (d : ℕ) × Climbs d m file
  depth file h = let r = tree.rooted file h in climbs r.0 m file r.1

  pub placed_low : (file dir name : List ℕ) → parent_of (get m file) ≡ Some (dir, name) → file ≢ []
  placed_low file dir name e r = not_none {A = List ℕ × List ℕ} (dir, name) (parent_of (get m file)) e (ap (λ q. parent_of (get m q)) r ∙ tree.unplaced)

-- ## Nothing of the tree changes

pub record SameShape (m n : NodeMap) : Type 0 where
  pub kinds : (q : List ℕ) → kind_of (get n q) ≡ kind_of (get m q)
  pub places : (q : List ℕ) → parent_of (get n q) ≡ parent_of (get m q)
  pub children : (q name : List ℕ) → child_of (get n q) name ≡ child_of (get m q) name

pub same_tree : (m n : NodeMap) → SameShape m n → IsTree m → IsTree n
same_tree m n s tree = record {
  root = s.kinds [] ∙ tree.root;
  unplaced = s.places [] ∙ tree.unplaced;
  placed = λ file h other. ap is_some (s.places file) ∙ tree.placed file (was file h) other;
  in_directories = λ file dir name e. s.kinds dir ∙ tree.in_directories file dir name (sym (s.places file) ∙ e);
  rooted = λ file h. (
      let d = depth m tree file (was file h) in
      reaches d.0 n file (climb_kept m n (λ _. Unit {0}) (λ q dir _ e. (dir_as _ _ (s.places q) ∙ e, tt)) d.0 file tt d.1));
  agreeing = λ dir name file. (
    (λ e. s.places file ∙ (tree.agreeing dir name file).0 (sym (s.children dir name) ∙ e)),
    (λ e. s.children dir name ∙ (tree.agreeing dir name file).1 (sym (s.places file) ∙ e)),
  );
}
  where
    was : (file : List ℕ) → IsSome (get n file) → IsSome (get m file)
    was file h = there_as (get m file) (get n file) (sym (s.kinds file)) ∙ h

-- ## One more file

pub record Makes (m n : NodeMap) (dir name id : List ℕ) : Type 0 where
  pub in_dir : kind_of (get m dir) ≡ Some Dir
  pub unused : child_of (get m dir) name ≡ None
  pub absent : get m id ≡ None
  pub kinds : (q : List ℕ) → q ≢ id → kind_of (get n q) ≡ kind_of (get m q)
  pub place : parent_of (get n id) ≡ Some (dir, name)
  pub places : (q : List ℕ) → q ≢ id → parent_of (get n q) ≡ parent_of (get m q)
  pub child : child_of (get n dir) name ≡ Some id
  pub children : (q other : List ℕ) → Apart q other dir name → child_of (get n q) other ≡ child_of (get m q) other

pub made_tree : (m n : NodeMap) (dir name id : List ℕ) → Makes m n dir name id → IsTree m → IsTree n
made_tree m n dir name id s tree = record {
  root = old_dir [] tree.root;
  unplaced = s.places [] (old [] (root_there m tree)) ∙ tree.unplaced;
  placed = placed;
  in_directories = in_directories;
  rooted = rooted;
  agreeing = λ d c file. (down d c file, up d c file);
}
  where
    old : (q : List ℕ) → IsSome (get m q) → q ≢ id
    old q h e = let z : true ≡ false = sym h ∙ ap (λ q. is_some (get m q)) e ∙ ap is_some s.absent in cc z

    old_dir : (q : List ℕ) → kind_of (get m q) ≡ Some Dir → kind_of (get n q) ≡ Some Dir
    old_dir q e = s.kinds q (old q (sym (is_there (get m q)) ∙ ap is_some e)) ∙ e

    was : (file : List ℕ) → file ≢ id → IsSome (get n file) → IsSome (get m file)
    was file other h = there_as (get m file) (get n file) (sym (s.kinds file other)) ∙ h

    placed : (file : List ℕ) → IsSome (get n file) → file ≢ [] → IsSome (parent_of (get n file))
    placed file h low = elim (either file id) as (λ _. IsSome (parent_of (get n file))) [
      | inl e ↦ ap (λ q. is_some (parent_of (get n q))) e ∙ ap is_some s.place
      | inr e ↦ ap is_some (s.places file e) ∙ tree.placed file (was file e h) low
    ]

    in_directories : (file d c : List ℕ) → parent_of (get n file) ≡ Some (d, c) → kind_of (get n d) ≡ Some Dir
    in_directories file d c p = elim (either file id) as (λ _. kind_of (get n d) ≡ Some Dir) [
      | inl e ↦ (let q = same_place dir name d c (sym s.place ∙ ap (λ q. parent_of (get n q)) (sym e) ∙ p) in ap (λ q. kind_of (get n q)) (sym q.0) ∙ old_dir dir s.in_dir)
      | inr e ↦ old_dir d (tree.in_directories file d c (sym (s.places file e) ∙ p))
    ]

    chain : (file : List ℕ) → IsSome (get m file) → (d : ℕ) × Climbs d n file
    chain file h =
        let d = depth m tree file h in
        (d.0, climb_kept m n (λ _. Unit {0}) (λ q up _ e. (dir_as _ _ (s.places q (old q (placed_there (get m q) up (place_at (get m q) up e).0 (place_at (get m q) up e).1))) ∙ e, tt)) d.0 file tt d.1)

    rooted : (file : List ℕ) → IsSome (get n file) → ReachesRoot n file
    rooted file h = elim (either file id) as (λ _. ReachesRoot n file) [
      | inl e ↦ (let c = chain dir (sym (is_there (get m dir)) ∙ ap is_some s.in_dir) in reaches (suc c.0) n file (dir, dir_at (get n file) dir name (ap (λ q. parent_of (get n q)) e ∙ s.place), c.1))
      | inr e ↦ (let c = chain file (was file e h) in reaches c.0 n file c.1)
    ]

    down : (d c file : List ℕ) → child_of (get n d) c ≡ Some file → parent_of (get n file) ≡ Some (d, c)
    down d c file h = elim (at_or_apart d c dir name) as (λ _. parent_of (get n file) ≡ Some (d, c)) [
      | inl e ↦ (
          let same : id ≡ file = same_some id file (sym s.child ∙ ap (λ q. child_of (get n q) name) (sym e.0) ∙ ap (child_of (get n d)) (sym e.1) ∙ h) in
          ap (λ q. parent_of (get n q)) (sym same) ∙ s.place ∙ ap (λ q. Some (q, name)) (sym e.0) ∙ ap (λ q. Some (d, q)) (sym e.1))
      | inr e ↦ (
          let p = (tree.agreeing d c file).0 (sym (s.children d c e) ∙ h) in
          s.places file (old file (placed_there (get m file) d c p)) ∙ p)
    ]

    up : (d c file : List ℕ) → parent_of (get n file) ≡ Some (d, c) → child_of (get n d) c ≡ Some file
    up d c file p = elim (either file id) as (λ _. child_of (get n d) c ≡ Some file) [
      | inl e ↦ (
          let q = same_place dir name d c (sym s.place ∙ ap (λ q. parent_of (get n q)) (sym e) ∙ p) in
          ap (λ q. child_of (get n q) c) (sym q.0) ∙ ap (child_of (get n dir)) (sym q.1) ∙ s.child ∙ ap Some (sym e))
      | inr e ↦ (
          let h = (tree.agreeing d c file).1 (sym (s.places file e) ∙ p) in
          s.children d c (λ a b. not_none file (child_of (get m d) c) h (ap (λ q. child_of (get m q) c) a ∙ ap (child_of (get m dir)) b ∙ s.unused)) ∙ h)
    ]

-- ## One file less

pub record Deletes (m n : NodeMap) (dir name file : List ℕ) : Type 0 where
  pub was : child_of (get m dir) name ≡ Some file
  pub empty : (c : List ℕ) → child_of (get m file) c ≡ None
  pub gone : get n file ≡ None
  pub kinds : (q : List ℕ) → q ≢ file → kind_of (get n q) ≡ kind_of (get m q)
  pub places : (q : List ℕ) → q ≢ file → parent_of (get n q) ≡ parent_of (get m q)
  pub left : child_of (get n dir) name ≡ None
  pub children : (q other : List ℕ) → Apart q other dir name → child_of (get n q) other ≡ child_of (get m q) other

pub deleted_tree : (m n : NodeMap) (dir name file : List ℕ) → Deletes m n dir name file → IsTree m → IsTree n
deleted_tree m n dir name file s tree = record {
  root = s.kinds [] low ∙ tree.root;
  unplaced = s.places [] low ∙ tree.unplaced;
  placed = λ q h other. ap is_some (s.places q (kept q h)) ∙ tree.placed q (was q h) other;
  in_directories = λ q d c p. (let old = sym (s.places q (kept q (placed_there (get n q) d c p))) ∙ p in s.kinds d (full q d c old) ∙ tree.in_directories q d c old);
  rooted = λ q h. (
      let d = depth m tree q (was q h) in
      reaches d.0 n q (climb_kept m n (λ q. q ≢ file) (λ q up k e. (dir_as _ _ (s.places q k) ∙ e, (let p = place_at (get m q) up e in full q up p.0 p.1))) d.0 q (kept q h) d.1));
  agreeing = λ d c q. (down d c q, up d c q);
}
  where
    place : parent_of (get m file) ≡ Some (dir, name)
    place = (tree.agreeing dir name file).0 s.was

    low : [] ≢ file
    low e = placed_low m tree file dir name place (sym e)

    kept : (q : List ℕ) → IsSome (get n q) → q ≢ file
    kept q h e = let z : true ≡ false = sym h ∙ ap (λ q. is_some (get n q)) e ∙ ap is_some s.gone in cc z

    was : (q : List ℕ) → IsSome (get n q) → IsSome (get m q)
    was q h = there_as (get m q) (get n q) (sym (s.kinds q (kept q h))) ∙ h

    -- a directory with a file in it is another one
    full : (q d c : List ℕ) → parent_of (get m q) ≡ Some (d, c) → d ≢ file
    full q d c p e = not_none q (child_of (get m d) c) ((tree.agreeing d c q).1 p) (ap (λ q. child_of (get m q) c) e ∙ s.empty c)

    down : (d c q : List ℕ) → child_of (get n d) c ≡ Some q → parent_of (get n q) ≡ Some (d, c)
    down d c q h = elim (at_or_apart d c dir name) as (λ _. parent_of (get n q) ≡ Some (d, c)) [
      | inl e ↦ absurd (not_none q (child_of (get n d) c) h (ap (λ q. child_of (get n q) c) e.0 ∙ ap (child_of (get n dir)) e.1 ∙ s.left))
      | inr e ↦ (
          let p = (tree.agreeing d c q).0 (sym (s.children d c e) ∙ h) in
          s.places q (λ z. (let w = same_place d c dir name (sym p ∙ ap (λ q. parent_of (get m q)) z ∙ place) in e w.0 w.1)) ∙ p)
    ]

    up : (d c q : List ℕ) → parent_of (get n q) ≡ Some (d, c) → child_of (get n d) c ≡ Some q
    up d c q p =
        let k : q ≢ file = kept q (placed_there (get n q) d c p) in
        let h = (tree.agreeing d c q).1 (sym (s.places q k) ∙ p) in
        s.children d c (λ a b. k (same_some q file (sym h ∙ ap (λ q. child_of (get m q) c) a ∙ ap (child_of (get m dir)) b ∙ s.was))) ∙ h

-- ## One file in another place

pub record Moves (m n : NodeMap) (file sdir sname ddir dname : List ℕ) : Type 0 where
  pub was : child_of (get m sdir) sname ≡ Some file
  pub in_dir : kind_of (get m ddir) ≡ Some Dir
  pub unused : child_of (get m ddir) dname ≡ None
  pub clear : is_on_chain m file ddir ≡ false
  pub kinds : (q : List ℕ) → kind_of (get n q) ≡ kind_of (get m q)
  pub place : parent_of (get n file) ≡ Some (ddir, dname)
  pub places : (q : List ℕ) → q ≢ file → parent_of (get n q) ≡ parent_of (get m q)
  pub child : child_of (get n ddir) dname ≡ Some file
  pub left : child_of (get n sdir) sname ≡ None
  pub children : (q other : List ℕ) → Apart q other ddir dname → Apart q other sdir sname → child_of (get n q) other ≡ child_of (get m q) other

pub moved_tree : (m n : NodeMap) (file sdir sname ddir dname : List ℕ) → Moves m n file sdir sname ddir dname → IsTree m → IsTree n
moved_tree m n file sdir sname ddir dname s tree = record {
  root = s.kinds [] ∙ tree.root;
  unplaced = s.places [] low ∙ tree.unplaced;
  placed = placed;
  in_directories = in_directories;
  rooted = λ q h. (let d = depth m tree q (there_as (get m q) (get n q) (sym (s.kinds q)) ∙ h) in let e = chain d.0 q d.1 in reaches e.0 n q e.1);
  agreeing = λ d c q. (down d c q, up d c q);
}
  where
    place : parent_of (get m file) ≡ Some (sdir, sname)
    place = (tree.agreeing sdir sname file).0 s.was

    low : [] ≢ file
    low e = placed_low m tree file sdir sname place (sym e)

    placed : (q : List ℕ) → IsSome (get n q) → q ≢ [] → IsSome (parent_of (get n q))
    placed q h other = elim (either q file) as (λ _. IsSome (parent_of (get n q))) [
      | inl e ↦ ap (λ q. is_some (parent_of (get n q))) e ∙ ap is_some s.place
      | inr e ↦ ap is_some (s.places q e) ∙ tree.placed q (there_as (get m q) (get n q) (sym (s.kinds q)) ∙ h) other
    ]

    in_directories : (q d c : List ℕ) → parent_of (get n q) ≡ Some (d, c) → kind_of (get n d) ≡ Some Dir
    in_directories q d c p = elim (either q file) as (λ _. kind_of (get n d) ≡ Some Dir) [
      | inl e ↦ (let w = same_place ddir dname d c (sym s.place ∙ ap (λ q. parent_of (get n q)) (sym e) ∙ p) in ap (λ q. kind_of (get n q)) (sym w.0) ∙ s.kinds ddir ∙ s.in_dir)
      | inr e ↦ s.kinds d ∙ tree.in_directories q d c (sym (s.places q e) ∙ p)
    ]

    to : (d : ℕ) × Climbs d n ddir
    to =
        let d = depth m tree ddir (sym (is_there (get m ddir)) ∙ ap is_some s.in_dir) in
        let few : d.0 < len m = few_steps d.0 m ddir (root_there m tree) (tops m tree) d.1 in
        (d.0, climb_clear m n file (λ q e. dir_as _ _ (s.places q e)) d.0 (len m) ddir d.1 (omega arith) s.clear)

    chain : (k : ℕ) (q : List ℕ) → Climbs k m q → (d : ℕ) × Climbs d n q
    chain zero q c = (0, c)
    chain (suc k) q c =
        let rest = chain k c.0 c.2 in
        elim (either q file) as (λ _. (d : ℕ) × Climbs d n q) [
          | inl e ↦ (suc to.0, (ddir, dir_at (get n q) ddir dname (ap (λ q. parent_of (get n q)) e ∙ s.place), to.1))
          | inr e ↦ (suc rest.0, (c.0, dir_as _ _ (s.places q e) ∙ c.1, rest.1))
        ]

    down : (d c q : List ℕ) → child_of (get n d) c ≡ Some q → parent_of (get n q) ≡ Some (d, c)
    down d c q h = elim (at_or_apart d c ddir dname) as (λ _. parent_of (get n q) ≡ Some (d, c)) [
      | inl e ↦ (
          let same : file ≡ q = same_some file q (sym s.child ∙ ap (λ q. child_of (get n q) dname) (sym e.0) ∙ ap (child_of (get n d)) (sym e.1) ∙ h) in
          ap (λ q. parent_of (get n q)) (sym same) ∙ s.place ∙ ap (λ q. Some (q, dname)) (sym e.0) ∙ ap (λ q. Some (d, q)) (sym e.1))
      | inr e ↦ elim (at_or_apart d c sdir sname) as (λ _. parent_of (get n q) ≡ Some (d, c)) [
        | inl f ↦ absurd (not_none q (child_of (get n d) c) h (ap (λ q. child_of (get n q) c) f.0 ∙ ap (child_of (get n sdir)) f.1 ∙ s.left))
        | inr f ↦ (
            let p = (tree.agreeing d c q).0 (sym (s.children d c e f) ∙ h) in
            s.places q (λ z. (let w = same_place d c sdir sname (sym p ∙ ap (λ q. parent_of (get m q)) z ∙ place) in f w.0 w.1)) ∙ p)
      ]
    ]

    up : (d c q : List ℕ) → parent_of (get n q) ≡ Some (d, c) → child_of (get n d) c ≡ Some q
    up d c q p = elim (either q file) as (λ _. child_of (get n d) c ≡ Some q) [
      | inl e ↦ (
          let w = same_place ddir dname d c (sym s.place ∙ ap (λ q. parent_of (get n q)) (sym e) ∙ p) in
          ap (λ q. child_of (get n q) c) (sym w.0) ∙ ap (child_of (get n ddir)) (sym w.1) ∙ s.child ∙ ap Some (sym e))
      | inr e ↦ (
          let h = (tree.agreeing d c q).1 (sym (s.places q e) ∙ p) in
          s.children d c
          (λ a b. not_none q (child_of (get m d) c) h (ap (λ q. child_of (get m q) c) a ∙ ap (child_of (get m ddir)) b ∙ s.unused))
          (λ a b. e (same_some q file (sym h ∙ ap (λ q. child_of (get m q) c) a ∙ ap (child_of (get m sdir)) b ∙ s.was)))
          ∙ h)
    ]
