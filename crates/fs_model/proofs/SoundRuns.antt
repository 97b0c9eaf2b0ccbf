-- The laws of sound spaces.
use Rattle.std.proofs.Common.{◌≡◌, ◌≢◌, ◌⊎◌, inl, inr, ℕ, zero, suc, ◌<◌, List, [], ◌∷◌, refl, sym, ap, ◌∙◌, subst, true, false, not, ◌&&◌, nat_eq, length, get_or, arith, Option, Some, None, IfSome, IsTrue, AllPairs, is_some}
use Rattle.std.proofs.lemmas.Bool.{and_parts, or_parts, not-true, false_from_ne_true}
use Rattle.std.specs.Option.{option_map_or}
use Rattle.std.proofs.lemmas.Bool.Decides.{nat_tests}
use Rattle.std.specs.FinMap.{get, empty, get-empty, len}
use Rattle.std.specs.Ordering.{nat_cmp}
use Rattle.std.specs.Cmp.Lexicographic.{slice_cmp, pointwise, bytes_decides}
use Rattle.fs_ident.specs.declared.actor.Session.{Session}
use Rattle.fs_ident.specs.declared.kind.Kind.{Kind}
use Rattle.fs_ident.specs.declared.kind.Kind.TheVariants.{File, Dir}
use Rattle.fs_modes.specs.declared.modes.Modes.{Modes}
use Rattle.fs_modes.specs.Modes.{has_access, conflicts}
use Rattle.fs_model.specs.declared.node.Handle.{Handle}
use Rattle.fs_model.specs.declared.node.Node.{Node}
use Rattle.fs_model.specs.declared.op.Op.{Op}
use Rattle.fs_model.specs.declared.op.Op.TheVariants as op
use Rattle.fs_model.specs.Namespace.{NodeMap, IsInOrder, IsSpace, first_space, root_node}
use Rattle.fs_model.specs.Children.{child_at}
use Rattle.fs_model.specs.Handles.{any_conflicts, comes_before, is_before_all, handles_are_in_order}
use Rattle.fs_model.specs.Asking.{may_ask}
use Rattle.fs_model.specs.Ancestors.{directory_of, ancestors_within, ancestors, is_among}
use Rattle.fs_model.specs.Step.{Stepped, step, rename, rename_in, rename_to, rename_to_dir, rename_child}
use Rattle.fs_model.specs.Sound.{kind_of, parent_of, child_of, open_of, none_conflict, IsTree, IsSound, IsSoundNode, AreApart, AsksAccess, space_after, AllAskAccess, is_change}
use Rattle.fs_model.proofs.SoundMaps.{either, insert_here, insert_other}
use Rattle.fs_model.proofs.SoundChains.{nearer, enough, one_depth, few_steps, reaches}
use Rattle.fs_model.proofs.SoundHandles.{two_apart, conflicts_comm}
use Rattle.fs_model.proofs.SoundNodes.{fresh_sound, each_at}
use Rattle.fs_model.proofs.SoundTrees.{tops, root_there, depth, not_none}
use Rattle.fs_model.proofs.SoundOutcomes.{Asks, Outcome, outcome, stays, same_place, makes, opens, closes, sets, deletes, renames, reaps}
use Rattle.fs_model.proofs.SoundSteps.{outcome_sound}

-- ## Steps and runs

abbrev HasAccess : Modes → Type 0
HasAccess modes = has_access modes ≡ true

asked : (o : Op) → AsksAccess o → Asks HasAccess o
asked (op.OpenFile file h modes) a = a
asked (op.Lookup dir name) a = tt
asked (op.List dir) a = tt
asked (op.Kind file) a = tt
asked (op.Info file) a = tt
asked (op.Create dir name k id) a = tt
asked (op.Close file h) a = tt
asked (op.Set file h size stamp) a = tt
asked (op.Delete dir name) a = tt
asked (op.Rename sdir sname ddir dname) a = tt
asked (op.Reap file session) a = tt

-- what a caller may ask asks for an access where it opens
pub asks_access : (o : Op) → may_ask o ≡ true → AsksAccess o
asks_access (op.OpenFile file h modes) a = a
asks_access (op.Lookup dir name) a = tt
asks_access (op.List dir) a = tt
asks_access (op.Kind file) a = tt
asks_access (op.Info file) a = tt
asks_access (op.Create dir name k id) a = tt
asks_access (op.Close file h) a = tt
asks_access (op.Set file h size stamp) a = tt
asks_access (op.Delete dir name) a = tt
asks_access (op.Rename sdir sname ddir dname) a = tt
asks_access (op.Reap file session) a = tt

pub step_sound : (m : NodeMap) (by : Session) (o : Op) → IsSound m → AsksAccess o → IsSound (step m by o).nodes
step_sound m by o s a = outcome_sound m by (step m by o) (outcome HasAccess m by o (asked o a)) s

pub runs_sound : (m : NodeMap) (os : List (Session × Op)) → IsSound m → AllAskAccess os → IsSound (space_after m os)
runs_sound m [] s a = s
runs_sound m (o ∷ os) s a = runs_sound (step m o.0 o.1).nodes os (step_sound m o.0 o.1 s a.0) a.1

-- ## The first space

first_other : (q : List ℕ) → q ≢ [] → get first_space q ≡ None
first_other q other = insert_other empty [] root_node q other ∙ get-empty (slice_cmp nat_cmp) q

first_root : get first_space [] ≡ Some root_node
first_root = insert_here empty [] root_node

-- at the root, and at every other file
first_both : (P : Option Node → Type 0) → P (Some root_node) → P None → (q : List ℕ) → P (get first_space q)
first_both P at off q = elim (either q []) as (λ _. P (get first_space q)) [
  | inl e ↦ subst P (sym (ap (get first_space) e ∙ first_root)) at
  | inr e ↦ subst P (sym (first_other q e)) off
]

first_tree : IsTree first_space
first_tree = record {
  root = ap kind_of first_root;
  unplaced = ap parent_of first_root;
  placed = λ q h other. absurd (not_there q h other);
  in_directories = λ q d c p. absurd (not_none {A = List ℕ × List ℕ} (d, c) (parent_of (get first_space q)) p (unplaced q));
  rooted = λ q h. elim (either q []) as (λ _. (k : ℕ) × IsTrue (is_among [] (q ∷ ancestors_within k first_space q))) [ inl e ↦ reaches 0 first_space q e | inr e ↦ absurd (not_there q h e) ];
  agreeing = λ d c q. ((λ h. absurd (not_none q (child_of (get first_space d) c) h (barren c d))), (λ p. absurd (not_none {A = List ℕ × List ℕ} (d, c) (parent_of (get first_space q)) p (unplaced q))));
}
  where
    not_there : (q : List ℕ) → is_some (get first_space q) ≡ true → q ≢ [] → ⊥
    not_there q h other = let z : true ≡ false = sym h ∙ ap is_some (first_other q other) in cc z

    unplaced : (q : List ℕ) → parent_of (get first_space q) ≡ None
    unplaced q = first_both (λ o. parent_of o ≡ None) refl refl q

    barren : (c q : List ℕ) → child_of (get first_space q) c ≡ None
    barren c q = first_both (λ o. child_of o c ≡ None) refl refl q

pub first_sound : IsSound first_space
first_sound = record { tree = first_tree; nodes = first_both (λ o. IfSome o IsSoundNode) (fresh_sound Dir None) tt }

-- ## Ancestors

-- a file that is not there has none
no_ancestors : (m : NodeMap) (fuel : ℕ) (file : List ℕ) → get m file ≡ None → ancestors_within fuel m file ≡ []
no_ancestors m zero file e = refl
no_ancestors m (suc fuel) file e = ap (λ o. option_map_or (λ dir. dir ∷ ancestors_within fuel m dir) (directory_of o) []) e

none_or_some : {A : Type 0} (o : Option A) → (o ≡ None) ⊎ (is_some o ≡ true)
none_or_some None = inl refl
none_or_some (Some x) = inr refl

pub own_ancestor : (m : NodeMap) (file : List ℕ) → IsSound m → is_among file (ancestors m file) ≡ false
own_ancestor m file s = elim (none_or_some (get m file)) as (λ _. is_among file (ancestors m file) ≡ false) [
  | inl e ↦ ap (is_among file) (no_ancestors m (len m) file e)
  | inr h ↦ false_from_ne_true _ (λ a. (
      let d = depth m s.tree file h in
      let n = nearer m (tops m s.tree) (len m) d.0 file file d.1 a in
      let e = one_depth m (tops m s.tree) n.0 d.0 file n.2 d.1 in
      let l = n.1 in
      omega arith))
]

pub all_listed : (m : NodeMap) (file other : List ℕ) (k : ℕ) → IsSound m → IsTrue (is_among other (ancestors_within k m file)) → IsTrue (is_among other (ancestors m file))
all_listed m file other k s a = elim (none_or_some (get m file)) as (λ _. is_among other (ancestors m file) ≡ true) [
  | inl e ↦ (let z : false ≡ true = sym (ap (is_among other) (no_ancestors m k file e)) ∙ a in absurd (cc z))
  | inr h ↦ (
      let d = depth m s.tree file h in
      let few = few_steps d.0 m file (root_there m s.tree) (tops m s.tree) d.1 in
      enough m (tops m s.tree) k d.0 (len m) file other d.1 (omega arith) a)
]

-- ## Handles

before_apart : (x y : Handle) → comes_before x y ≡ true → x.session.0 ≡ y.session.0 → x.h ≡ y.h → ⊥
before_apart x y e p q = absurd (grind (arith, nat_tests))

first_apart : (x : Handle) (xs : List Handle) (j : ℕ) (d : Handle) → j < length xs → is_before_all x xs ≡ true → any_conflicts xs x.modes ≡ false → AreApart x (get_or xs j d)
first_apart x [] j d l b c = absurd (omega arith)
first_apart x (y ∷ ys) zero d l b c = record {
  numbered = before_apart x y (and_parts _ _ b).0;
  sharing = conflicts_comm x.modes y.modes ∙ (or_parts _ _ c).0;
}
first_apart x (y ∷ ys) (suc j) d l b c = first_apart x ys j d (omega arith) (and_parts (comes_before x y) (is_before_all x ys) b).1 (or_parts (conflicts y.modes x.modes) (any_conflicts ys x.modes) c).1

pairs_apart : (xs : List Handle) → handles_are_in_order xs ≡ true → none_conflict xs ≡ true → AllPairs AreApart xs
pairs_apart [] o c i j d l k = absurd (omega arith)
pairs_apart (x ∷ xs) o c zero zero d l k = absurd (omega arith)
pairs_apart (x ∷ xs) o c (suc i) zero d l k = absurd (omega arith)
pairs_apart (x ∷ xs) o c zero (suc j) d l k = first_apart x xs j d (omega arith) (and_parts (is_before_all x xs) (handles_are_in_order xs) o).0 (not-true _ (and_parts (not (any_conflicts xs x.modes)) (none_conflict xs) c).0)
pairs_apart (x ∷ xs) o c (suc i) (suc j) d l k = pairs_apart xs (and_parts (is_before_all x xs) (handles_are_in_order xs) o).1 (and_parts (not (any_conflicts xs x.modes)) (none_conflict xs) c).1 i j d (omega arith) (omega arith)

pub handles_apart : (m : NodeMap) (file : List ℕ) → IsSound m → IfSome (get m file) (λ n. AllPairs AreApart n.handles)
handles_apart m file s = by (get m file) refl
  where
    by : (o : Option Node) → get m file ≡ o → IfSome o (λ n. AllPairs AreApart n.handles)
    by None e = tt
    by (Some n) e = let x = each_at IsSoundNode m file n s.nodes e in pairs_apart n.handles x.in_order.handles x.sharing

pub numbers_apart : (m : NodeMap) (file : List ℕ) (x y : Session × ℕ) (a b : Modes) → IsSound m → x ≢ y → open_of (get m file) x ≡ Some a → open_of (get m file) y ≡ Some b → conflicts a b ≡ false
numbers_apart m file x y a b s other p q = by (get m file) refl p q
  where
    by : (o : Option Node) → get m file ≡ o → open_of o x ≡ Some a → open_of o y ≡ Some b → conflicts a b ≡ false
    by None e p q = absurd (cc p)
    by (Some n) e p q = two_apart n.handles x.0 y.0 x.1 y.1 a b (each_at IsSoundNode m file n s.nodes e).sharing p q (λ u v. other (λ i. (record { 0 = u i }, v i)))

-- ## What a step leaves as it is

outcome_reads : (m : NodeMap) (by : Session) (t : Stepped) → Outcome (λ _. Unit {0}) m by t → is_change t.reply ≡ false → t.nodes ≡ m
outcome_reads m by t (stays r q) e = refl
outcome_reads m by t same_place e = refl
outcome_reads m by t (makes dir name kind id d p k u a) e = absurd (cc e)
outcome_reads m by t (opens file h modes n a p u f) e = absurd (cc e)
outcome_reads m by t (closes file h) e = absurd (cc e)
outcome_reads m by t (sets file size stamp) e = absurd (cc e)
outcome_reads m by t (deletes dir name file d p c h) e = absurd (cc e)
outcome_reads m by t (renames file sdir sname ddir dname a d p c f k u clear) e = absurd (cc e)
outcome_reads m by t (reaps file session) e = absurd (cc e)

nothing_asked : (o : Op) → Asks (λ _. Unit {0}) o
nothing_asked (op.OpenFile file h modes) = tt
nothing_asked (op.Lookup dir name) = tt
nothing_asked (op.List dir) = tt
nothing_asked (op.Kind file) = tt
nothing_asked (op.Info file) = tt
nothing_asked (op.Create dir name k id) = tt
nothing_asked (op.Close file h) = tt
nothing_asked (op.Set file h size stamp) = tt
nothing_asked (op.Delete dir name) = tt
nothing_asked (op.Rename sdir sname ddir dname) = tt
nothing_asked (op.Reap file session) = tt

pub step_reads : (m : NodeMap) (by : Session) (o : Op) → is_change (step m by o).reply ≡ false → (step m by o).nodes ≡ m
step_reads m by o e = outcome_reads m by (step m by o) (outcome (λ _. Unit {0}) m by o (nothing_asked o)) e

pub sound_space : (m : NodeMap) → IsSound m → IsSpace m
sound_space m s file = by (get m file) (s.nodes file)
  where
    by : (o : Option Node) → IfSome o IsSoundNode → IfSome o IsInOrder
    by None x = tt
    by (Some n) x = x.in_order

module _ (m : NodeMap) (dir name : List ℕ) where
  here : (pointwise nat_eq dir dir && pointwise nat_eq name name) ≡ true
  here = ap (λ b. b && pointwise nat_eq name name) ((bytes_decides dir dir).1 refl) ∙ (bytes_decides name name).1 refl

  same_child : (d : Node) (o : Option (List ℕ)) → (rename_child m dir name d dir name o).nodes ≡ m
  same_child d None = refl
  same_child d (Some file) = rw here

  same_to_dir : (k : Kind) (s d : Node) → (rename_to_dir k m s dir name d dir name).nodes ≡ m
  same_to_dir File s d = refl
  same_to_dir Dir s d = same_child d (child_at s.children name)

  same_to : (s : Node) (o : Option Node) → (rename_to m s dir name o dir name).nodes ≡ m
  same_to s None = refl
  same_to s (Some d) = same_to_dir d.kind s d

  same_in : (k : Kind) (s : Node) → (rename_in k m s dir name dir name).nodes ≡ m
  same_in File s = refl
  same_in Dir s = same_to s (get m dir)

  pub same_rename : (o : Option Node) → (rename o m dir name dir name).nodes ≡ m
  same_rename None = refl
  same_rename (Some s) = same_in s.kind s
