-- What a map of nodes has after a change.
use Rattle.std.proofs.Common.{◌≡◌, ◌≢◌, ◌⊎◌, inl, inr, ℕ, List, refl, sym, ap, ◌∙◌, subst, Bool, true, false, cond, Option, Some, None, not}
use Rattle.std.proofs.lemmas.Bool.{false_from_ne_true}
use Rattle.std.specs.Option.{option_map}
use Rattle.std.specs.FinMap.{get, insert, remove, get-insert, get-remove, slice_cmp-IsAntisymmetric, nat_cmp-IsAntisymmetric}
use Rattle.std.specs.FinMap.Entries.{find-put, find-where_key}
use Rattle.std.specs.Ordering.{nat_cmp, eq_by_cmp}
use Rattle.std.specs.Cmp.{eq_by_cmp_equiv}
use Rattle.std.specs.Cmp.Lexicographic.{slice_cmp, nat_list_cmp_total}
use Rattle.fs_ident.proofs.Booleans.{equal_is}
use Rattle.fs_model.specs.declared.node.Node.{Node}
use Rattle.fs_model.specs.Namespace.{NodeMap, with_change, with_change_at}
use Rattle.fs_model.specs.Children.{Children, child_at, with_child, without_child}
use Rattle.fs_model.specs.Sound.{child_of}
use Rattle.fs_model.specs.Step.{with_link, without_link}

-- the test of keys
abbrev pub same : List ℕ → List ℕ → Bool
same x y = eq_by_cmp (slice_cmp nat_cmp) x y

pub same_is : (x y : List ℕ) → same x y ≡ true → x ≡ y
same_is x y e = slice_cmp-IsAntisymmetric nat_cmp-IsAntisymmetric x y (equal_is _ e)

pub same_self : (x : List ℕ) → same x x ≡ true
same_self x = (eq_by_cmp_equiv nat_list_cmp_total).refl x

pub same_other : (x y : List ℕ) → x ≢ y → same x y ≡ false
same_other x y h = false_from_ne_true _ (λ e. h (same_is x y e))

pub either : (x y : List ℕ) → (x ≡ y) ⊎ (x ≢ y)
either x y = by (same x y) refl
  where
    by : (b : Bool) → same x y ≡ b → (x ≡ y) ⊎ (x ≢ y)
    by true e = inl (same_is x y e)
    by false e = inr (λ p. let q : true ≡ false = sym (same_self x) ∙ ap (same x) p ∙ e in absurd (cc q))

pub insert_here : (m : NodeMap) (k : List ℕ) (v : Node) → get (insert m k v) k ≡ Some v
insert_here m k v = get-insert nat_list_cmp_total m k v k ∙ ap (λ b. cond b (Some v) (get m k)) (same_self k)

pub insert_other : (m : NodeMap) (k : List ℕ) (v : Node) (q : List ℕ) → q ≢ k → get (insert m k v) q ≡ get m q
insert_other m k v q h = get-insert nat_list_cmp_total m k v q ∙ ap (λ b. cond b (Some v) (get m q)) (same_other q k h)

pub remove_here : (m : NodeMap) (k : List ℕ) → get (remove m k) k ≡ None
remove_here m k = get-remove nat_list_cmp_total m k k ∙ ap (λ b. cond b None (get m k)) (same_self k)

pub remove_other : (m : NodeMap) (k q : List ℕ) → q ≢ k → get (remove m k) q ≡ get m q
remove_other m k q h = get-remove nat_list_cmp_total m k q ∙ ap (λ b. cond b None (get m q)) (same_other q k h)

pub with_change_here : (f : Node → Node) (m : NodeMap) (k : List ℕ) → get (with_change f m k) k ≡ option_map f (get m k)
with_change_here f m k = by (get m k) refl
  where
    by : (o : Option Node) → get m k ≡ o → get (with_change_at f m k o) k ≡ option_map f o
    by None e = e
    by (Some n) e = insert_here m k (f n)

pub with_change_other : (f : Node → Node) (m : NodeMap) (k q : List ℕ) → q ≢ k → get (with_change f m k) q ≡ get m q
with_change_other f m k q h = by (get m k)
  where
    by : (o : Option Node) → get (with_change_at f m k o) q ≡ get m q
    by None = refl
    by (Some n) = insert_other m k (f n) q h

-- a view that the change keeps
pub view_kept : {A : Type 0} (v : Option Node → A) (f : Node → Node) (m : NodeMap) (k : List ℕ) → ((n : Node) → v (Some (f n)) ≡ v (Some n)) → (q : List ℕ) → v (get (with_change f m k) q) ≡ v (get m q)
view_kept v f m k h q = by (either q k)
  where
    mapped : (o : Option Node) → v (option_map f o) ≡ v o
    mapped None = refl
    mapped (Some n) = h n

    by : (q ≡ k) ⊎ (q ≢ k) → v (get (with_change f m k) q) ≡ v (get m q)
    by (inl e) = subst (λ q. v (get (with_change f m k) q) ≡ v (get m q)) (sym e) (ap v (with_change_here f m k) ∙ mapped (get m k))
    by (inr e) = ap v (with_change_other f m k q e)

-- ## The children of one directory

pub with_here : (cs : Children) (name id : List ℕ) → child_at (with_child cs name id) name ≡ Some id
with_here cs name id = find-put (slice_cmp nat_cmp) nat_list_cmp_total name name id cs ∙ ap (λ b. cond b (Some id) (child_at cs name)) (same_self name)

pub with_other : (cs : Children) (name id other : List ℕ) → other ≢ name → child_at (with_child cs name id) other ≡ child_at cs other
with_other cs name id other h = find-put (slice_cmp nat_cmp) nat_list_cmp_total other name id cs ∙ ap (λ b. cond b (Some id) (child_at cs other)) (same_other other name h)

without : (cs : Children) (name other : List ℕ) → child_at (without_child cs name) other ≡ cond (not (same name other)) (child_at cs other) None
without cs name other = find-where_key (slice_cmp nat_cmp) (λ x. not (same name x)) other (λ x t. ap (λ x. not (same name x)) (sym (slice_cmp-IsAntisymmetric nat_cmp-IsAntisymmetric other x t))) cs

pub without_here : (cs : Children) (name : List ℕ) → child_at (without_child cs name) name ≡ None
without_here cs name = without cs name name ∙ ap (λ b. cond (not b) (child_at cs name) None) (same_self name)

pub without_other : (cs : Children) (name other : List ℕ) → other ≢ name → child_at (without_child cs name) other ≡ child_at cs other
without_other cs name other h = without cs name other ∙ ap (λ b. cond (not b) (child_at cs other) None) (same_other name other (λ e. h (sym e)))

-- ## The children of a space

-- not the same name in the same directory
abbrev pub Apart : List ℕ → List ℕ → List ℕ → List ℕ → Type 0
Apart dir name other_dir other_name = dir ≡ other_dir → name ≡ other_name → ⊥

pub with_link_here : (m : NodeMap) (dir name id : List ℕ) (d : Node) → get m dir ≡ Some d → child_of (get (with_change (with_link name id) m dir) dir) name ≡ Some id
with_link_here m dir name id d e = ap (λ o. child_of o name) (with_change_here (with_link name id) m dir) ∙ ap (λ o. child_of (option_map (with_link name id) o) name) e ∙ with_here d.children name id

pub with_link_other : (m : NodeMap) (dir name id q other : List ℕ) → Apart q other dir name → child_of (get (with_change (with_link name id) m dir) q) other ≡ child_of (get m q) other
with_link_other m dir name id q other h = by (either q dir)
  where
    at : other ≢ name → (o : Option Node) → child_of (option_map (with_link name id) o) other ≡ child_of o other
    at x None = refl
    at x (Some n) = with_other n.children name id other x

    by : (q ≡ dir) ⊎ (q ≢ dir) → child_of (get (with_change (with_link name id) m dir) q) other ≡ child_of (get m q) other
    by (inl e) = subst (λ q. child_of (get (with_change (with_link name id) m dir) q) other ≡ child_of (get m q) other) (sym e) (ap (λ o. child_of o other) (with_change_here (with_link name id) m dir) ∙ at (h e) (get m dir))
    by (inr e) = ap (λ o. child_of o other) (with_change_other (with_link name id) m dir q e)

pub without_link_here : (m : NodeMap) (dir name : List ℕ) → child_of (get (with_change (without_link name) m dir) dir) name ≡ None
without_link_here m dir name = ap (λ o. child_of o name) (with_change_here (without_link name) m dir) ∙ at (get m dir)
  where
    at : (o : Option Node) → child_of (option_map (without_link name) o) name ≡ None
    at None = refl
    at (Some n) = without_here n.children name

pub without_link_other : (m : NodeMap) (dir name q other : List ℕ) → Apart q other dir name → child_of (get (with_change (without_link name) m dir) q) other ≡ child_of (get m q) other
without_link_other m dir name q other h = by (either q dir)
  where
    at : other ≢ name → (o : Option Node) → child_of (option_map (without_link name) o) other ≡ child_of o other
    at x None = refl
    at x (Some n) = without_other n.children name other x

    by : (q ≡ dir) ⊎ (q ≢ dir) → child_of (get (with_change (without_link name) m dir) q) other ≡ child_of (get m q) other
    by (inl e) = subst (λ q. child_of (get (with_change (without_link name) m dir) q) other ≡ child_of (get m q) other) (sym e) (ap (λ o. child_of o other) (with_change_here (without_link name) m dir) ∙ at (h e) (get m dir))
    by (inr e) = ap (λ o. child_of o other) (with_change_other (without_link name) m dir q e)
