-- A step leads from a sound space to a sound one.
use Rattle.std.proofs.Common.{◌≡◌, inl, inr, ℕ, List, [], ◌∷◌, refl, sym, ap, ◌∙◌, true, false, Option, Some, None, is_some}
use Rattle.std.specs.Option.{option_map}
use Rattle.std.specs.FinMap.{get, insert, remove}
use Rattle.fs_ident.specs.declared.actor.Session.{Session}
use Rattle.fs_ident.specs.declared.kind.Kind.{Kind}
use Rattle.fs_ident.specs.declared.kind.Kind.TheVariants.{Dir}
use Rattle.fs_modes.specs.Modes.{has_access}
use Rattle.fs_model.specs.declared.node.Node.{Node}
use Rattle.fs_model.specs.Namespace.{NodeMap, fresh_node, with_change}
use Rattle.fs_model.specs.Children.{child_at}
use Rattle.fs_model.specs.Handles.{handle_at, any_conflicts}
use Rattle.fs_model.specs.Ancestors.{is_on_chain}
use Rattle.fs_model.specs.Step.{Stepped, with_link, without_link, at_place, with_info, with_open, without_open, without_opens, with_new_node, with_moved_node, is_empty, is_childless}
use Rattle.fs_model.specs.Sound.{kind_of, parent_of, child_of, IsTree, IsSound, IsSoundNode}
use Rattle.fs_model.proofs.SoundMaps.{either, Apart, insert_here, insert_other, remove_here, remove_other, with_change_here, with_change_other, view_kept, with_link_here, with_link_other, without_link_here, without_link_other}
use Rattle.fs_model.proofs.SoundNodes.{fresh_sound, with_link_sound, without_link_sound, at_place_sound, with_info_sound, with_open_sound, without_open_sound, without_opens_sound, each_insert, each_remove, each_with_change}
use Rattle.fs_model.proofs.SoundTrees.{there_as, placed_there, not_none, same_some, SameShape, same_tree, Makes, made_tree, Deletes, deleted_tree, Moves, moved_tree}
use Rattle.fs_model.proofs.SoundOutcomes.{Outcome, stays, same_place, makes, opens, closes, sets, deletes, renames, reaps}

-- ## Handles and sizes alone

-- the change keeps the kind, the place and the children
pub record KeepsShape (f : Node → Node) : Type 0 where
  kind : (n : Node) → (f n).kind ≡ n.kind
  place : (n : Node) → (f n).parent ≡ n.parent
  children : (n : Node) → (f n).children ≡ n.children

shape : (f : Node → Node) (m : NodeMap) (k : List ℕ) → KeepsShape f → SameShape m (with_change f m k)
shape f m k s = record {
  kinds = view_kept kind_of f m k (λ n. ap Some (s.kind n));
  places = view_kept parent_of f m k s.place;
  children = λ q name. view_kept (λ o. child_of o name) f m k (λ n. ap (λ cs. child_at cs name) (s.children n)) q;
}

changed_sound : (f : Node → Node) (m : NodeMap) (k : List ℕ) → KeepsShape f → ((n : Node) → get m k ≡ Some n → IsSoundNode n → IsSoundNode (f n)) → IsSound m → IsSound (with_change f m k)
changed_sound f m k keeps node s = record { tree = same_tree m (with_change f m k) (shape f m k keeps) s.tree; nodes = each_with_change IsSoundNode f m k node s.nodes }

-- ## Create

makes_one : (m : NodeMap) (dir name : List ℕ) (kind : Kind) (id : List ℕ) (d : Node) → get m dir ≡ Some d → d.kind ≡ Dir → child_at d.children name ≡ None → get m id ≡ None → Makes m (with_new_node m dir name kind id) dir name id
makes_one m dir name kind id d e k u a = record {
  in_dir = ap kind_of e ∙ ap Some k;
  unused = ap (λ o. child_of o name) e ∙ u;
  absent = a;
  kinds = λ q other. view_kept kind_of (with_link name id) more dir (λ n. refl) q ∙ ap kind_of (insert_other m id fresh q other);
  place = view_kept parent_of (with_link name id) more dir (λ n. refl) id ∙ ap parent_of (insert_here m id fresh);
  places = λ q other. view_kept parent_of (with_link name id) more dir (λ n. refl) q ∙ ap parent_of (insert_other m id fresh q other);
  child = with_link_here more dir name id d (insert_other m id fresh dir (λ z. not_none d (get m dir) e (ap (get m) z ∙ a)) ∙ e);
  children = λ q other apart. with_link_other more dir name id q other apart ∙ before q other;
}
  where
    fresh : Node
    fresh = fresh_node kind (Some (dir, name))

    more : NodeMap
    more = insert m id fresh

    before : (q other : List ℕ) → child_of (get more q) other ≡ child_of (get m q) other
    before q other = elim (either q id) as (λ _. child_of (get more q) other ≡ child_of (get m q) other) [
      | inl z ↦ ap (λ o. child_of o other) (ap (get more) z ∙ insert_here m id fresh) ∙ sym (ap (λ o. child_of o other) (ap (get m) z ∙ a))
      | inr z ↦ ap (λ o. child_of o other) (insert_other m id fresh q z)
    ]

-- a node at one place is one node
pub one_node : (m : NodeMap) (k : List ℕ) (a b : Node) → get m k ≡ Some a → get m k ≡ Some b → a ≡ b
one_node m k a b p q = same_some a b (sym p ∙ q)

with_new_node_sound : (m : NodeMap) (dir name : List ℕ) (kind : Kind) (id : List ℕ) (d : Node) → get m dir ≡ Some d → d.kind ≡ Dir → child_at d.children name ≡ None → get m id ≡ None → IsSound m → IsSound (with_new_node m dir name kind id)
with_new_node_sound m dir name kind id d e k u a s = record {
  tree = made_tree m (with_new_node m dir name kind id) dir name id (makes_one m dir name kind id d e k u a) s.tree;
  nodes = each_with_change IsSoundNode (with_link name id) more dir (λ n h x. with_link_sound name id n (ap (λ (n : Node). n.kind) (one_node more dir n d h old) ∙ k) x) (each_insert IsSoundNode m id fresh (fresh_sound kind (Some (dir, name))) s.nodes);
}
  where
    fresh : Node
    fresh = fresh_node kind (Some (dir, name))

    more : NodeMap
    more = insert m id fresh

    old : get more dir ≡ Some d
    old = insert_other m id fresh dir (λ z. not_none d (get m dir) e (ap (get m) z ∙ a)) ∙ e

-- ## Delete

no_child : (o : Option Node) → is_childless o ≡ true → (name : List ℕ) → child_of o name ≡ None
no_child None h name = refl
no_child (Some n) h name = by n.children h
  where
    by : (cs : List (List ℕ × List ℕ)) → is_empty cs ≡ true → child_at cs name ≡ None
    by [] h = refl
    by (c ∷ cs) h = absurd (cc h)

deletes_one : (m : NodeMap) (dir name file : List ℕ) (d : Node) → get m dir ≡ Some d → child_at d.children name ≡ Some file → is_childless (get m file) ≡ true → Deletes m (remove (with_change (without_link name) m dir) file) dir name file
deletes_one m dir name file d e c h = record {
  was = ap (λ o. child_of o name) e ∙ c;
  empty = no_child (get m file) h;
  gone = remove_here less file;
  kinds = λ q other. ap kind_of (remove_other less file q other) ∙ view_kept kind_of (without_link name) m dir (λ n. refl) q;
  places = λ q other. ap parent_of (remove_other less file q other) ∙ view_kept parent_of (without_link name) m dir (λ n. refl) q;
  left = elim (either dir file) as (λ _. child_of (get rest dir) name ≡ None) [
    | inl z ↦ ap (λ o. child_of o name) (ap (get rest) z ∙ remove_here less file)
    | inr z ↦ ap (λ o. child_of o name) (remove_other less file dir z) ∙ without_link_here m dir name
  ];
  children = λ q other apart. elim (either q file) as (λ _. child_of (get rest q) other ≡ child_of (get m q) other) [
    | inl z ↦ ap (λ o. child_of o other) (ap (get rest) z ∙ remove_here less file) ∙ sym (ap (λ q. child_of (get m q) other) z ∙ no_child (get m file) h other)
    | inr z ↦ ap (λ o. child_of o other) (remove_other less file q z) ∙ without_link_other m dir name q other apart
  ];
}
  where
    less : NodeMap
    less = with_change (without_link name) m dir

    rest : NodeMap
    rest = remove less file

deleted_sound : (m : NodeMap) (dir name file : List ℕ) (d : Node) → get m dir ≡ Some d → child_at d.children name ≡ Some file → is_childless (get m file) ≡ true → IsSound m → IsSound (remove (with_change (without_link name) m dir) file)
deleted_sound m dir name file d e c h s = record {
  tree = deleted_tree m (remove (with_change (without_link name) m dir) file) dir name file (deletes_one m dir name file d e c h) s.tree;
  nodes = each_remove IsSoundNode (with_change (without_link name) m dir) file (each_with_change IsSoundNode (without_link name) m dir (λ n _ x. without_link_sound name n x) s.nodes);
}

-- ## Rename

placed_at : (o : Option Node) (dir name : List ℕ) → is_some o ≡ true → parent_of (option_map (at_place dir name) o) ≡ Some (dir, name)
placed_at None dir name h = absurd (cc h)
placed_at (Some n) dir name h = refl

module _ (m : NodeMap) (file sdir sname ddir dname : List ℕ) (s d : Node) (e : get m sdir ≡ Some s) (c : child_at s.children sname ≡ Some file) (f : get m ddir ≡ Some d) (k : d.kind ≡ Dir) (u : child_at d.children dname ≡ None) (clear : is_on_chain m file ddir ≡ false) where
  gained : NodeMap
  gained = with_change (with_link dname file) m ddir

  lost : NodeMap
  lost = with_change (without_link sname) gained sdir

  was : child_of (get m sdir) sname ≡ Some file
  was = ap (λ o. child_of o sname) e ∙ c

  unused : child_of (get m ddir) dname ≡ None
  unused = ap (λ o. child_of o dname) f ∙ u

  elsewhere : Apart ddir dname sdir sname
  elsewhere a b = not_none file (child_of (get m sdir) sname) was (sym (ap (λ q. child_of (get m q) dname) a ∙ ap (child_of (get m sdir)) b) ∙ unused)

  moves_one : IsTree m → Moves m (with_moved_node m file sdir sname ddir dname) file sdir sname ddir dname
  unfolding gained lost
  moves_one tree = record {
    was = was;
    in_dir = ap kind_of f ∙ ap Some k;
    unused = unused;
    clear = clear;
    kinds = λ q. view_kept kind_of (at_place ddir dname) lost file (λ n. refl) q ∙ lost_kinds q;
    place = ap parent_of (with_change_here (at_place ddir dname) lost file) ∙ placed_at (get lost file) ddir dname (there_as (get lost file) (get m file) (lost_kinds file) ∙ placed_there (get m file) sdir sname ((tree.agreeing sdir sname file).0 was));
    places = λ q other. ap parent_of (with_change_other (at_place ddir dname) lost file q other) ∙ view_kept parent_of (without_link sname) gained sdir (λ n. refl) q ∙ view_kept parent_of (with_link dname file) m ddir (λ n. refl) q;
    child = placed_children ddir dname ∙ without_link_other gained sdir sname ddir dname elsewhere ∙ with_link_here m ddir dname file d f;
    left = placed_children sdir sname ∙ without_link_here gained sdir sname;
    children = λ q other a b. placed_children q other ∙ without_link_other gained sdir sname q other b ∙ with_link_other m ddir dname file q other a;
  }
    where
      lost_kinds : (q : List ℕ) → kind_of (get lost q) ≡ kind_of (get m q)
      lost_kinds q = view_kept kind_of (without_link sname) gained sdir (λ n. refl) q ∙ view_kept kind_of (with_link dname file) m ddir (λ n. refl) q

      placed_children : (q other : List ℕ) → child_of (get (with_change (at_place ddir dname) lost file) q) other ≡ child_of (get lost q) other
      placed_children q other = view_kept (λ o. child_of o other) (at_place ddir dname) lost file (λ n. refl) q

  with_moved_node_sound : IsSound m → IsSound (with_moved_node m file sdir sname ddir dname)
  with_moved_node_sound x = record {
    tree = moved_tree m (with_moved_node m file sdir sname ddir dname) file sdir sname ddir dname (moves_one x.tree) x.tree;
    nodes =
        each_with_change IsSoundNode (at_place ddir dname) (with_change (without_link sname) (with_change (with_link dname file) m ddir) sdir) file (λ n _ y. at_place_sound ddir dname n y)
        (each_with_change IsSoundNode (without_link sname) (with_change (with_link dname file) m ddir) sdir (λ n _ y. without_link_sound sname n y)
        (each_with_change IsSoundNode (with_link dname file) m ddir (λ n h y. with_link_sound dname file n (ap (λ (n : Node). n.kind) (one_node m ddir n d h f) ∙ k) y) x.nodes));
  }

-- ## Each step

pub outcome_sound : (m : NodeMap) (by : Session) (t : Stepped) → Outcome (λ modes. has_access modes ≡ true) m by t → IsSound m → IsSound t.nodes
outcome_sound m by t (stays r q) s = s
outcome_sound m by t same_place s = s
outcome_sound m by t (makes dir name kind id d e k u a) s = with_new_node_sound m dir name kind id d e k u a s
outcome_sound m by t (opens file h modes n a e u f) s = changed_sound (with_open by h modes) m file (record { kind = λ n. refl; place = λ n. refl; children = λ n. refl }) (λ x p y. with_open_sound by h modes x a (ap (λ (x : Node). handle_at x.handles by h) (one_node m file x n p e) ∙ u) (ap (λ (x : Node). any_conflicts x.handles modes) (one_node m file x n p e) ∙ f) y) s
outcome_sound m by t (closes file h) s = changed_sound (without_open by h) m file (record { kind = λ n. refl; place = λ n. refl; children = λ n. refl }) (λ x _ y. without_open_sound by h x y) s
outcome_sound m by t (sets file size stamp) s = changed_sound (with_info size stamp) m file (record { kind = λ n. refl; place = λ n. refl; children = λ n. refl }) (λ x _ y. with_info_sound size stamp x y) s
outcome_sound m by t (deletes dir name file d e c h) s = deleted_sound m dir name file d e c h s
outcome_sound m by t (renames file sdir sname ddir dname a d e c f k u clear) s = with_moved_node_sound m file sdir sname ddir dname a d e c f k u clear s
outcome_sound m by t (reaps file session) s = changed_sound (without_opens session) m file (record { kind = λ n. refl; place = λ n. refl; children = λ n. refl }) (λ x _ y. without_opens_sound session x y) s
