-- Each node is sound after a change.
use Rattle.std.proofs.Common.{◌≡◌, ◌≢◌, ◌⊎◌, inl, inr, ℕ, List, refl, sym, ap, ◌∙◌, subst, true, false, Option, Some, None, IfSome}
use Rattle.std.specs.FinMap.{get, insert, remove}
use Rattle.fs_ident.specs.declared.actor.Session.{Session}
use Rattle.fs_ident.specs.declared.kind.Kind.{Kind}
use Rattle.fs_ident.specs.declared.kind.Kind.TheVariants.{File, Dir}
use Rattle.fs_modes.specs.declared.modes.Modes.{Modes}
use Rattle.fs_modes.specs.Modes.{has_access}
use Rattle.fs_model.specs.declared.node.Handle.{Handle}
use Rattle.fs_model.specs.declared.node.Node.{Node}
use Rattle.fs_model.specs.Namespace.{NodeMap, fresh_node, with_change, with_change_at}
use Rattle.fs_model.specs.Children.{without_child}
use Rattle.fs_model.specs.Handles.{handle_at, any_conflicts}
use Rattle.fs_model.specs.Sound.{IsSoundNode}
use Rattle.fs_model.specs.Step.{with_link, without_link, at_place, with_info, with_open, without_open, without_opens}
use Rattle.fs_model.proofs.SoundMaps.{either, insert_here, insert_other, remove_here, remove_other}
use Rattle.fs_model.proofs.SoundHandles.{none_conflict_with, access_with, none_conflict_some, access_some}
use Rattle.fs_model.proofs.Keeping.{fresh_in_order, with_link_in_order, without_link_in_order, at_place_in_order, with_info_in_order, with_open_in_order, without_open_in_order, without_opens_in_order}

-- ## One node

pub fresh_sound : (kind : Kind) (parent : Option (List ℕ × List ℕ)) → IsSoundNode (fresh_node kind parent)
fresh_sound kind parent = record { childless = λ _. refl; accessed = refl; sharing = refl; in_order = fresh_in_order kind parent }

pub with_link_sound : (name id : List ℕ) (n : Node) → n.kind ≡ Dir → IsSoundNode n → IsSoundNode (with_link name id n)
with_link_sound name id n dir s = record {
  childless = λ e. (let q : File ≡ Dir = sym e ∙ dir in absurd (cc q));
  accessed = s.accessed;
  sharing = s.sharing;
  in_order = with_link_in_order name id n s.in_order;
}

pub without_link_sound : (name : List ℕ) (n : Node) → IsSoundNode n → IsSoundNode (without_link name n)
without_link_sound name n s = record {
  childless = λ e. ap (λ cs. without_child cs name) (s.childless e);
  accessed = s.accessed;
  sharing = s.sharing;
  in_order = without_link_in_order name n s.in_order;
}

pub at_place_sound : (dir name : List ℕ) (n : Node) → IsSoundNode n → IsSoundNode (at_place dir name n)
at_place_sound dir name n s = record { childless = s.childless; accessed = s.accessed; sharing = s.sharing; in_order = at_place_in_order dir name n s.in_order }

pub with_info_sound : (size stamp : ℕ) (n : Node) → IsSoundNode n → IsSoundNode (with_info size stamp n)
with_info_sound size stamp n s = record { childless = s.childless; accessed = s.accessed; sharing = s.sharing; in_order = with_info_in_order size stamp n s.in_order }

pub with_open_sound : (by : Session) (h : ℕ) (modes : Modes) (n : Node) → has_access modes ≡ true → handle_at n.handles by h ≡ None → any_conflicts n.handles modes ≡ false → IsSoundNode n → IsSoundNode (with_open by h modes n)
with_open_sound by h modes n access unused free s =
    let new : Handle = record { session = by; h = h; modes = modes } in
    record {
      childless = s.childless;
      accessed = access_with n.handles new access s.accessed;
      sharing = none_conflict_with n.handles new free s.sharing;
      in_order = with_open_in_order by h modes n unused s.in_order;
    }

pub without_open_sound : (by : Session) (h : ℕ) (n : Node) → IsSoundNode n → IsSoundNode (without_open by h n)
without_open_sound by h n s = record {
  childless = s.childless;
  accessed = access_some _ n.handles s.accessed;
  sharing = none_conflict_some _ n.handles s.sharing;
  in_order = without_open_in_order by h n s.in_order;
}

pub without_opens_sound : (session : Session) (n : Node) → IsSoundNode n → IsSoundNode (without_opens session n)
without_opens_sound session n s = record {
  childless = s.childless;
  accessed = access_some _ n.handles s.accessed;
  sharing = none_conflict_some _ n.handles s.sharing;
  in_order = without_opens_in_order session n s.in_order;
}

-- ## All nodes

-- each node of the space is so
abbrev pub Each : (Node → Type 0) → NodeMap → Type 0
Each P m = (file : List ℕ) → IfSome (get m file) P

module _ (P : Node → Type 0) where
  pub each_at : (m : NodeMap) (file : List ℕ) (n : Node) → Each P m → get m file ≡ Some n → P n
  each_at m file n s e = subst (λ o. IfSome o P) e (s file)

  pub each_insert : (m : NodeMap) (k : List ℕ) (v : Node) → P v → Each P m → Each P (insert m k v)
  each_insert m k v new s file = by (either file k)
    where
      by : (file ≡ k) ⊎ (file ≢ k) → IfSome (get (insert m k v) file) P
      by (inl e) = subst (λ o. IfSome o P) (sym (ap (get (insert m k v)) e ∙ insert_here m k v)) new
      by (inr e) = subst (λ o. IfSome o P) (sym (insert_other m k v file e)) (s file)

  pub each_remove : (m : NodeMap) (k : List ℕ) → Each P m → Each P (remove m k)
  each_remove m k s file = by (either file k)
    where
      by : (file ≡ k) ⊎ (file ≢ k) → IfSome (get (remove m k) file) P
      by (inl e) = subst (λ o. IfSome o P) (sym (ap (get (remove m k)) e ∙ remove_here m k)) tt
      by (inr e) = subst (λ o. IfSome o P) (sym (remove_other m k file e)) (s file)

  pub each_with_change : (f : Node → Node) (m : NodeMap) (k : List ℕ) → ((n : Node) → get m k ≡ Some n → P n → P (f n)) → Each P m → Each P (with_change f m k)
  each_with_change f m k keeps s = by (get m k) refl
    where
      by : (o : Option Node) → get m k ≡ o → Each P (with_change_at f m k o)
      by None e = s
      by (Some n) e = each_insert m k (f n) (keeps n e (each_at m k n s e)) s
