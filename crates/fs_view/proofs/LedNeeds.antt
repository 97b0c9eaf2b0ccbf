-- Deletes and renames that get the same reply have the same effects where what they need agrees.
use Rattle.std.proofs.Common.{◌≡◌, ◌∙◌, ℕ, Bool, true, false, List, [], refl, ap, sym, inl, inr, cond, subst}
use Rattle.std.specs.Prelude.{Option, Some, None}
use Rattle.std.specs.FinMap.{get}
use Rattle.fs_ident.specs.Ident.{same}
use Rattle.fs_ident.specs.In.{In}
use Rattle.fs_ident.specs.declared.actor.Session.{Session}
use Rattle.fs_ident.specs.declared.kind.Kind.{Kind}
use Rattle.fs_ident.specs.declared.kind.Kind.TheVariants.{File, Dir}
use Rattle.fs_field.specs.declared.asked.Need.{Need}
use Rattle.fs_field.specs.declared.asked.Need.TheVariants.{Lease}
use Rattle.fs_field.specs.declared.field.Field.TheVariants.{Child}
use Rattle.fs_field.specs.declared.lease_kind.LeaseKind.TheVariants.{Exclusive}
use Rattle.fs_field.specs.declared.value.Value.TheVariants as value
use Rattle.fs_model.specs.Namespace.{NodeMap}
use Rattle.fs_model.specs.Sound.{child_of, kind_of}
use Rattle.fs_model.specs.Step.{delete, delete_in, rename, rename_in, rename_to, rename_to_dir, step}
use Rattle.fs_model.specs.declared.node.Node.{Node}
use Rattle.fs_model.specs.declared.op.Op.{Op}
use Rattle.fs_model.specs.declared.op.Op.TheVariants as op
use Rattle.fs_model.specs.declared.reply.Reply.{Reply}
use Rattle.fs_model.specs.declared.reply.Reply.TheVariants as reply
use Rattle.fs_record.specs.LedEffects.{led_effects}
use Rattle.fs_view.specs.Laws.{AgreeOn}
use Rattle.fs_view.specs.LedEffects.{effects_on, led_effects_in}
use Rattle.fs_view.specs.Script.{ask_delete, ask_old_place, ask_other_dir, ask_rename, no_dir, no_dir_to, unless}
use Rattle.fs_view.specs.Walk.{always, known_in, walk, walk_along}

-- an operation with this reply does nothing
abbrev DoesNothing : Op → Reply → Type 0
DoesNothing o r = (file : List ℕ) → led_effects o file r ≡ []

none_by : (o : Op) (c : Option (List ℕ)) (r : Reply) → DoesNothing o r → effects_on o c r ≡ []
none_by o None r h = refl
none_by o (Some file) r h = h file

-- two that get one reply do nothing both, or the same to the same file
silent : (o : Op) (c d : Option (List ℕ)) (r s q : Reply) → r ≡ s → r ≡ q → DoesNothing o q → effects_on o c r ≡ effects_on o d s
silent o c d r s q e f h = ap (effects_on o c) f ∙ none_by o c q h ∙ sym (ap (effects_on o d) (sym e ∙ f) ∙ none_by o d q h)

alike : (o : Op) (c d : Option (List ℕ)) (r s : Reply) → c ≡ d → r ≡ s → effects_on o c r ≡ effects_on o d s
alike o c d r s p e = ap (λ x. effects_on o x r) p ∙ ap (effects_on o d) e

module _ (m n : NodeMap) (by : Session) where
  abbrev items : Op → List Need
  items o = (walk (known_in m by) always o).items

  -- what has the name is the same
  same_child : (o : Op) (dir name : List ℕ) → AgreeOn m n by (items o) → In (Lease (Child dir name) Exclusive) (items o) → child_of (get m dir) name ≡ child_of (get n dir) name
  same_child o dir name agree i = let e : value.Child (child_of (get n dir) name) ≡ value.Child (child_of (get m dir) name) = agree (Child dir name) Exclusive i in sym (cc e)

  -- ## Deletes

  child_deleted : (dir name : List ℕ) → kind_of (get m dir) ≡ Some Dir → In (Lease (Child dir name) Exclusive) (items (op.Delete dir name))
  child_deleted dir name e = inr (subst (λ k. In (Lease (Child dir name) Exclusive) (walk_along (known_in m by) always (unless (no_dir (Some k)) (ask_delete dir name))).items) (sym e) (inl refl))

  module _ (dir name : List ℕ) (agree : AgreeOn m n by (items (op.Delete dir name))) (e : (step m by (op.Delete dir name)).reply ≡ (step n by (op.Delete dir name)).reply) where
    deleted_in : (d : Node) (k : Kind) → get m dir ≡ Some d → d.kind ≡ k → led_effects_in m by (op.Delete dir name) ≡ led_effects_in n by (op.Delete dir name)
    deleted_in d File g h = silent (op.Delete dir name) _ _ _ _ reply.NotDir e (ap (λ x. (delete x m dir name).reply) g ∙ ap (λ j. (delete_in j m d dir name).reply) h) (λ f. refl)
    deleted_in d Dir g h = alike (op.Delete dir name) _ _ _ _ (same_child (op.Delete dir name) dir name agree (child_deleted dir name (ap kind_of g ∙ ap Some h))) e

    deleted : (o : Option Node) → get m dir ≡ o → led_effects_in m by (op.Delete dir name) ≡ led_effects_in n by (op.Delete dir name)
    deleted None g = silent (op.Delete dir name) _ _ _ _ reply.Gone e (ap (λ x. (delete x m dir name).reply) g) (λ f. refl)
    deleted (Some d) g = deleted_in d d.kind g refl

  -- ## Renames

  child_moved_in : (sdir sname ddir dname : List ℕ) (b : Bool) → same sdir ddir ≡ b → (b ≡ false → kind_of (get m ddir) ≡ Some Dir) → In (Lease (Child sdir sname) Exclusive) (walk_along (known_in m by) always (ask_rename sdir sname ddir dname)).items
  child_moved_in sdir sname ddir dname true t to = subst (λ b. In (Lease (Child sdir sname) Exclusive) (walk_along (known_in m by) always (cond b (ask_old_place sdir sname ddir dname) (ask_other_dir sdir sname ddir dname))).items) (sym t) (inl refl)
  child_moved_in sdir sname ddir dname false t to =
      subst (λ b. In (Lease (Child sdir sname) Exclusive) (walk_along (known_in m by) always (cond b (ask_old_place sdir sname ddir dname) (ask_other_dir sdir sname ddir dname))).items) (sym t)
      (inr (subst (λ k. In (Lease (Child sdir sname) Exclusive) (walk_along (known_in m by) always (unless (no_dir_to (Some k)) (ask_old_place sdir sname ddir dname))).items) (sym (to refl)) (inl refl)))

  child_moved : (sdir sname ddir dname : List ℕ) (b : Bool) → same sdir ddir ≡ b → kind_of (get m sdir) ≡ Some Dir → (b ≡ false → kind_of (get m ddir) ≡ Some Dir) → In (Lease (Child sdir sname) Exclusive) (items (op.Rename sdir sname ddir dname))
  child_moved sdir sname ddir dname b t e to = inr (subst (λ k. In (Lease (Child sdir sname) Exclusive) (walk_along (known_in m by) always (unless (no_dir (Some k)) (ask_rename sdir sname ddir dname))).items) (sym e) (child_moved_in sdir sname ddir dname b t to))

  module _ (sdir sname ddir dname : List ℕ) (agree : AgreeOn m n by (items (op.Rename sdir sname ddir dname))) (e : (step m by (op.Rename sdir sname ddir dname)).reply ≡ (step n by (op.Rename sdir sname ddir dname)).reply) where
    abbrev moves : Op
    moves = op.Rename sdir sname ddir dname

    abbrev HasSameEffects : Type 0
    HasSameEffects = led_effects_in m by moves ≡ led_effects_in n by moves

    found : (b : Bool) → same sdir ddir ≡ b → kind_of (get m sdir) ≡ Some Dir → (b ≡ false → kind_of (get m ddir) ≡ Some Dir) → HasSameEffects
    found b t from to = alike moves _ _ _ _ (same_child moves sdir sname agree (child_moved sdir sname ddir dname b t from to)) e

    -- the reply, where the file comes from a directory
    replied : (s : Node) → get m sdir ≡ Some s → s.kind ≡ Dir → (step m by moves).reply ≡ (rename_to m s sdir sname (get m ddir) ddir dname).reply
    replied s g h = ap (λ x. (rename x m sdir sname ddir dname).reply) g ∙ ap (λ j. (rename_in j m s sdir sname ddir dname).reply) h

    to_kind : (s : Node) → get m sdir ≡ Some s → s.kind ≡ Dir → same sdir ddir ≡ false → (d : Node) (k : Kind) → get m ddir ≡ Some d → d.kind ≡ k → HasSameEffects
    to_kind s g h t d File u v = silent moves _ _ _ _ reply.NotDirTo e (replied s g h ∙ ap (λ x. (rename_to m s sdir sname x ddir dname).reply) u ∙ ap (λ j. (rename_to_dir j m s sdir sname d ddir dname).reply) v) (λ f. refl)
    to_kind s g h t d Dir u v = found false t (ap kind_of g ∙ ap Some h) (λ x. ap kind_of u ∙ ap Some v)

    to_place : (s : Node) → get m sdir ≡ Some s → s.kind ≡ Dir → same sdir ddir ≡ false → (o : Option Node) → get m ddir ≡ o → HasSameEffects
    to_place s g h t None u = silent moves _ _ _ _ reply.GoneTo e (replied s g h ∙ ap (λ x. (rename_to m s sdir sname x ddir dname).reply) u) (λ f. refl)
    to_place s g h t (Some d) u = to_kind s g h t d d.kind u refl

    from_dir : (s : Node) → get m sdir ≡ Some s → s.kind ≡ Dir → (b : Bool) → same sdir ddir ≡ b → HasSameEffects
    from_dir s g h true t = found true t (ap kind_of g ∙ ap Some h) (λ x. absurd (cc x))
    from_dir s g h false t = to_place s g h t (get m ddir) refl

    from_kind : (s : Node) (k : Kind) → get m sdir ≡ Some s → s.kind ≡ k → HasSameEffects
    from_kind s File g h = silent moves _ _ _ _ reply.NotDir e (ap (λ x. (rename x m sdir sname ddir dname).reply) g ∙ ap (λ j. (rename_in j m s sdir sname ddir dname).reply) h) (λ f. refl)
    from_kind s Dir g h = from_dir s g h (same sdir ddir) refl

    renamed : (o : Option Node) → get m sdir ≡ o → HasSameEffects
    renamed None g = silent moves _ _ _ _ reply.Gone e (ap (λ x. (rename x m sdir sname ddir dname).reply) g) (λ f. refl)
    renamed (Some s) g = from_kind s s.kind g refl

  -- ## All operations

  pub same_effects : (o : Op) → AgreeOn m n by (items o) → (step m by o).reply ≡ (step n by o).reply → led_effects_in m by o ≡ led_effects_in n by o
  same_effects (op.Delete dir name) agree e = deleted dir name agree e (get m dir) refl
  same_effects (op.Rename sdir sname ddir dname) agree e = renamed sdir sname ddir dname agree e (get m sdir) refl
  same_effects (op.Lookup dir name) agree e = refl
  same_effects (op.List dir) agree e = refl
  same_effects (op.Kind file) agree e = refl
  same_effects (op.Info file) agree e = refl
  same_effects (op.Create dir name kind id) agree e = refl
  same_effects (op.OpenFile file h modes) agree e = refl
  same_effects (op.Close file h) agree e = refl
  same_effects (op.Set file h size stamp) agree e = refl
  same_effects (op.Reap file session) agree e = refl
