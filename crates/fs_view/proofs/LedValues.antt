-- What sessions see after the effects of a delete or a rename.
use Rattle.std.proofs.Common.{◌≡◌, ℕ, ◌&&◌, ◌⊎◌, Bool, true, false, not, List, [], ◌∷◌, refl, ap, cond, sym, ◌∙◌, subst, inl, inr}
use Rattle.std.specs.Prelude.{Option, Some, None, is_some}
use Rattle.std.specs.FinMap.{get}
use Rattle.std.specs.List.{list_any}
use Rattle.std.specs.Ordering.{nat_cmp, eq_by_cmp}
use Rattle.std.specs.Cmp.Lexicographic.{slice_cmp}
use Rattle.fs_ident.specs.Ident.{same}
use Rattle.fs_ident.specs.declared.actor.Session.{Session}
use Rattle.fs_ident.specs.declared.kind.Kind.{Kind}
use Rattle.fs_ident.specs.declared.kind.Kind.TheVariants.{File, Dir}
use Rattle.fs_ident.proofs.Booleans.{neither}
use Rattle.fs_ident.proofs.Same.{same_is, same_self}
use Rattle.fs_field.specs.After.{changed_file, value_after}
use Rattle.fs_field.specs.declared.effect.Effect.{Effect}
use Rattle.fs_field.specs.declared.effect.Effect.TheVariants.{SetChild, SetParent, NewNode, RemoveNode, AddHandle, RemoveHandle, SetInfo}
use Rattle.fs_field.specs.declared.field.Field.{Field}
use Rattle.fs_field.specs.declared.field.Field.TheVariants.{Life, Child, Names, Info, Own, SelfW, Other}
use Rattle.fs_field.specs.declared.lease_kind.LeaseKind.{LeaseKind}
use Rattle.fs_field.specs.declared.lease_kind.LeaseKind.TheVariants.{Exclusive}
use Rattle.fs_field.specs.declared.value.Value.{Value}
use Rattle.fs_field.specs.declared.value.Value.TheVariants as value
use Rattle.fs_field.specs.Conflict.{meets}
use Rattle.fs_field.proofs.Untouched.{value_stays}
use Rattle.fs_model.specs.Children.{child_at, names_of}
use Rattle.fs_model.specs.Namespace.{NodeMap}
use Rattle.fs_model.specs.Sound.{IsSound, child_of, kind_of, parent_of}
use Rattle.fs_model.specs.Step.{Stepped, children_of, delete, delete_child, delete_in, is_childless, is_empty, is_unused, rename, rename_in, rename_to, rename_to_dir, reply_alone}
use Rattle.fs_model.specs.declared.node.Node.{Node}
use Rattle.fs_model.specs.declared.op.Op.{Op}
use Rattle.fs_model.specs.declared.op.Op.TheVariants as op
use Rattle.fs_model.specs.declared.reply.Reply.{Reply}
use Rattle.fs_model.specs.declared.reply.Reply.TheVariants as reply
use Rattle.fs_record.specs.Applied.{is_birth, node_change, record_change, records_after, records_after_all}
use Rattle.fs_record.specs.LedEffects.{led_effects, move_effects, removal_effects}
use Rattle.fs_record.specs.Records.{AreRecords, RecordMap, next_of, node_of, nodes_of}
use Rattle.fs_record.specs.ValueOf.{handles_of, others_have, own_of, value_of}
use Rattle.fs_record.specs.declared.record.Record.{Record}
use Rattle.fs_record.proofs.Kept.{after_kept, get_with_at}
use Rattle.fs_record.proofs.NodeMaps.{node_there}
use Rattle.fs_record.proofs.NodeValues.{key_is, tied}
use Rattle.fs_record.proofs.NumbersRise.{effect_next}
use Rattle.fs_record.proofs.ValueChanges.{change_node}
use Rattle.fs_view.specs.LedLaws.{IsLed, IsOfNone, LedValuesFollow, LedValuesStay, after_led}
use Rattle.fs_view.specs.Script.{Script, answer, ask_delete, ask_deleted, ask_empty, ask_new_place, ask_old_place, ask_other_dir, ask_rename, ask_unless_there, no_dir, no_dir_to, no_name, script_of, unless}
use Rattle.fs_view.specs.View.{value_after_all}
use Rattle.fs_view.proofs.Seeing.{OthersStay, follow}
use Rattle.fs_view.proofs.Unseen.{Free, child_untouched, life_untouched}

-- ## What is known where it was done

-- of a delete: the directory lives, the name stands for the file, which has no children and no handles
pub record IsRemoval (m : NodeMap) (dir name file : List ℕ) : Type 0 where
  pub lives : kind_of (get m dir) ≡ Some Dir
  pub named : child_of (get m dir) name ≡ Some file
  pub childless : children_of (get m file) ≡ []
  pub unused : handles_of (get m file) ≡ []

-- of a rename to another place: both directories live, and the old name stands for the file
pub record IsMoving (m : NodeMap) (sdir sname ddir dname file : List ℕ) : Type 0 where
  pub lives : kind_of (get m sdir) ≡ Some Dir
  pub lives_there : kind_of (get m ddir) ≡ Some Dir
  pub named : child_of (get m sdir) sname ≡ Some file
  pub other : (same sdir ddir && same sname dname) ≡ false

-- where a test gives another reply, it failed
past : (m : NodeMap) (b : Bool) (r q : Reply) (t : Stepped) → (r ≡ q → ⊥) → (cond b (reply_alone m r) t).reply ≡ q → (b ≡ false) × (t.reply ≡ q)
past m true r q t wrong h = absurd (wrong h)
past m false r q t wrong h = (refl, h)

emptied : {X : Type 0} (xs : List X) → not (is_empty xs) ≡ false → xs ≡ []
emptied [] h = refl
emptied (x ∷ xs) h = absurd (cc)

bare_in : (m : NodeMap) (o : Option Node) (t : Stepped) → (cond (not (is_childless o)) (reply_alone m reply.NotEmpty) (cond (not (is_unused o)) (reply_alone m reply.InUse) t)).reply ≡ reply.Deleted → (children_of o ≡ []) × (handles_of o ≡ [])
bare_in m None t h = (refl, refl)
bare_in m (Some n) t h =
    let p = past m (not (is_empty n.children)) reply.NotEmpty reply.Deleted (cond (not (is_empty n.handles)) (reply_alone m reply.InUse) t) (λ e. absurd (cc)) h in
    let q = past m (not (is_empty n.handles)) reply.InUse reply.Deleted t (λ e. absurd (cc)) p.1 in
    (emptied n.children p.0, emptied n.handles q.0)

removal : (m : NodeMap) (dir name file : List ℕ) (o : Option Node) → get m dir ≡ o → child_of o name ≡ Some file → (delete o m dir name).reply ≡ reply.Deleted → IsRemoval m dir name file
removal m dir name file None e c h = absurd (cc)
removal m dir name file (Some d) e c h = within d.kind refl h
  where
    within : (k : Kind) → d.kind ≡ k → (delete_in k m d dir name).reply ≡ reply.Deleted → IsRemoval m dir name file
    within File t g = absurd (cc)
    within Dir t g =
        let b : (children_of (get m file) ≡ []) × (handles_of (get m file) ≡ []) = bare_in m (get m file) _ (subst (λ x. (delete_child m dir name x).reply ≡ reply.Deleted) c g) in
        record { lives = ap kind_of e ∙ ap Some t; named = ap (λ (o : Option Node). child_of o name) e ∙ c; childless = b.0; unused = b.1 }

lives_to : (m : NodeMap) (s : Node) (sdir sname ddir dname : List ℕ) (o : Option Node) → get m ddir ≡ o → (rename_to m s sdir sname o ddir dname).reply ≡ reply.Renamed → kind_of (get m ddir) ≡ Some Dir
lives_to m s sdir sname ddir dname None e h = absurd (cc)
lives_to m s sdir sname ddir dname (Some d) e h = within d.kind refl h
  where
    within : (k : Kind) → d.kind ≡ k → (rename_to_dir k m s sdir sname d ddir dname).reply ≡ reply.Renamed → kind_of (get m ddir) ≡ Some Dir
    within File t g = absurd (cc)
    within Dir t g = ap kind_of e ∙ ap Some t

negated : (b : Bool) → not b ≡ true → b ≡ false
negated true h = absurd (cc)
negated false h = refl

moving : (m : NodeMap) (sdir sname ddir dname file : List ℕ) (o : Option Node) → get m sdir ≡ o → not (same sdir ddir && same sname dname) ≡ true → child_of o sname ≡ Some file → (rename o m sdir sname ddir dname).reply ≡ reply.Renamed → IsMoving m sdir sname ddir dname file
moving m sdir sname ddir dname file None e p c h = absurd (cc)
moving m sdir sname ddir dname file (Some s) e p c h = within s.kind refl h
  where
    within : (k : Kind) → s.kind ≡ k → (rename_in k m s sdir sname ddir dname).reply ≡ reply.Renamed → IsMoving m sdir sname ddir dname file
    within File t g = absurd (cc)
    within Dir t g = record {
      lives = ap kind_of e ∙ ap Some t;
      lives_there = lives_to m s sdir sname ddir dname (get m ddir) refl g;
      named = ap (λ (o : Option Node). child_of o sname) e ∙ c;
      other = negated (same sdir ddir && same sname dname) p;
    }

-- ## What stands in its walk

module _ (m : RecordMap) (by : Session) (field : Field) (kind : LeaseKind) where
  free_if : (b : Bool) (x y : Script) (P : Type 0) → (Free m by field kind x → P) → (Free m by field kind y → P) → Free m by field kind (cond b x y) → P
  free_if true x y P p q h = p h
  free_if false x y P p q h = q h

  -- the name, and the life of the file
  removal_free : (dir name file : List ℕ) → IsRemoval (nodes_of m) dir name file → Free m by field kind (script_of (op.Delete dir name)) → (meets field kind (Child dir name) Exclusive ≡ false) × (meets field kind (Life file) Exclusive ≡ false)
  removal_free dir name file r free =
      let at : Free m by field kind (ask_delete dir name) = subst (λ (k : Option Kind). Free m by field kind (unless (no_dir (Some k)) (ask_delete dir name))) r.lives free in
      let p : (meets field kind (Child dir name) Exclusive ≡ false) × Free m by field kind (ask_deleted (Some (child_of (get (nodes_of m) dir) name))) = neither _ _ at in
      let next : Free m by field kind (ask_deleted (Some (Some file))) = subst (λ (c : Option (List ℕ)). Free m by field kind (ask_deleted (Some c))) r.named p.1 in
      let q : (meets field kind (Life file) Exclusive ≡ false) × Free m by field kind (ask_empty file) = neither _ _ next in
      (p.0, q.0)

  -- both names
  old_place_free : (sdir sname ddir dname file : List ℕ) → IsMoving (nodes_of m) sdir sname ddir dname file → Free m by field kind (ask_old_place sdir sname ddir dname) → (meets field kind (Child sdir sname) Exclusive ≡ false) × (meets field kind (Child ddir dname) Exclusive ≡ false)
  old_place_free sdir sname ddir dname file r free =
      let moved : Option (List ℕ) = child_of (get (nodes_of m) sdir) sname in
      let p : (meets field kind (Child sdir sname) Exclusive ≡ false) × Free m by field kind (unless (no_name (Some moved)) (ask_unless_there sdir sname ddir dname (Some moved))) = neither _ _ free in
      let next : Free m by field kind (ask_unless_there sdir sname ddir dname (Some (Some file))) = subst (λ (c : Option (List ℕ)). Free m by field kind (unless (no_name (Some c)) (ask_unless_there sdir sname ddir dname (Some c)))) r.named p.1 in
      let there : Free m by field kind (ask_new_place sdir ddir dname (Some (Some file))) = subst (λ b. Free m by field kind (cond b (answer reply.Renamed) (ask_new_place sdir ddir dname (Some (Some file))))) r.other next in
      let q = neither (meets field kind (Child ddir dname) Exclusive) _ there in
      (p.0, q.0)

  moving_free : (sdir sname ddir dname file : List ℕ) → IsMoving (nodes_of m) sdir sname ddir dname file → Free m by field kind (script_of (op.Rename sdir sname ddir dname)) → (meets field kind (Child sdir sname) Exclusive ≡ false) × (meets field kind (Child ddir dname) Exclusive ≡ false)
  moving_free sdir sname ddir dname file r free =
      let at : Free m by field kind (ask_rename sdir sname ddir dname) = subst (λ (k : Option Kind). Free m by field kind (unless (no_dir (Some k)) (ask_rename sdir sname ddir dname))) r.lives free in
      free_if (same sdir ddir) (ask_old_place sdir sname ddir dname) (ask_other_dir sdir sname ddir dname) _ (old_place_free sdir sname ddir dname file r)
      (λ other. old_place_free sdir sname ddir dname file r (subst (λ (k : Option Kind). Free m by field kind (unless (no_dir_to (Some k)) (ask_old_place sdir sname ddir dname))) r.lives_there other)) at

-- ## What effects leave

handles_linked : (d n : List ℕ) (to : Option (List ℕ)) (o : Option Node) → handles_of (node_change (SetChild d n to) o) ≡ handles_of o
handles_linked d n to None = refl
handles_linked d n None (Some x) = refl
handles_linked d n (Some f) (Some x) = refl

handles_placed : (f d n : List ℕ) (o : Option Node) → handles_of (node_change (SetParent f d n) o) ≡ handles_of o
handles_placed f d n None = refl
handles_placed f d n (Some x) = refl

-- an effect that leaves the handles of its own file leaves those of all files
handles_after : (m : RecordMap) (e : Effect) → handles_of (node_change e (node_of (get m (changed_file e)))) ≡ handles_of (node_of (get m (changed_file e))) → (f : List ℕ) → handles_of (node_of (get (records_after m e) f)) ≡ handles_of (node_of (get m f))
handles_after m e h f = ap (λ (o : Option Record). handles_of (node_of o)) (get_with_at m k (record_change e (get m k)) f) ∙ within (eq_by_cmp (slice_cmp nat_cmp) f k) refl
  where
    k : List ℕ
    k = changed_file e

    within : (b : Bool) → eq_by_cmp (slice_cmp nat_cmp) f k ≡ b → handles_of (node_of (cond b (record_change e (get m k)) (get m f))) ≡ handles_of (node_of (get m f))
    within true t = ap handles_of (change_node e (get m k)) ∙ h ∙ ap (λ x. handles_of (node_of (get m x))) (sym (key_is f k t))
    within false t = refl

linked_there : (d n : List ℕ) (to : Option (List ℕ)) (o : Option Record) → is_some (record_change (SetChild d n to) o) ≡ is_some o
linked_there d n to None = refl
linked_there d n to (Some r) = refl

-- a name's change makes no file and removes none
still_there : (m : RecordMap) (d n : List ℕ) (to : Option (List ℕ)) (f : List ℕ) → is_some (get (records_after m (SetChild d n to)) f) ≡ is_some (get m f)
still_there m d n to f = ap (λ (o : Option Record). is_some o) (get_with_at m d (record_change (SetChild d n to) (get m d)) f) ∙ within (eq_by_cmp (slice_cmp nat_cmp) f d) refl
  where
    within : (b : Bool) → eq_by_cmp (slice_cmp nat_cmp) f d ≡ b → is_some (cond b (record_change (SetChild d n to) (get m d)) (get m f)) ≡ is_some (get m f)
    within true t = linked_there d n to (get m d) ∙ ap (λ x. is_some (get m x)) (sym (key_is f d t))
    within false t = refl

some_record : (o : Option Record) (k : Kind) → kind_of (node_of o) ≡ Some k → is_some o ≡ true
some_record None k h = absurd (cc)
some_record (Some r) k h = refl

-- what lives has a record
recorded_as : (m : RecordMap) (f : List ℕ) (k : Kind) → kind_of (get (nodes_of m) f) ≡ Some k → is_some (get m f) ≡ true
recorded_as m f k h = some_record (get m f) k (ap kind_of (sym (node_there m f)) ∙ h)

placed_record : (o : Option Record) (p : List ℕ × List ℕ) → parent_of (node_of o) ≡ Some p → is_some o ≡ true
placed_record None p h = absurd (cc)
placed_record (Some r) p h = refl

-- so has what a name stands for
child_recorded : (m : RecordMap) (dir name file : List ℕ) → IsSound (nodes_of m) → child_of (get (nodes_of m) dir) name ≡ Some file → is_some (get m file) ≡ true
child_recorded m dir name file sound c = placed_record (get m file) (dir, name) (ap parent_of (sym (node_there m file)) ∙ (sound.tree.agreeing dir name file).0 c)

-- ## What all sessions see

removed_stay : (x : Session) (file : List ℕ) (o : Option Node) → handles_of o ≡ [] → OthersStay x (RemoveNode file) o
removed_stay x file o h md = sym (ap (others_have x md) h)

linked_stay : (x : Session) (d n : List ℕ) (to : Option (List ℕ)) (o : Option Node) → OthersStay x (SetChild d n to) o
linked_stay x d n to o md = ap (others_have x md) (handles_linked d n to o)

placed_stay : (x : Session) (f d n : List ℕ) (o : Option Node) → OthersStay x (SetParent f d n) o
placed_stay x f d n o md = ap (others_have x md) (handles_placed f d n o)

module _ (m : RecordMap) (x : Session) (field : Field) (are : AreRecords m) (sound : IsSound (nodes_of m)) where
  removal_follows : (dir name file : List ℕ) → IsRemoval (nodes_of m) dir name file → value_of (records_after_all m (removal_effects file dir name)) x field ≡ value_after_all x field (value_of m x field) (removal_effects file dir name)
  removal_follows dir name file r =
      let e : Effect = SetChild dir name None in
      let there : is_some (get (records_after m e) file) ≡ true = still_there m dir name None file ∙ child_recorded m dir name file sound r.named in
      let unused : handles_of (node_of (get (records_after m e) file)) ≡ [] = handles_after m e (handles_linked dir name None (node_of (get m dir))) file ∙ ap handles_of (sym (node_there m file)) ∙ r.unused in
      follow (records_after m e) x field (RemoveNode file) (after_kept m e are) there (removed_stay x file (node_of (get (records_after m e) file)) unused)
      ∙ ap (λ v. value_after x field v (RemoveNode file)) (follow m x field e are (recorded_as m dir Dir r.lives) (linked_stay x dir name None (node_of (get m dir))))

  moving_follows : (sdir sname ddir dname file : List ℕ) → IsMoving (nodes_of m) sdir sname ddir dname file → value_of (records_after_all m (move_effects file sdir sname ddir dname)) x field ≡ value_after_all x field (value_of m x field) (move_effects file sdir sname ddir dname)
  moving_follows sdir sname ddir dname file r =
      let link : Effect = SetChild ddir dname (Some file) in
      let cut : Effect = SetChild sdir sname None in
      let place : Effect = SetParent file ddir dname in
      let n : RecordMap = records_after m link in
      let k : RecordMap = records_after n cut in
      let from : is_some (get n sdir) ≡ true = still_there m ddir dname (Some file) sdir ∙ recorded_as m sdir Dir r.lives in
      let there : is_some (get k file) ≡ true = still_there n sdir sname None file ∙ still_there m ddir dname (Some file) file ∙ child_recorded m sdir sname file sound r.named in
      follow k x field place (after_kept n cut (after_kept m link are)) there (placed_stay x file ddir dname (node_of (get k file)))
      ∙ ap (λ v. value_after x field v place)
      (follow n x field cut (after_kept m link are) from (linked_stay x sdir sname None (node_of (get n sdir)))
      ∙ ap (λ v. value_after x field v cut) (follow m x field link are (recorded_as m ddir Dir r.lives_there) (linked_stay x ddir dname (Some file) (node_of (get m ddir)))))

-- ## The operations

-- the reply is that it was done, or there are no effects
was_deleted : (dir name file : List ℕ) (r : Reply) → (r ≡ reply.Deleted) ⊎ (led_effects (op.Delete dir name) file r ≡ [])
was_deleted dir name file reply.Deleted = inl refl
was_deleted dir name file r = inr refl

was_renamed : (sdir sname ddir dname file : List ℕ) (r : Reply) → (r ≡ reply.Renamed) ⊎ (led_effects (op.Rename sdir sname ddir dname) file r ≡ [])
was_renamed sdir sname ddir dname file reply.Renamed = inl refl
was_renamed sdir sname ddir dname file r = inr refl

-- what holds of no effects, of a removal's and of a move's, holds of those of the operation
pub each_led : (P : List Effect → Type 0) (m : RecordMap) (by : Session) (o : Op) (file : List ℕ) (r : Reply) → IsLed m by o file r → P []
    → ((dir name : List ℕ) → o ≡ op.Delete dir name → IsRemoval (nodes_of m) dir name file → P (removal_effects file dir name))
    → ((sdir sname ddir dname : List ℕ) → o ≡ op.Rename sdir sname ddir dname → IsMoving (nodes_of m) sdir sname ddir dname file → P (move_effects file sdir sname ddir dname))
    → P (led_effects o file r)
each_led P m by (op.Delete dir name) file r h none gone moved = elim (was_deleted dir name file r) as (λ _. P (led_effects (op.Delete dir name) file r)) [
  | inl q ↦ subst (λ a. P (led_effects (op.Delete dir name) file a)) (sym q) (gone dir name refl (removal (nodes_of m) dir name file (get (nodes_of m) dir) refl h.named (h.reply ∙ q)))
  | inr q ↦ subst P (sym q) none
]
each_led P m by (op.Rename sdir sname ddir dname) file r h none gone moved = elim (was_renamed sdir sname ddir dname file r) as (λ _. P (led_effects (op.Rename sdir sname ddir dname) file r)) [
  | inl q ↦ subst (λ a. P (led_effects (op.Rename sdir sname ddir dname) file a)) (sym q) (moved sdir sname ddir dname refl (moving (nodes_of m) sdir sname ddir dname file (get (nodes_of m) sdir) refl h.moves h.named (h.reply ∙ q)))
  | inr q ↦ subst P (sym q) none
]
each_led P m by (op.Lookup dir name) file r h none gone moved = let p = h.moves in absurd (cc)
each_led P m by (op.List dir) file r h none gone moved = let p = h.moves in absurd (cc)
each_led P m by (op.Kind f) file r h none gone moved = let p = h.moves in absurd (cc)
each_led P m by (op.Info f) file r h none gone moved = let p = h.moves in absurd (cc)
each_led P m by (op.Create dir name k id) file r h none gone moved = let p = h.moves in absurd (cc)
each_led P m by (op.OpenFile f n modes) file r h none gone moved = let p = h.moves in absurd (cc)
each_led P m by (op.Close f n) file r h none gone moved = let p = h.moves in absurd (cc)
each_led P m by (op.Set f n size stamp) file r h none gone moved = let p = h.moves in absurd (cc)
each_led P m by (op.Reap f session) file r h none gone moved = let p = h.moves in absurd (cc)

pub led_follows : LedValuesFollow
led_follows m by x o file r field h =
    each_led (λ es. value_of (records_after_all m es) x field ≡ value_after_all x field (value_of m x field) es) m by o file r h refl
    (λ dir name is d. removal_follows m x field h.records h.space dir name file d)
    (λ sdir sname ddir dname is d. moving_follows m x field h.records h.space sdir sname ddir dname file d)

-- no file gets handles or loses some
pub led_handles : (m : RecordMap) (by : Session) (o : Op) (file : List ℕ) (r : Reply) → IsLed m by o file r → (f : List ℕ) → handles_of (node_of (get (after_led m o file r) f)) ≡ handles_of (node_of (get m f))
led_handles m by o file r h f =
    each_led (λ es. handles_of (node_of (get (records_after_all m es) f)) ≡ handles_of (node_of (get m f))) m by o file r h refl
    (λ dir name is d.
    let e : Effect = SetChild dir name None in
    let linked : (g : List ℕ) → handles_of (node_of (get (records_after m e) g)) ≡ handles_of (node_of (get m g)) = handles_after m e (handles_linked dir name None (node_of (get m dir))) in
    handles_after (records_after m e) (RemoveNode file) (sym (linked file ∙ ap handles_of (sym (node_there m file)) ∙ d.unused)) f ∙ linked f)
    (λ sdir sname ddir dname is d.
    let link : Effect = SetChild ddir dname (Some file) in
    let cut : Effect = SetChild sdir sname None in
    let n : RecordMap = records_after m link in
    let k : RecordMap = records_after n cut in
    handles_after k (SetParent file ddir dname) (handles_placed file ddir dname (node_of (get k file))) f
    ∙ handles_after n cut (handles_linked sdir sname None (node_of (get n sdir))) f
    ∙ handles_after m link (handles_linked ddir dname (Some file) (node_of (get m ddir))) f)

-- ## What lives

-- what an effect that makes no file leaves was there before
not_born : (e : Effect) (o : Option Record) → is_birth e ≡ false → is_some (record_change e o) ≡ true → is_some o ≡ true
not_born e (Some r) b h = refl
not_born (SetChild d n to) None b h = absurd (cc)
not_born (SetParent f d n) None b h = absurd (cc)
not_born (NewNode f k d n) None b h = absurd (cc)
not_born (RemoveNode f) None b h = absurd (cc)
not_born (AddHandle f x k md) None b h = absurd (cc)
not_born (RemoveHandle f x k) None b h = absurd (cc)
not_born (SetInfo f size stamp) None b h = absurd (cc)

there_before : (m : RecordMap) (e : Effect) (id : List ℕ) → is_birth e ≡ false → is_some (get (records_after m e) id) ≡ true → is_some (get m id) ≡ true
there_before m e id b h = within (eq_by_cmp (slice_cmp nat_cmp) id f) refl (ap (λ (o : Option Record). is_some o) (sym (get_with_at m f (record_change e (get m f)) id)) ∙ h)
  where
    f : List ℕ
    f = changed_file e

    within : (c : Bool) → eq_by_cmp (slice_cmp nat_cmp) id f ≡ c → is_some (cond c (record_change e (get m f)) (get m id)) ≡ true → is_some (get m id) ≡ true
    within true t s = ap (λ x. is_some (get m x)) (key_is id f t) ∙ not_born e (get m f) b s
    within false t s = s

all_before : (m : RecordMap) (es : List Effect) (id : List ℕ) → list_any is_birth es ≡ false → is_some (get (records_after_all m es) id) ≡ true → is_some (get m id) ≡ true
all_before m [] id b h = h
all_before m (e ∷ es) id b h = let q = neither (is_birth e) (list_any is_birth es) b in there_before m e id q.0 (all_before (records_after m e) es id q.1 h)

all_next : (m : RecordMap) (es : List Effect) (id : List ℕ) → list_any is_birth es ≡ false → is_some (get (records_after_all m es) id) ≡ true → next_of (get (records_after_all m es) id) ≡ next_of (get m id)
all_next m [] id b h = refl
all_next m (e ∷ es) id b h =
    let q = neither (is_birth e) (list_any is_birth es) b in
    all_next (records_after m e) es id q.1 h ∙ effect_next m e id (all_before (records_after m e) es id q.1 h)

-- a record that stands then has the next number that it had
pub led_next : (m : RecordMap) (by : Session) (o : Op) (file : List ℕ) (r : Reply) → IsLed m by o file r → (id : List ℕ) → is_some (get (after_led m o file r) id) ≡ true → next_of (get (after_led m o file r) id) ≡ next_of (get m id)
led_next m by o file r h id =
    each_led (λ es. is_some (get (records_after_all m es) id) ≡ true → next_of (get (records_after_all m es) id) ≡ next_of (get m id)) m by o file r h (λ t. refl)
    (λ dir name is d. all_next m (removal_effects file dir name) id refl)
    (λ sdir sname ddir dname is d. all_next m (move_effects file sdir sname ddir dname) id refl)

unless_gone : (b : Bool) (l : Option Kind) (k : Kind) → cond b None l ≡ Some k → l ≡ Some k
unless_gone true l k h = absurd (cc)
unless_gone false l k h = h

-- what lives then lived, and was what it is
pub led_lives : (m : RecordMap) (by : Session) (o : Op) (file : List ℕ) (r : Reply) → IsLed m by o file r → (id : List ℕ) (k : Kind) → kind_of (node_of (get (after_led m o file r) id)) ≡ Some k → kind_of (node_of (get m id)) ≡ Some k
led_lives m by o file r h id k =
    each_led (λ es. kind_of (node_of (get (records_after_all m es) id)) ≡ Some k → kind_of (node_of (get m id)) ≡ Some k) m by o file r h (λ t. t)
    (λ dir name is d t.
    let told : value.Life (kind_of (node_of (get (records_after_all m (removal_effects file dir name)) id))) ≡ value.Life (cond (same id file) None (kind_of (node_of (get m id)))) = removal_follows m by (Life id) h.records h.space dir name file d in
    let kind : kind_of (node_of (get (records_after_all m (removal_effects file dir name)) id)) ≡ cond (same id file) None (kind_of (node_of (get m id))) = cc told in
    unless_gone (same id file) (kind_of (node_of (get m id))) k (sym kind ∙ t))
    (λ sdir sname ddir dname is d t.
    let told : value.Life (kind_of (node_of (get (records_after_all m (move_effects file sdir sname ddir dname)) id))) ≡ value.Life (kind_of (node_of (get m id))) = moving_follows m by (Life id) h.records h.space sdir sname ddir dname file d in
    let kind : kind_of (node_of (get (records_after_all m (move_effects file sdir sname ddir dname)) id)) ≡ kind_of (node_of (get m id)) = cc told in
    sym kind ∙ t)

-- ## What stays

name_unseen : (x : Session) (field : Field) (kind : LeaseKind) (d n : List ℕ) (to : Option (List ℕ)) (v : Value) → meets field kind (Child d n) Exclusive ≡ false → value_after x field v (SetChild d n to) ≡ v
name_unseen x field kind d n to v h = value_stays x field v (SetChild d n to) (child_untouched field kind d n to h)

either_way : {X : Type 0} (b : Bool) (x y : X) → (b ≡ true → x ≡ y) → cond b x y ≡ y
either_way true x y h = h refl
either_way false x y h = refl

no_child : (o : Option Node) (n : List ℕ) → children_of o ≡ [] → child_of o n ≡ None
no_child None n h = refl
no_child (Some x) n h = ap (λ cs. child_at cs n) h

-- a file without children and handles tells what none tells, but its life, its size and its stamp
removed_unseen : (m : RecordMap) (x : Session) (field : Field) (kind : LeaseKind) (file : List ℕ) → children_of (node_of (get m file)) ≡ [] → handles_of (node_of (get m file)) ≡ [] → meets field kind (Life file) Exclusive ≡ false
    → (field ≡ Info file) ⊎ (value_after x field (value_of m x field) (RemoveNode file) ≡ value_of m x field)
removed_unseen m x (Life f) kind file c u h = inr (value_stays x (Life f) (value_of m x (Life f)) (RemoveNode file) (life_untouched f kind file h))
removed_unseen m x (Child f n) kind file c u h =
    inr (ap value.Child (either_way (same f file) None (child_of (node_of (get m f)) n) (λ t. sym (no_child (node_of (get m f)) n (ap (λ g. children_of (node_of (get m g))) (same_is f file t) ∙ c)))))
removed_unseen m x (Names f) kind file c u h =
    inr (ap value.Names (either_way (same f file) [] (names_of (children_of (node_of (get m f)))) (λ t. sym (ap names_of (ap (λ g. children_of (node_of (get m g))) (same_is f file t) ∙ c)))))
removed_unseen m x (Info f) kind file c u h = elim (same f file) as (λ b. same f file ≡ b → (Info f ≡ Info file) ⊎ (value_after x (Info f) (value_of m x (Info f)) (RemoveNode file) ≡ value_of m x (Info f))) [
  | true ↦ λ t. inl (ap Info (same_is f file t))
  | false ↦ λ t. inr (value_stays x (Info f) (value_of m x (Info f)) (RemoveNode file) t)
] refl
removed_unseen m x (Own f) kind file c u h =
    inr (ap value.Own (either_way (same f file) [] (own_of x (handles_of (node_of (get m f)))) (λ t. sym (ap (own_of x) (ap (λ g. handles_of (node_of (get m g))) (same_is f file t) ∙ u)))))
removed_unseen m x (SelfW f md) kind file c u h = inr refl
removed_unseen m x (Other f md) kind file c u h = inr refl

-- what is removed has no node
none_left : (m : RecordMap) (file : List ℕ) → node_of (get (records_after m (RemoveNode file)) file) ≡ None
none_left m file = ap node_of (get_with_at m file None file ∙ ap (λ b. cond b None (get m file)) (tied file file ∙ same_self file))

size_of_none : (m : RecordMap) (field : Field) (file : List ℕ) → node_of (get m file) ≡ None → field ≡ Info file → IsOfNone m field
size_of_none m field file none is = subst (IsOfNone m) (sym is) none

module _ (m : RecordMap) (by x : Session) (field : Field) (kind : LeaseKind) (are : AreRecords m) (sound : IsSound (nodes_of m)) where
  -- what the session sees after these effects
  abbrev Stays : List Effect → Type 0
  Stays es = IsOfNone (records_after_all m es) field ⊎ (value_of (records_after_all m es) x field ≡ value_of m x field)

  removal_stays : (dir name file : List ℕ) → IsRemoval (nodes_of m) dir name file → Free m by field kind (script_of (op.Delete dir name)) → Stays (removal_effects file dir name)
  removal_stays dir name file r free =
      let met = removal_free m by field kind dir name file r free in
      let bare : children_of (node_of (get m file)) ≡ [] = ap children_of (sym (node_there m file)) ∙ r.childless in
      let unused : handles_of (node_of (get m file)) ≡ [] = ap handles_of (sym (node_there m file)) ∙ r.unused in
      elim (removed_unseen m x field kind file bare unused met.1) as (λ _. Stays (removal_effects file dir name)) [
        | inl is ↦ inl (size_of_none (records_after_all m (removal_effects file dir name)) field file (none_left (records_after m (SetChild dir name None)) file) is)
        | inr stays ↦ inr (removal_follows m x field are sound dir name file r ∙ ap (λ v. value_after x field v (RemoveNode file)) (name_unseen x field kind dir name None (value_of m x field) met.0) ∙ stays)
      ]

  moving_stays : (sdir sname ddir dname file : List ℕ) → IsMoving (nodes_of m) sdir sname ddir dname file → Free m by field kind (script_of (op.Rename sdir sname ddir dname)) → Stays (move_effects file sdir sname ddir dname)
  moving_stays sdir sname ddir dname file r free =
      let met = moving_free m by field kind sdir sname ddir dname file r free in
      let place : Effect = SetParent file ddir dname in
      inr (moving_follows m x field are sound sdir sname ddir dname file r
      ∙ ap (λ v. value_after x field (value_after x field v (SetChild sdir sname None)) place) (name_unseen x field kind ddir dname (Some file) (value_of m x field) met.1)
      ∙ ap (λ v. value_after x field v place) (name_unseen x field kind sdir sname None (value_of m x field) met.0)
      ∙ value_stays x field (value_of m x field) place refl)

pub led_stays : LedValuesStay
led_stays m by x o file r field kind h free =
    each_led (Stays m by x field kind h.records h.space) m by o file r h (inr refl)
    (λ dir name is d. removal_stays m by x field kind h.records h.space dir name file d (subst (λ o. Free m by field kind (script_of o)) is free))
    (λ sdir sname ddir dname is d. moving_stays m by x field kind h.records h.space sdir sname ddir dname file d (subst (λ o. Free m by field kind (script_of o)) is free))
