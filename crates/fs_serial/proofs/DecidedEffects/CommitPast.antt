-- A delete or a rename that commits goes past what is decided for other sessions.
use Rattle.std.proofs.Common.{◌≡◌, ℕ, ◌==◌, true, false, List, [], ◌∷◌, refl, sym, ap, ◌∙◌, subst, inl, inr}
use Rattle.std.specs.Prelude.{Option, Some, None}
use Rattle.std.specs.FinMap.{get}
use Rattle.fs_ident.specs.In.{In}
use Rattle.fs_ident.specs.declared.actor.Session.{Session}
use Rattle.fs_ident.specs.declared.kind.Kind.TheVariants.{Dir}
use Rattle.fs_field.specs.declared.asked.Need.{Need}
use Rattle.fs_field.specs.declared.asked.Need.TheVariants as need
use Rattle.fs_field.specs.declared.effect.Effect.{Effect}
use Rattle.fs_field.specs.declared.effect.Effect.TheVariants.{SetChild, SetParent, NewNode, RemoveNode, AddHandle, RemoveHandle, SetInfo}
use Rattle.fs_field.specs.declared.field.Field.TheVariants.{Life, Child}
use Rattle.fs_field.specs.declared.lease_kind.LeaseKind.TheVariants.{Exclusive}
use Rattle.fs_field.specs.declared.row.Row.{Row}
use Rattle.fs_field.specs.declared.used.Use.{Use}
use Rattle.fs_model.specs.Namespace.{NodeMap}
use Rattle.fs_model.specs.Sound.{IsTree, kind_of, parent_of}
use Rattle.fs_model.specs.declared.op.Op.{Op}
use Rattle.fs_model.specs.declared.op.Op.TheVariants as op
use Rattle.fs_model.specs.declared.reply.Reply.{Reply}
use Rattle.fs_record.specs.LedEffects.{led_effects}
use Rattle.fs_record.specs.Records.{RecordMap, nodes_of}
use Rattle.fs_record.specs.ValueOf.{value_of}
use Rattle.fs_client.specs.Led.{file_known, is_led}
use Rattle.fs_txn.specs.Decided.{IsApart, IsDecided}
use Rattle.fs_txn.specs.Guards.{IsGuarded}
use Rattle.fs_view.specs.Gone.{known_with}
use Rattle.fs_view.specs.LedLaws.{IsLed}
use Rattle.fs_view.specs.Walk.{Known, always, walk}
use Rattle.fs_view.proofs.LedValues.{IsMoving, IsRemoval, each_led}
use Rattle.fs_serial.specs.Pending.{AllStand, IsCovered}
use Rattle.fs_serial.specs.Rows.{NoRowsConflict}
use Rattle.fs_serial.proofs.DecidedEffects.AdmitPast.{life_apart, name_apart, named}
use Rattle.fs_serial.proofs.LedOperations.MovedItems.{HasMoved, HasPlace, moved_items, placed_items}

dir_in : Option (List ℕ × List ℕ) → List ℕ
dir_in None = []
dir_in (Some p) = p.0

name_in : Option (List ℕ × List ℕ) → List ℕ
name_in None = []
name_in (Some p) = p.1

same_dir : (o p : List ℕ × List ℕ) → Some o ≡ Some p → o.0 ≡ p.0
unfolding dir_in
same_dir o p h = ap dir_in h

same_name : (o p : List ℕ × List ℕ) → Some o ≡ Some p → o.1 ≡ p.1
unfolding name_in
same_name o p h = ap name_in h

nowhere : (p : List ℕ × List ℕ) → None ≡ Some p → ⊥
nowhere p h = absurd (cc)

module _ (m : NodeMap) (rows : List Row) (by y : Session) (uses : List Use) (free : NoRowsConflict rows) (other : (y.0 == by.0) ≡ false) (stand : AllStand rows by uses) where
  -- a file that goes
  file_goes : (d : Effect) (file : List ℕ) → IsDecided d → IsGuarded rows m y d → IsCovered uses (need.Lease (Life file) Exclusive) → IsApart d (RemoveNode file)
  file_goes (SetChild a b None) file k g c = λ s. life_apart rows by y uses free other stand a file _ g.1 c s
  file_goes (SetParent f a b) file k g c = λ s. life_apart rows by y uses free other stand f file _ g.1 c s
  file_goes (RemoveNode f) file k g c = λ s. life_apart rows by y uses free other stand f file _ (g.1).0 c s
  file_goes (SetChild a b (Some z)) file k g c = absurd k
  file_goes (NewNode f a b z) file k g c = absurd k
  file_goes (AddHandle f a b z) file k g c = absurd k
  file_goes (RemoveHandle f a b) file k g c = absurd k
  file_goes (SetInfo f a b) file k g c = absurd k

  -- a file that comes to another place from this one
  file_moves : (d : Effect) (file sdir sname dir name : List ℕ) → IsDecided d → IsGuarded rows m y d → ((f : List ℕ) → d ≡ RemoveNode f → get m f ≡ None) → parent_of (get m file) ≡ Some (sdir, sname) → IsCovered uses (need.Lease (Child sdir sname) Exclusive) → IsApart d (SetParent file dir name)
  file_moves (SetChild a b None) file sdir sname dir name k g gone at c = λ s. tt
  file_moves (SetParent f a b) file sdir sname dir name k g gone at c = λ s.
      let place : Some ((g.0).dir, (g.0).name) ≡ Some (sdir, sname) = sym (g.0).place ∙ ap (λ z. parent_of (get m z)) s ∙ at in
      name_apart rows by y uses free other stand (g.0).dir (g.0).name sdir sname _ (g.0).row c (same_dir ((g.0).dir, (g.0).name) (sdir, sname) place) (same_name ((g.0).dir, (g.0).name) (sdir, sname) place)
  file_moves (RemoveNode f) file sdir sname dir name k g gone at c = λ s.
      absurd (nowhere (sdir, sname) (ap parent_of (sym (gone f refl)) ∙ ap (λ z. parent_of (get m z)) s ∙ at))
  file_moves (SetChild a b (Some z)) file sdir sname dir name k g gone at c = absurd k
  file_moves (NewNode f a b z) file sdir sname dir name k g gone at c = absurd k
  file_moves (AddHandle f a b z) file sdir sname dir name k g gone at c = absurd k
  file_moves (RemoveHandle f a b) file sdir sname dir name k g gone at c = absurd k
  file_moves (SetInfo f a b) file sdir sname dir name k g gone at c = absurd k

  module _ (d : Effect) (decided : IsDecided d) (guarded : IsGuarded rows m y d) (gone : (f : List ℕ) → d ≡ RemoveNode f → get m f ≡ None) where
    lives_on : (dir : List ℕ) → kind_of (get m dir) ≡ Some Dir → d ≡ RemoveNode dir → ⊥
    lives_on dir k e = let wrong : None ≡ Some Dir = ap kind_of (sym (gone dir e)) ∙ k in absurd (cc)

    named_apart : (dir name : List ℕ) (to : Option (List ℕ)) → kind_of (get m dir) ≡ Some Dir → IsCovered uses (need.Lease (Child dir name) Exclusive) → IsApart d (SetChild dir name to)
    named_apart dir name to k c = named rows by y uses free other stand m d dir name to decided guarded (lives_on dir k) c

    removal_apart : (dir name file : List ℕ) → IsRemoval m dir name file → IsCovered uses (need.Lease (Child dir name) Exclusive) → IsCovered uses (need.Lease (Life file) Exclusive) → (e : Effect) → In e (SetChild dir name None ∷ RemoveNode file ∷ []) → IsApart d e
    removal_apart dir name file r c l e (inl q) = subst (IsApart d) (sym q) (named_apart dir name None r.lives c)
    removal_apart dir name file r c l e (inr (inl q)) = subst (IsApart d) (sym q) (file_goes d file decided guarded l)
    removal_apart dir name file r c l e (inr (inr z)) = absurd z

    moving_apart : (sdir sname ddir dname file : List ℕ) → IsTree m → IsMoving m sdir sname ddir dname file → IsCovered uses (need.Lease (Child sdir sname) Exclusive) → IsCovered uses (need.Lease (Child ddir dname) Exclusive)
        → (e : Effect) → In e (SetChild ddir dname (Some file) ∷ SetChild sdir sname None ∷ SetParent file ddir dname ∷ []) → IsApart d e
    moving_apart sdir sname ddir dname file tree r c l e (inl q) = subst (IsApart d) (sym q) (named_apart ddir dname (Some file) r.lives_there l)
    moving_apart sdir sname ddir dname file tree r c l e (inr (inl q)) = subst (IsApart d) (sym q) (named_apart sdir sname None r.lives c)
    moving_apart sdir sname ddir dname file tree r c l e (inr (inr (inl q))) = subst (IsApart d) (sym q) (file_moves d file sdir sname ddir dname decided guarded gone ((tree.agreeing sdir sname file).0 r.named) c)
    moving_apart sdir sname ddir dname file tree r c l e (inr (inr (inr z))) = absurd z

-- all its effects
module _ (m : RecordMap) (rows : List Row) (by y : Session) (uses : List Use) (free : NoRowsConflict rows) (other : (y.0 == by.0) ≡ false) (stand : AllStand rows by uses) (d : Effect) (decided : IsDecided d) (guarded : IsGuarded rows (nodes_of m) y d) (gone : (f : List ℕ) → d ≡ RemoveNode f → get (nodes_of m) f ≡ None) where
  abbrev known : Known
  known = known_with (value_of m by)

  abbrev Covers : Op → Type 0
  Covers o = (n : Need) → In n (walk known always o).items → IsCovered uses n

  pub commit_apart : (o : Op) (r : Reply) (file : List ℕ) → IsLed m by o file r → is_led o r ≡ true → (walk known always o).reply ≡ Some r → file_known known o ≡ Some file → Covers o → (e : Effect) → In e (led_effects o file r) → IsApart d e
  commit_apart o r file h is w f covered =
      let moved : HasMoved known always o file = moved_items known always o r file is w f in
      let place : HasPlace known always o = placed_items known always o r file is w f in
      each_led (λ es. (e : Effect) → In e es → IsApart d e) m by o file r h (λ e i. absurd i)
      (λ dir name q rem.
      let c : Covers (op.Delete dir name) = subst Covers q covered in
      let k = subst (λ x. HasMoved known always x file) q moved in
      removal_apart (nodes_of m) rows by y uses free other stand d decided guarded gone dir name file rem (c _ k.child) (c _ k.life))
      (λ sdir sname ddir dname q move.
      let c : Covers (op.Rename sdir sname ddir dname) = subst Covers q covered in
      let k = subst (λ x. HasMoved known always x file) q moved in
      moving_apart (nodes_of m) rows by y uses free other stand d decided guarded gone sdir sname ddir dname file h.space.tree move (c _ k.child) (c _ (subst (HasPlace known always) q place)))
