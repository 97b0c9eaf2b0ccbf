-- An entry that is admitted goes past what is decided for other sessions.
use Rattle.std.proofs.Common.{◌≡◌, ℕ, ◌==◌, ◌&&◌, true, false, List, refl, sym, ap, ap₂, ◌∙◌, subst, inl, inr}
use Rattle.std.specs.Prelude.{Option, Some, None}
use Rattle.std.specs.FinMap.{get}
use Rattle.fs_ident.specs.Ident.{same}
use Rattle.fs_ident.specs.In.{In}
use Rattle.fs_ident.specs.declared.actor.Session.{Session}
use Rattle.fs_ident.specs.declared.kind.Kind.{Kind}
use Rattle.fs_ident.specs.declared.kind.Kind.TheVariants.{File, Dir}
use Rattle.fs_ident.proofs.Same.{same_self}
use Rattle.fs_field.specs.After.{changed_file}
use Rattle.fs_field.specs.Conflict.{meets}
use Rattle.fs_field.specs.declared.asked.Need.{Need}
use Rattle.fs_field.specs.declared.asked.Need.TheVariants as need
use Rattle.fs_field.specs.declared.effect.Effect.{Effect}
use Rattle.fs_field.specs.declared.effect.Effect.TheVariants.{SetChild, SetParent, NewNode, RemoveNode, AddHandle, RemoveHandle, SetInfo}
use Rattle.fs_field.specs.declared.field.Field.{Field}
use Rattle.fs_field.specs.declared.field.Field.TheVariants.{Life, Child, Own}
use Rattle.fs_field.specs.declared.lease_kind.LeaseKind.{LeaseKind}
use Rattle.fs_field.specs.declared.lease_kind.LeaseKind.TheVariants.{Exclusive}
use Rattle.fs_field.specs.declared.row.Row.{Row}
use Rattle.fs_field.specs.declared.used.Use.{Use}
use Rattle.fs_model.specs.Namespace.{NodeMap}
use Rattle.fs_model.specs.Sound.{child_of, kind_of}
use Rattle.fs_model.specs.declared.node.Node.{Node}
use Rattle.fs_model.specs.declared.op.Op.{Op}
use Rattle.fs_model.specs.declared.op.Op.TheVariants as op
use Rattle.fs_model.specs.declared.reply.Reply.{Reply}
use Rattle.fs_model.specs.declared.reply.Reply.TheVariants as reply
use Rattle.fs_record.specs.Effects.{effects_of}
use Rattle.fs_record.specs.ValueOf.{value_at}
use Rattle.fs_txn.specs.Decided.{IsApart, IsDecided}
use Rattle.fs_txn.specs.Guards.{HasLocked, IsGuarded}
use Rattle.fs_txn.proofs.Guarded.{turned}
use Rattle.fs_view.specs.Script.{ask_own, ask_place, ask_size, close_with, new_file, no_dir, no_file, no_set, taken_name, unless}
use Rattle.fs_view.specs.Told.{own_told}
use Rattle.fs_view.specs.Walk.{always, known_in, walk, walk_along}
use Rattle.fs_view.proofs.Unseen.{child_untouched, life_untouched}
use Rattle.fs_serial.specs.Pending.{AllStand, IsCovered}
use Rattle.fs_serial.specs.Rows.{NoRowsConflict}
use Rattle.fs_serial.proofs.Admission.AdmitOthers.{no_item_meets}

-- ## What a new file stands on

module _ (m : NodeMap) (by : Session) (dir name id : List ℕ) where
  -- its name, and its life
  abbrev HasBoth : List Need → Type 0
  HasBoth items = In (need.Lease (Child dir name) Exclusive) items × In (need.Lease (Life id) Exclusive) items

  place_items : (c : Option (List ℕ)) → (walk_along (known_in m by) always (unless (taken_name (Some c)) (new_file dir (Some id)))).reply ≡ Some reply.Made → In (need.Lease (Life id) Exclusive) (walk_along (known_in m by) always (unless (taken_name (Some c)) (new_file dir (Some id)))).items
  place_items (Some x) h = absurd (cc)
  place_items None h = inl refl

  dir_items : (k : Option Kind) → (walk_along (known_in m by) always (unless (no_dir (Some k)) (ask_place dir name (Some id)))).reply ≡ Some reply.Made → HasBoth (walk_along (known_in m by) always (unless (no_dir (Some k)) (ask_place dir name (Some id)))).items
  dir_items None h = absurd (cc)
  dir_items (Some File) h = absurd (cc)
  dir_items (Some Dir) h = (inl refl, inr (place_items (child_of (get m dir) name) h))

  made_items : (kind : Kind) → (walk (known_in m by) always (op.Create dir name kind (Some id))).reply ≡ Some reply.Made → HasBoth (walk (known_in m by) always (op.Create dir name kind (Some id))).items
  made_items kind h = let q = dir_items (kind_of (get m dir)) h in (inr q.0, inr q.1)

-- ## What is gone has no such reply

made_living : (m : NodeMap) (by : Session) (dir name id : List ℕ) (kind : Kind) → get m dir ≡ None → (walk (known_in m by) always (op.Create dir name kind (Some id))).reply ≡ Some reply.Made → ⊥
made_living m by dir name id kind none h = let q = subst (λ (o : Option Node). (walk_along (known_in m by) always (unless (no_dir (Some (kind_of o))) (ask_place dir name (Some id)))).reply ≡ Some reply.Made) none h in absurd (cc)

module _ (rows : List Row) (by y : Session) (uses : List Use) (free : NoRowsConflict rows) (other : (y.0 == by.0) ≡ false) (stand : AllStand rows by uses) where
  -- what is covered meets no locked row of the other session
  unmet : (g : Field) (w : LeaseKind) (f : Field) → HasLocked rows y g w → IsCovered uses (need.Lease f Exclusive) → (k : LeaseKind) × (meets g k f Exclusive ≡ false)
  unmet g w f a c =
      let apart : (by.0 == a.row.session.0) ≡ false = ap (λ (s : Session). by.0 == s.0) a.session ∙ turned y.0 by.0 other in
      (a.row.kind, ap (λ z. meets z a.row.kind f Exclusive) (sym a.field) ∙ no_item_meets rows by a.row uses (need.Lease f Exclusive) free a.stands apart stand c)

  pub life_apart : (f id : List ℕ) (w : LeaseKind) → HasLocked rows y (Life f) w → IsCovered uses (need.Lease (Life id) Exclusive) → f ≡ id → ⊥
  life_apart f id w a c e =
      let q = unmet (Life f) w (Life id) a c in
      let wrong : true ≡ false = sym (same_self f) ∙ ap (same f) e ∙ life_untouched f q.0 id q.1 in
      absurd (cc)

  pub name_apart : (d n dir name : List ℕ) (w : LeaseKind) → HasLocked rows y (Child d n) w → IsCovered uses (need.Lease (Child dir name) Exclusive) → d ≡ dir → n ≡ name → ⊥
  name_apart d n dir name w a c e t =
      let q = unmet (Child d n) w (Child dir name) a c in
      let wrong : true ≡ false = sym (ap₂ (λ x z. x && z) (same_self d) (same_self n)) ∙ ap₂ (λ x z. same d x && same n z) e t ∙ child_untouched (Child d n) q.0 dir name None q.1 in
      absurd (cc)

  module _ (held : NodeMap) where
    -- a name that is set
    pub named : (d : Effect) (dir name : List ℕ) (id : Option (List ℕ)) → IsDecided d → IsGuarded rows held y d → (d ≡ RemoveNode dir → ⊥) → IsCovered uses (need.Lease (Child dir name) Exclusive) → IsApart d (SetChild dir name id)
    named (SetChild a b None) dir name id k g gone c = λ s t. name_apart a b dir name _ g.0 c s t
    named (SetParent f a b) dir name id k g gone c = λ s. tt
    named (RemoveNode f) dir name id k g gone c = λ s. absurd (gone (ap RemoveNode s))
    named (SetChild a b (Some z)) dir name id k g gone c = absurd k
    named (NewNode f a b z) dir name id k g gone c = absurd k
    named (AddHandle f a b z) dir name id k g gone c = absurd k
    named (RemoveHandle f a b) dir name id k g gone c = absurd k
    named (SetInfo f a b) dir name id k g gone c = absurd k

    -- the new file
    born : (d : Effect) (id : List ℕ) (kind : Kind) (dir name : List ℕ) → IsDecided d → IsGuarded rows held y d → IsCovered uses (need.Lease (Life id) Exclusive) → IsApart d (NewNode id kind dir name)
    born (SetChild a b None) id kind dir name k g c = λ s. life_apart a id _ g.1 c s
    born (SetParent f a b) id kind dir name k g c = λ s. life_apart f id _ g.1 c s
    born (RemoveNode f) id kind dir name k g c = λ s. life_apart f id _ (g.1).0 c s
    born (SetChild a b (Some z)) id kind dir name k g c = absurd k
    born (NewNode f a b z) id kind dir name k g c = absurd k
    born (AddHandle f a b z) id kind dir name k g c = absurd k
    born (RemoveHandle f a b) id kind dir name k g c = absurd k
    born (SetInfo f a b) id kind dir name k g c = absurd k

-- neither its name nor its place nor its life
abbrev pub IsInside : Effect → Type 0
IsInside (AddHandle file session h modes) = Unit {0}
IsInside (RemoveHandle file session h) = Unit {0}
IsInside (SetInfo file size stamp) = Unit {0}
IsInside e = ⊥

-- a change inside a file that does not go
pub inside_apart : (d e : Effect) → IsDecided d → IsInside e → (d ≡ RemoveNode (changed_file e) → ⊥) → IsApart d e
inside_apart (SetChild a b None) (AddHandle f x y z) k i gone = λ s. tt
inside_apart (SetChild a b None) (RemoveHandle f x y) k i gone = λ s. tt
inside_apart (SetChild a b None) (SetInfo f x y) k i gone = λ s. tt
inside_apart (SetParent a b c) (AddHandle f x y z) k i gone = λ s. tt
inside_apart (SetParent a b c) (RemoveHandle f x y) k i gone = λ s. tt
inside_apart (SetParent a b c) (SetInfo f x y) k i gone = λ s. tt
inside_apart (RemoveNode a) e k i gone = λ s. absurd (gone (ap RemoveNode s))
inside_apart (SetChild a b (Some z)) e k i gone = absurd k
inside_apart (NewNode a b c z) e k i gone = absurd k
inside_apart (AddHandle a b c z) e k i gone = absurd k
inside_apart (RemoveHandle a b c) e k i gone = absurd k
inside_apart (SetInfo a b c) e k i gone = absurd k
inside_apart (SetChild a b None) e k i gone = absurd i
inside_apart (SetParent a b c) e k i gone = absurd i

-- ## Its effects

module _ (m : NodeMap) (rows : List Row) (by y : Session) (uses : List Use) (free : NoRowsConflict rows) (other : (y.0 == by.0) ≡ false) (stand : AllStand rows by uses) (d : Effect) (decided : IsDecided d) (guarded : IsGuarded rows m y d) (gone : (f : List ℕ) → d ≡ RemoveNode f → get m f ≡ None) where
  pub entry_apart : (o : Op) (r : Reply) → (walk (known_in m by) always o).reply ≡ Some r → ((n : Need) → In n (walk (known_in m by) always o).items → IsCovered uses n) → (e : Effect) → In e (effects_of by o r) → IsApart d e
  entry_apart (op.Create dir name kind (Some id)) reply.Made h covered e i =
      let q = made_items m by dir name id kind h in
      elim i as (λ _. IsApart d e) [
        | inl s ↦ subst (IsApart d) (sym s) (named rows by y uses free other stand m d dir name (Some id) decided guarded (λ g. made_living m by dir name id kind (gone dir g) h) (covered _ q.0))
        | inr j ↦ elim j as (λ _. IsApart d e) [
          | inl s ↦ subst (IsApart d) (sym s) (born rows by y uses free other stand m d id kind dir name decided guarded (covered _ q.1))
          | inr z ↦ absurd z
        ]
      ]
  entry_apart (op.OpenFile file h modes) reply.Opened w covered e i = elim i as (λ _. IsApart d e) [
    | inl s ↦ subst (IsApart d) (sym s) (inside_apart d (AddHandle file by h modes) decided tt (λ g. let q = subst (λ (o : Option Node). (walk_along (known_in m by) always (unless (no_file (Some (kind_of o))) (ask_own file h modes))).reply ≡ Some reply.Opened) (gone file g) w in absurd (cc)))
    | inr z ↦ absurd z
  ]
  entry_apart (op.Close file h) reply.Closed w covered e i = elim i as (λ _. IsApart d e) [
    | inl s ↦ subst (IsApart d) (sym s) (inside_apart d (RemoveHandle file by h) decided tt (λ g. let q = subst (λ (o : Option Node). (walk_along (known_in m by) always (close_with (own_told (Some (value_at by (Own file) o))) file h)).reply ≡ Some reply.Closed) (gone file g) w in absurd (cc)))
    | inr z ↦ absurd z
  ]
  entry_apart (op.Set file h size stamp) reply.Set w covered e i = elim i as (λ _. IsApart d e) [
    | inl s ↦ subst (IsApart d) (sym s) (inside_apart d (SetInfo file size stamp) decided tt (λ g. let q = subst (λ (o : Option Node). (walk_along (known_in m by) always (unless (no_set (own_told (Some (value_at by (Own file) o))) h) (ask_size file))).reply ≡ Some reply.Set) (gone file g) w in absurd (cc)))
    | inr z ↦ absurd z
  ]
  entry_apart o r w covered e i = absurd i
