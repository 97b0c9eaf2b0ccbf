-- What a server tells with a lease is what all servers hold together.
use Rattle.std.proofs.Common.{◌≡◌, ◌==◌, ◌&&◌, ◌⊎◌, ℕ, Bool, true, false, List, [], ◌∷◌, refl, sym, ap, ap₂, ◌∙◌, subst, inl, inr, cond, not}
use Rattle.std.specs.Prelude.{◌||◌, Option, Some, None, is_some}
use Rattle.std.specs.FinMap.{get}
use Rattle.std.specs.List.{find}
use Rattle.std.specs.Ordering.{nat_cmp, eq_by_cmp}
use Rattle.std.specs.Cmp.Lexicographic.{slice_cmp}
use Rattle.fs_ident.specs.Ident.{same}
use Rattle.fs_ident.specs.In.{In}
use Rattle.fs_ident.specs.declared.actor.Session.{Session}
use Rattle.fs_ident.specs.declared.actor.TxnNo.{TxnNo}
use Rattle.fs_ident.proofs.Booleans.{second, second_fails}
use Rattle.fs_ident.proofs.Same.{same_is, same_self}
use Rattle.fs_field.specs.After.{changed_file}
use Rattle.fs_field.specs.Conflict.{is_exclusive, meets, stands_against}
use Rattle.fs_field.specs.Field.{file_of, same_field}
use Rattle.fs_field.specs.Table.{lock_on}
use Rattle.fs_field.specs.declared.asked.Asked.TheVariants.{Granted}
use Rattle.fs_field.specs.declared.effect.Effect.{Effect}
use Rattle.fs_field.specs.declared.effect.Effect.TheVariants.{SetChild, SetParent, NewNode, RemoveNode, AddHandle, RemoveHandle, SetInfo}
use Rattle.fs_field.specs.declared.field.Field.{Field}
use Rattle.fs_field.specs.declared.field.Field.TheVariants.{Life, Child, Names, Info, Own, SelfW, Other}
use Rattle.fs_field.specs.declared.lease_kind.LeaseKind.{LeaseKind}
use Rattle.fs_field.specs.declared.lease_kind.LeaseKind.TheVariants.{Shared, Exclusive}
use Rattle.fs_field.specs.declared.row.Row.{Row}
use Rattle.fs_field.specs.declared.value.Value.TheVariants as value
use Rattle.fs_model.specs.Children.{child_at, without_child}
use Rattle.fs_model.specs.Namespace.{NodeMap}
use Rattle.fs_model.specs.Step.{children_of}
use Rattle.fs_model.specs.declared.node.Node.{Node}
use Rattle.fs_record.specs.Applied.{node_change, record_change, records_after, records_after_all}
use Rattle.fs_record.specs.Records.{RecordMap, node_of}
use Rattle.fs_record.specs.ValueOf.{handles_of, others_have, value_at, value_of}
use Rattle.fs_record.specs.declared.record.Record.{Record}
use Rattle.fs_record.proofs.Kept.{get_with_at}
use Rattle.fs_record.proofs.NodeValues.{child_less, key_is}
use Rattle.fs_record.proofs.ValueChanges.{change_node}
use Rattle.fs_rows.specs.Answer.{answer, answer_by}
use Rattle.fs_rows.proofs.Granting.{granted_goes}
use Rattle.fs_txn.specs.Decided.{IsDecided}
use Rattle.fs_txn.specs.Grants.{Decided, GrantIsTrue, effects_in, IsAllowed, IsBare, IsLost, IsOfOther}
use Rattle.fs_txn.specs.Guards.{HasLocked, IsGuarded}
use Rattle.fs_txn.proofs.Guarded.{enough_is, turned}

-- ## No guard is on a field that may be leased, nor over it

given_unlocked : (lock : Option TxnNo) (against : Option Row) (told : Option Bool) → answer_by lock against ≡ Granted told → lock ≡ None
given_unlocked (Some txn) against told h = absurd (cc)
given_unlocked None against told h = refl

-- no row on a field without a lock has one
each_unlocked : (field : Field) (rows : List Row) → lock_on field rows ≡ None → (r : Row) → In r rows → same_field r.field field ≡ true → is_some r.lock ≡ false
each_unlocked field [] h r i on = absurd i
each_unlocked field (y ∷ ys) h r i on =
    elim (same_field y.field field && is_some y.lock) as (λ b. (same_field y.field field && is_some y.lock) ≡ b → cond b y.lock (lock_on field ys) ≡ None → is_some r.lock ≡ false) [
      | true ↦ λ t g. let wrong : true ≡ false = sym (second (same_field y.field field) (is_some y.lock) t) ∙ ap is_some g in absurd (cc wrong)
      | false ↦ λ t g. elim i as (λ _. is_some r.lock ≡ false) [
        | inl e ↦ second_fails (same_field r.field field) (is_some r.lock) on (ap (λ (x : Row). same_field x.field field && is_some x.lock) e ∙ t)
        | inr j ↦ each_unlocked field ys g r j on
      ]
    ] refl h

module _ (rows : List Row) (x asks : Session) (kind : LeaseKind) (other : (x.0 == asks.0) ≡ false) where
  not_locked : (field g : Field) (k : LeaseKind) → answer rows asks field kind ≡ Granted None → HasLocked rows x g k → same_field g field ≡ true → ⊥
  not_locked field g k free a h =
      let unlocked : lock_on field rows ≡ None = given_unlocked (lock_on field rows) (find (stands_against asks field kind) rows) None free in
      let wrong : true ≡ false = sym a.lock ∙ each_unlocked field rows unlocked a.row a.stands (ap (λ z. same_field z field) a.field ∙ h) in
      absurd (cc wrong)

  -- an exclusive row on a name keeps others from the names
  not_over : (c d n : List ℕ) → answer rows asks (Names c) kind ≡ Granted None → HasLocked rows x (Child d n) Exclusive → same c d ≡ true → ⊥
  not_over c d n free a h =
      let alone : stands_against asks (Names c) kind a.row ≡ false = granted_goes rows asks (Names c) kind None free a.row a.stands in
      let against : stands_against asks (Names c) kind a.row ≡ true =
      ap (λ (s : Session). not (asks.0 == s.0) && meets (Names c) kind a.row.field a.row.kind) a.session
      ∙ ap (λ b. not b && meets (Names c) kind a.row.field a.row.kind) (turned x.0 asks.0 other)
      ∙ ap (λ z. meets (Names c) kind z a.row.kind) a.field
      ∙ ap (λ b. (b && is_exclusive a.row.kind) || false) h
      ∙ ap (λ b. b || false) (enough_is a.row.kind a.enough) in
      let wrong : true ≡ false = sym against ∙ alone in
      absurd (cc wrong)

  -- ## One effect, on the node of its file

  -- the session sees of the field what it saw
  abbrev Keeps : Effect → Field → Option Node → Type 0
  Keeps e field o = value_at asks field (node_change e o) ≡ value_at asks field o

  name_goes : (d n : List ℕ) (field : Field) (o : Option Node) → IsAllowed rows asks field kind → HasLocked rows x (Child d n) Exclusive → file_of field ≡ d → Keeps (SetChild d n None) field o
  name_goes d n (Life f) None free g e = refl
  name_goes d n (Life f) (Some r) free g e = refl
  name_goes d n (Child c m) None free g e = refl
  name_goes d n (Child c m) (Some r) free g e = ap value.Child (child_less m n r.children ∙ ap (λ b. cond b None (child_at r.children m)) (off (same m n) refl))
    where
      off : (b : Bool) → same m n ≡ b → b ≡ false
      off true t = absurd (not_locked (Child c m) (Child d n) Exclusive free g (ap₂ (λ a b. a && b) (ap (same d) e ∙ same_self d) (ap (same n) (same_is m n t) ∙ same_self n)))
      off false t = refl
  name_goes d n (Names c) o free g e = absurd (not_over c d n free g (ap (λ z. same z d) e ∙ same_self d))
  name_goes d n (Info f) None free g e = refl
  name_goes d n (Info f) (Some r) free g e = refl
  name_goes d n (Own f) None free g e = refl
  name_goes d n (Own f) (Some r) free g e = refl
  name_goes d n (SelfW f md) o free g e = refl
  name_goes d n (Other f md) None free g e = refl
  name_goes d n (Other f md) (Some r) free g e = refl

  place_comes : (f d n : List ℕ) (field : Field) (o : Option Node) → Keeps (SetParent f d n) field o
  place_comes f d n (Life h) None = refl
  place_comes f d n (Life h) (Some r) = refl
  place_comes f d n (Child c m) None = refl
  place_comes f d n (Child c m) (Some r) = refl
  place_comes f d n (Names c) None = refl
  place_comes f d n (Names c) (Some r) = refl
  place_comes f d n (Info h) None = refl
  place_comes f d n (Info h) (Some r) = refl
  place_comes f d n (Own h) None = refl
  place_comes f d n (Own h) (Some r) = refl
  place_comes f d n (SelfW h md) o = refl
  place_comes f d n (Other h md) None = refl
  place_comes f d n (Other h md) (Some r) = refl

  file_goes : (held : NodeMap) (f : List ℕ) (field : Field) (o : Option Node) → IsAllowed rows asks field kind → IsGuarded rows held x (RemoveNode f) → children_of o ≡ [] → handles_of o ≡ [] → file_of field ≡ f → (field ≡ Info f) ⊎ Keeps (RemoveNode f) field o
  file_goes held f (Life h) o free g none unused e = absurd (not_locked (Life h) (Life f) Exclusive free (g.1).0 (ap (same f) e ∙ same_self f))
  file_goes held f (Child c m) None free g none unused e = inr refl
  file_goes held f (Child c m) (Some r) free g none unused e = inr (ap (λ cs. value.Child (child_at cs m)) (sym none))
  file_goes held f (Names c) o free g none unused e = absurd (not_locked (Names c) (Names f) Shared free g.0 (ap (same f) e ∙ same_self f))
  file_goes held f (Info h) o free g none unused e = inl (ap Info e)
  file_goes held f (Own h) o free g none unused e = absurd (not_locked (Own h) (Own f) Exclusive free (g.1).1 (ap (same f) e ∙ same_self f))
  file_goes held f (SelfW h md) o free g none unused e = inr refl
  file_goes held f (Other h md) o free g none unused e = inr (ap (λ hs. value.Other (others_have asks md hs)) (sym unused))

-- ## One effect, on records

-- what it leaves of its own file's node it leaves of all
value_alike : (m : RecordMap) (asks : Session) (e : Effect) (field : Field) → (file_of field ≡ changed_file e → value_at asks field (node_change e (node_of (get m (changed_file e)))) ≡ value_at asks field (node_of (get m (changed_file e)))) → value_of (records_after m e) asks field ≡ value_of m asks field
value_alike m asks e field h = ap (λ (o : Option Record). value_at asks field (node_of o)) (get_with_at m k (record_change e (get m k)) (file_of field)) ∙ within (eq_by_cmp (slice_cmp nat_cmp) (file_of field) k) refl
  where
    k : List ℕ
    k = changed_file e

    within : (b : Bool) → eq_by_cmp (slice_cmp nat_cmp) (file_of field) k ≡ b → value_at asks field (node_of (cond b (record_change e (get m k)) (get m (file_of field)))) ≡ value_of m asks field
    within true t = let q : file_of field ≡ k = key_is (file_of field) k t in ap (value_at asks field) (change_node e (get m k)) ∙ h q ∙ ap (λ f. value_at asks field (node_of (get m f))) (sym q)
    within false t = refl

-- on its own file, or on another one
either_file : (a b : List ℕ) → (a ≡ b) ⊎ (same a b ≡ false)
either_file a b = elim (same a b) as (λ t. same a b ≡ t → (a ≡ b) ⊎ (same a b ≡ false)) [ true ↦ λ t. inl (same_is a b t) | false ↦ λ t. inr t ] refl

one_true : (rows : List Row) (held : NodeMap) (m : RecordMap) (asks : Session) (field : Field) (kind : LeaseKind) (d : Decided) → IsOfOther rows held asks d → IsBare m d.effect → IsAllowed rows asks field kind
    → ((f : List ℕ) × ((d.effect ≡ RemoveNode f) × (field ≡ Info f))) ⊎ (value_of (records_after m d.effect) asks field ≡ value_of m asks field)
one_true rows held m asks field kind d o bare free = by d.effect o.decided o.guarded bare
  where
    by : (e : Effect) → IsDecided e → IsGuarded rows held d.by e → IsBare m e → ((f : List ℕ) × ((e ≡ RemoveNode f) × (field ≡ Info f))) ⊎ (value_of (records_after m e) asks field ≡ value_of m asks field)
    by (SetChild c n None) k g b = inr (value_alike m asks (SetChild c n None) field (λ q. name_goes rows d.by asks kind o.other c n field (node_of (get m c)) free g.0 q))
    by (SetParent f c n) k g b = inr (value_alike m asks (SetParent f c n) field (λ q. place_comes rows d.by asks kind o.other f c n field (node_of (get m f))))
    by (RemoveNode f) k g b = elim (either_file (file_of field) f) as (λ _. ((h : List ℕ) × ((RemoveNode f ≡ RemoveNode h) × (field ≡ Info h))) ⊎ (value_of (records_after m (RemoveNode f)) asks field ≡ value_of m asks field)) [
      | inl q ↦ elim (file_goes rows d.by asks kind o.other held f field (node_of (get m f)) free g b.0 b.1 q) as (λ _. ((h : List ℕ) × ((RemoveNode f ≡ RemoveNode h) × (field ≡ Info h))) ⊎ (value_of (records_after m (RemoveNode f)) asks field ≡ value_of m asks field)) [
        | inl is ↦ inl (f, (refl, is))
        | inr stays ↦ inr (value_alike m asks (RemoveNode f) field (λ _. stays))
      ]
      | inr off ↦ inr (value_alike m asks (RemoveNode f) field (λ q. let wrong : true ≡ false = sym (same_self f) ∙ ap (λ z. same z f) (sym q) ∙ off in absurd (cc wrong)))
    ]
    by (SetChild c n (Some z)) k g b = absurd k
    by (NewNode f a c n) k g b = absurd k
    by (AddHandle f a c z) k g b = absurd k
    by (RemoveHandle f a c) k g b = absurd k
    by (SetInfo f a c) k g b = absurd k

-- ## All of them

-- what is decided adds no child and no handle
fewer : (e : Effect) (o : Option Node) → IsDecided e → children_of o ≡ [] → handles_of o ≡ [] → (children_of (node_change e o) ≡ []) × (handles_of (node_change e o) ≡ [])
fewer (SetChild d n None) None g a b = (refl, refl)
fewer (SetChild d n None) (Some r) g a b = (ap (λ cs. without_child cs n) a, b)
fewer (SetParent h d n) None g a b = (refl, refl)
fewer (SetParent h d n) (Some r) g a b = (a, b)
fewer (RemoveNode h) o g a b = (refl, refl)
fewer (SetChild d n (Some z)) o g a b = absurd g
fewer (NewNode h a z c) o g p q = absurd g
fewer (AddHandle h a z c) o g p q = absurd g
fewer (RemoveHandle h a z) o g p q = absurd g
fewer (SetInfo h a z) o g p q = absurd g

-- so a file that goes stays without
file_bare : (m : RecordMap) (e : Effect) (f : List ℕ) → IsDecided e → IsBare m (RemoveNode f) → IsBare (records_after m e) (RemoveNode f)
file_bare m e f g bare = subst (λ (o : Option Record). (children_of (node_of o) ≡ []) × (handles_of (node_of o) ≡ [])) (sym (get_with_at m k (record_change e (get m k)) f)) (within (eq_by_cmp (slice_cmp nat_cmp) f k) refl)
  where
    k : List ℕ
    k = changed_file e

    within : (b : Bool) → eq_by_cmp (slice_cmp nat_cmp) f k ≡ b → (children_of (node_of (cond b (record_change e (get m k)) (get m f))) ≡ []) × (handles_of (node_of (cond b (record_change e (get m k)) (get m f))) ≡ [])
    within true t =
        let at : IsBare m (RemoveNode k) = subst (λ z. IsBare m (RemoveNode z)) (key_is f k t) bare in
        let q = fewer e (node_of (get m k)) g at.0 at.1 in
        (ap children_of (change_node e (get m k)) ∙ q.0, ap handles_of (change_node e (get m k)) ∙ q.1)
    within false t = bare

still_bare : (m : RecordMap) (e d : Effect) → IsDecided e → IsBare m d → IsBare (records_after m e) d
still_bare m e (RemoveNode f) g bare = file_bare m e f g bare
still_bare m e (SetChild d n z) g bare = tt
still_bare m e (SetParent f d n) g bare = tt
still_bare m e (NewNode f a b c) g bare = tt
still_bare m e (AddHandle f a b c) g bare = tt
still_bare m e (RemoveHandle f a b) g bare = tt
still_bare m e (SetInfo f a b) g bare = tt

lost_more : (d : Decided) (ds : List Decided) (field : Field) → IsLost ds field → IsLost (d ∷ ds) field
lost_more d ds (Info f) l = (l.0, (inr l.1.0, l.1.1))
lost_more d ds (Life f) l = l
lost_more d ds (Child c n) l = l
lost_more d ds (Names c) l = l
lost_more d ds (Own f) l = l
lost_more d ds (SelfW f md) l = l
lost_more d ds (Other f md) l = l

lost_first : (d : Decided) (ds : List Decided) (field : Field) (f : List ℕ) → d.effect ≡ RemoveNode f → field ≡ Info f → IsLost (d ∷ ds) field
lost_first d ds field f e q = subst (IsLost (d ∷ ds)) (sym q) (d, (inl refl, e))

pub grant_true : GrantIsTrue
grant_true rows held m [] asks field kind others bare free = inr refl
grant_true rows held m (d ∷ ds) asks field kind others bare free =
    let decided : IsDecided d.effect = (others d (inl refl)).decided in
    elim (one_true rows held m asks field kind d (others d (inl refl)) (bare d (inl refl)) free) as (λ _. IsLost (d ∷ ds) field ⊎ (value_of (records_after_all (records_after m d.effect) (effects_in ds)) asks field ≡ value_of m asks field)) [
      | inl l ↦ inl (lost_first d ds field l.0 l.1.0 l.1.1)
      | inr here ↦ elim (grant_true rows held (records_after m d.effect) ds asks field kind (λ e i. others e (inr i)) (λ e i. still_bare m d.effect e.effect decided (bare e (inr i))) free) as (λ _. IsLost (d ∷ ds) field ⊎ (value_of (records_after_all (records_after m d.effect) (effects_in ds)) asks field ≡ value_of m asks field)) [
        | inl l ↦ inl (lost_more d ds field l)
        | inr then ↦ inr (then ∙ here)
      ]
    ]
