-- A session that loses its handles on a file.
use Rattle.std.proofs.Common.{◌≡◌, ℕ, List, [], ◌∷◌, ◌+◌, ◌<◌, Bool, true, false, refl, ap, sym, ◌∙◌, cond, map, length, get_or, drop, inl, inr, arith, subst}
use Rattle.std.specs.Prelude.{Option, Some, None, option_map, IfSome, not, ◌==◌, ◌&&◌, ◌||◌, nat_lt}
use Rattle.std.specs.List.{filter, list_any, list_all}
use Rattle.std.specs.Cmp.Lexicographic.{same_text}
use Rattle.std.specs.FinMap.{get}
use Rattle.std.proofs.lemmas.Bool.Decides.{nat_tests}
use Rattle.std.proofs.lemmas.List.Elements.{filter_agree}
use Rattle.std.proofs.lemmas.Bool.{not-true}
use Rattle.std.proofs.Math.Bool.{or-true}
use Rattle.fs_ident.specs.In.{In}
use Rattle.fs_ident.specs.Ident.{same}
use Rattle.fs_ident.specs.declared.actor.Session.{Session}
use Rattle.fs_ident.proofs.Booleans.{first, second, joined, first_fails}
use Rattle.fs_ident.proofs.MapsOf.{remove_absent}
use Rattle.fs_ident.proofs.Same.{differs_too, itself}
use Rattle.fs_modes.specs.declared.modes.Mode.{Mode}
use Rattle.fs_modes.specs.declared.modes.Modes.{Modes}
use Rattle.fs_modes.specs.Modes.{has, or}
use Rattle.fs_field.specs.declared.effect.Effect.{Effect}
use Rattle.fs_field.specs.declared.effect.Effect.TheVariants.{RemoveHandle}
use Rattle.fs_field.specs.declared.field.Field.{Field}
use Rattle.fs_field.specs.declared.field.Field.TheVariants.{Life, Child, Names, Info, Own, SelfW, Other}
use Rattle.fs_field.specs.declared.value.Value.TheVariants as value
use Rattle.fs_field.specs.After.{Handles}
use Rattle.fs_field.specs.Field.{file_of, same_field}
use Rattle.fs_model.specs.declared.node.Handle.{Handle}
use Rattle.fs_model.specs.declared.node.Node.{Node}
use Rattle.fs_model.specs.declared.op.Op.TheVariants as op
use Rattle.fs_model.specs.Handles.{is_at, handles_are_in_order, without_handle, without_session}
use Rattle.fs_model.specs.Namespace.{NodeMap, with_change, with_change_at}
use Rattle.fs_model.specs.Step.{step, without_opens}
use Rattle.fs_record.specs.declared.record.Record.{Record}
use Rattle.fs_record.specs.Records.{RecordMap, AreRecords, IsRecord, node_of, nodes_of, next_of}
use Rattle.fs_record.specs.Applied.{record_change, records_after, records_after_all, with_at, is_undoable}
use Rattle.fs_record.specs.Effects.{reap_effects}
use Rattle.fs_record.specs.Undo.{with_node}
use Rattle.fs_record.specs.ValueOf.{handles_of, own_of, others_have, selves_from, selves_of, selves_in, value_at, value_of, is_other}
use Rattle.fs_record.proofs.HandleSteps.{own_step}
use Rattle.fs_record.proofs.Kept.{get_with_at}
use Rattle.fs_record.proofs.NodeMaps.{node_there, node_with_at}
use Rattle.fs_record.proofs.NodeValues.{tied}
use Rattle.fs_record.proofs.BySession.{from_on, from_first, rises}
use Rattle.fs_record.proofs.Stepping.{alike}
use Rattle.fs_record.proofs.Undoing.{with_at-with_at, with_at_same, get_here}

-- ## The handles

turned : (a b : Bool) → (not a && not b) ≡ not (a || b)
turned true b = refl
turned false b = refl

all_pass : (hs : List Handle) → hs ≡ filter (λ y. true) hs
all_pass [] = refl
all_pass (y ∷ ys) = ap (λ hs. y ∷ hs) (all_pass ys)

twice : (p q : Handle → Bool) (hs : List Handle) → filter p (filter q hs) ≡ filter (λ y. q y && p y) hs
twice p q [] = refl
twice p q (y ∷ ys) = elim (q y) as (λ b. filter p (cond b (y ∷ filter q ys) (filter q ys)) ≡ cond (b && p y) (y ∷ filter (λ y. q y && p y) ys) (filter (λ y. q y && p y) ys)) [
  | true ↦ ap (λ hs. cond (p y) (y ∷ hs) hs) (twice p q ys)
  | false ↦ twice p q ys
]

-- tests that agree on what stands in the list keep the same
agree : (p q : Handle → Bool) (hs : List Handle) → ((y : Handle) → In y hs → p y ≡ q y) → filter p hs ≡ filter q hs
agree p q [] h = refl
agree p q (y ∷ ys) h = ap (λ b. cond b (y ∷ filter p ys) (filter p ys)) (h y (inl refl)) ∙ ap (λ hs. cond (q y) (y ∷ hs) hs) (agree p q ys (λ z i. h z (inr i)))

module _ (x : Session) where
  -- without the session's handles of these numbers, one after another
  abbrev less_each : Handles → List Handle → List Handle
  less_each [] hs = hs
  less_each (o ∷ os) hs = less_each os (without_handle hs x o.0)

  -- the handle is the session's of one of these numbers
  abbrev is_among : Handles → Handle → Bool
  is_among os y = list_any (λ o. is_at x o.0 y) os

  less_among : (os : Handles) (hs : List Handle) → less_each os hs ≡ filter (λ y. not (is_among os y)) hs
  less_among [] hs = all_pass hs
  less_among (o ∷ os) hs =
      less_among os (without_handle hs x o.0)
      ∙ twice (λ y. not (is_among os y)) (λ y. not (is_at x o.0 y)) hs
      ∙ filter_agree _ _ (λ y. turned (is_at x o.0 y) (is_among os y)) hs

  not_among : (os : Handles) (y : Handle) → (y.session.0 == x.0) ≡ false → is_among os y ≡ false
  not_among [] y e = refl
  not_among (o ∷ os) y e = rw e (not_among os y e)

  own_among : (hs : List Handle) (y : Handle) → In y hs → (y.session.0 == x.0) ≡ true → is_among (own_of x hs) y ≡ true
  own_among [] y i e = absurd i
  own_among (z ∷ zs) y i e = elim i [
    | inl q ↦
        let t : (z.session.0 == x.0) ≡ true = ap (λ w. w.session.0 == x.0) (sym q) ∙ e in
        let at : is_at x z.h y ≡ true = joined _ _ e (ap (λ w. w.h == z.h) q ∙ itself z.h) in
        ap (λ b. is_among (cond b ((z.h, z.modes) ∷ own_of x zs) (own_of x zs)) y) t ∙ ap (λ b. b || is_among (own_of x zs) y) at
    | inr j ↦ behind z (own_of x zs) (z.session.0 == x.0) (own_among zs y j e)
  ]
    where
      behind : (z : Handle) (os : Handles) (b : Bool) → is_among os y ≡ true → is_among (cond b ((z.h, z.modes) ∷ os) os) y ≡ true
      behind z os true h = ap (λ b. is_at x z.h y || b) h ∙ or-true (is_at x z.h y)
      behind z os false h = h

  -- without each of its handles it has none
  without_own : (hs : List Handle) → less_each (own_of x hs) hs ≡ without_session hs x
  without_own hs = less_among (own_of x hs) hs ∙ agree _ _ hs (λ y i. by y i (y.session.0 == x.0) refl)
    where
      by : (y : Handle) → In y hs → (b : Bool) → (y.session.0 == x.0) ≡ b → not (is_among (own_of x hs) y) ≡ not (y.session.0 == x.0)
      by y i true e = ap not (own_among hs y i e ∙ sym e)
      by y i false e = ap not (not_among (own_of x hs) y e ∙ sym e)

  -- ## The records

  abbrev removals : List ℕ → Handles → List Effect
  removals f os = map (λ o. RemoveHandle f x o.0) os

  abbrev with_handles : (List Handle → List Handle) → Record → Record
  with_handles g r = with_node (λ n. record n { handles = g n.handles }) r

  unchanged : (o : Option Record) → option_map (with_handles (λ hs. hs)) o ≡ o
  unchanged None = refl
  unchanged (Some r) = refl

  one_less : (f : List ℕ) (h : ℕ) (g : List Handle → List Handle) (o : Option Record) → option_map (with_handles g) (record_change (RemoveHandle f x h) o) ≡ option_map (with_handles (λ hs. g (without_handle hs x h))) o
  one_less f h g None = refl
  one_less f h g (Some r) = refl

  removed : (m : RecordMap) (f : List ℕ) (os : Handles) → records_after_all m (removals f os) ≡ with_at m f (option_map (with_handles (less_each os)) (get m f))
  removed m f [] = sym (ap (with_at m f) (unchanged (get m f)) ∙ with_at_same m f)
  removed m f (o ∷ os) =
      let e : Effect = RemoveHandle f x o.0 in
      removed (records_after m e) f os
      ∙ ap (λ r. with_at (records_after m e) f (option_map (with_handles (less_each os)) r)) (get_here m f (record_change e (get m f)))
      ∙ with_at-with_at m f (record_change e (get m f)) _
      ∙ ap (with_at m f) (one_less f o.0 (less_each os) (get m f))

  -- the record, or its absence, without the session's handles
  abbrev pub reaped_record : Option Record → Option Record
  reaped_record o = option_map (with_node (without_opens x)) o

  by_record : (o : Option Record) → option_map (with_handles (less_each (own_of x (handles_of (node_of o))))) o ≡ reaped_record o
  by_record None = refl
  by_record (Some r) = ap (λ hs. Some (with_handles (λ _. hs) r)) (without_own r.node.handles)

  -- a reap changes one record, which loses the session's handles
  pub reaped_at : (m : RecordMap) (f : List ℕ) → records_after_all m (reap_effects m f x) ≡ with_at m f (reaped_record (get m f))
  reaped_at m f = removed m f (own_of x (handles_of (node_of (get m f)))) ∙ ap (with_at m f) (by_record (get m f))

  pub reaped_get : (m : RecordMap) (f g : List ℕ) → get (records_after_all m (reap_effects m f x)) g ≡ cond (same g f) (reaped_record (get m f)) (get m g)
  reaped_get m f g = ap (λ m. get m g) (reaped_at m f) ∙ get_with_at m f (reaped_record (get m f)) g ∙ ap (λ b. cond b (reaped_record (get m f)) (get m g)) (tied g f)

  next_stays : (o : Option Record) → next_of (reaped_record o) ≡ next_of o
  next_stays None = refl
  next_stays (Some r) = refl

  -- a fact of the record at an identifier, where it is told of the file's and of any other
  reaped_at_each : (P : Option Record → Option Record → Type 0) (m : RecordMap) (f g : List ℕ) → (same g f ≡ true → P (reaped_record (get m g)) (get m g)) → (same g f ≡ false → P (get m g) (get m g)) → P (get (records_after_all m (reap_effects m f x)) g) (get m g)
  reaped_at_each P m f g here there = subst (λ o. P o (get m g)) (sym (reaped_get m f g)) (elim (same g f) as (λ b. same g f ≡ b → P (cond b (reaped_record (get m f)) (get m g)) (get m g)) [
    | true ↦ λ e. subst (λ k. P (reaped_record (get m k)) (get m g)) (same_text g f (sym e)) (here e)
    | false ↦ there
  ] refl)

  -- next numbers stay
  pub reaped_next : (m : RecordMap) (f g : List ℕ) → next_of (get (records_after_all m (reap_effects m f x)) g) ≡ next_of (get m g)
  reaped_next m f g = reaped_at_each (λ o p. next_of o ≡ next_of p) m f g (λ _. next_stays (get m g)) (λ _. refl)

  -- ## The nodes

  node_reaped : (o : Option Record) → node_of (reaped_record o) ≡ option_map (without_opens x) (node_of o)
  node_reaped None = refl
  node_reaped (Some r) = refl

  changed_there : (n : NodeMap) (f : List ℕ) (o : Option Node) → get n f ≡ o → with_at n f (option_map (without_opens x) (get n f)) ≡ with_change (without_opens x) n f
  changed_there n f None e = ap (λ (o : Option Node). with_at n f (option_map (without_opens x) o)) e ∙ remove_absent n f e ∙ sym (ap (λ o. with_change_at (without_opens x) n f o) e)
  changed_there n f (Some d) e = alike (without_opens x) n f d e

  -- the nodes are those after the reap
  pub reaped_nodes : (m : RecordMap) (by : Session) (f : List ℕ) → nodes_of (records_after_all m (reap_effects m f x)) ≡ (step (nodes_of m) by (op.Reap f x)).nodes
  reaped_nodes m by f =
      ap nodes_of (reaped_at m f)
      ∙ node_with_at m f (reaped_record (get m f))
      ∙ ap (with_at (nodes_of m) f) (node_reaped (get m f) ∙ ap (option_map (without_opens x)) (sym (node_there m f)))
      ∙ changed_there (nodes_of m) f (get (nodes_of m) f) refl

  -- ## What is told of the sessions with handles

  abbrev is_another : Session × Modes → Bool
  is_another e = not (e.0.0 == x.0)

  after_it : (t : Session) (y : Handle) (hs : List Handle) → nat_lt t.0 y.session.0 ≡ true → from_on y.session hs ≡ true → list_all (λ z. not (z.session.0 == t.0)) (without_session hs x) ≡ true
  after_it t y [] l h = refl
  after_it t y (z ∷ zs) l h =
      let apart : (z.session.0 == t.0) ≡ false = differs t y z l (first _ _ h) in
      elim (z.session.0 == x.0) as (λ b. list_all (λ z. not (z.session.0 == t.0)) (cond (not b) (z ∷ without_session zs x) (without_session zs x)) ≡ true) [
        | true ↦ after_it t y zs l (second _ _ h)
        | false ↦ joined _ _ (ap not apart) (after_it t y zs l (second _ _ h))
      ]
    where
      differs : (t : Session) (y z : Handle) → nat_lt t.0 y.session.0 ≡ true → not (nat_lt z.session.0 y.session.0) ≡ true → (z.session.0 == t.0) ≡ false
      differs t y z l h = grind (arith, nat_tests)

  alone : (t : Session) (m : Modes) (hs : List Handle) → list_all (λ z. not (z.session.0 == t.0)) hs ≡ true → selves_from t m hs ≡ (t, m) ∷ selves_of hs
  alone t m [] h = refl
  alone t m (z ∷ zs) h =
      let q : (z.session.0 == t.0) ≡ false = not-true _ (first _ _ h) in
      ap (λ b. cond b (selves_from t (or m z.modes) zs) ((t, m) ∷ selves_from z.session z.modes zs)) q

  -- those who are told without the session, where one is told first
  abbrev without_first : Session → Modes → List Handle → List (Session × Modes)
  without_first t m hs = cond (t.0 == x.0) (selves_of (without_session hs x)) (selves_from t m (without_session hs x))

  -- a handle in front, of the session or of another
  in_front : (y : Handle) (ys : List Handle) → without_first y.session y.modes ys ≡ selves_of (without_session (y ∷ ys) x)
  in_front y ys = elim (y.session.0 == x.0) as (λ b. cond b (selves_of (without_session ys x)) (selves_from y.session y.modes (without_session ys x)) ≡ selves_of (cond (not b) (y ∷ without_session ys x) (without_session ys x))) [
    | true ↦ refl
    | false ↦ refl
  ]

  not_less : (n : ℕ) → not (nat_lt n n) ≡ true
  not_less n = grind (arith, nat_tests)

  one_session : (a b c : ℕ) → (a == b) ≡ true → (b == c) ≡ (a == c)
  one_session a b c e = let q : a ≡ b = grind (arith, nat_tests) in ap (λ n. n == c) (sym q)

  told_without : (t : Session) (m : Modes) (hs : List Handle) → handles_are_in_order hs ≡ true → from_on t hs ≡ true → filter is_another (selves_from t m hs) ≡ without_first t m hs
  told_without t m [] h g = elim (t.0 == x.0) as (λ b. cond {A = List (Session × Modes)} (not b) ((t, m) ∷ []) [] ≡ cond {A = List (Session × Modes)} b [] ((t, m) ∷ [])) [ true ↦ refl | false ↦ refl ]
  told_without t m (y ∷ ys) h g =
      within (y.session.0 == t.0) refl (told_without t (or m y.modes) ys (second _ _ h) (second _ _ g)) (told_without y.session y.modes ys (second _ _ h) (from_first y ys (first _ _ h)))
    where
      within : (b : Bool) → (y.session.0 == t.0) ≡ b
          → filter is_another (selves_from t (or m y.modes) ys) ≡ without_first t (or m y.modes) ys
          → filter is_another (selves_from y.session y.modes ys) ≡ without_first y.session y.modes ys
          → filter is_another (cond b (selves_from t (or m y.modes) ys) ((t, m) ∷ selves_from y.session y.modes ys)) ≡ without_first t m (y ∷ ys)
      within true e p q = p ∙ elim (t.0 == x.0) as (λ b. (t.0 == x.0) ≡ b → cond b (selves_of (without_session ys x)) (selves_from t (or m y.modes) (without_session ys x)) ≡ cond b (selves_of (without_session (y ∷ ys) x)) (selves_from t m (without_session (y ∷ ys) x))) [
        | true ↦ λ a.
            let own : (y.session.0 == x.0) ≡ true = sym (one_session y.session.0 t.0 x.0 e) ∙ a in
            rw own
        | false ↦ λ a.
            let own : (y.session.0 == x.0) ≡ false = sym (one_session y.session.0 t.0 x.0 e) ∙ a in
            rw (own, e)
      ] refl
      within false e p q = elim (t.0 == x.0) as (λ b. (t.0 == x.0) ≡ b → cond (not b) ((t, m) ∷ filter is_another (selves_from y.session y.modes ys)) (filter is_another (selves_from y.session y.modes ys)) ≡ cond b (selves_of (without_session (y ∷ ys) x)) (selves_from t m (without_session (y ∷ ys) x))) [
        | true ↦ λ a. q ∙ in_front y ys
        | false ↦ λ a. ap (λ es. (t, m) ∷ es) (q ∙ in_front y ys) ∙ sym (alone t m (without_session (y ∷ ys) x) (after_it t y (y ∷ ys) (rises t y (first _ _ g) e) (joined _ _ (not_less y.session.0) (from_first y ys (first _ _ h)))))
      ] refl

  selves_left : (hs : List Handle) → handles_are_in_order hs ≡ true → selves_of (without_session hs x) ≡ filter is_another (selves_of hs)
  selves_left [] h = refl
  selves_left (y ∷ ys) h = sym (in_front y ys) ∙ sym (told_without y.session y.modes ys (second _ _ h) (from_first y ys (first _ _ h)))

  selves_reaped : (o : Option Record) → IfSome o IsRecord → selves_of (handles_of (node_of (reaped_record o))) ≡ filter is_another (selves_of (handles_of (node_of o)))
  selves_reaped None own = refl
  selves_reaped (Some r) own = selves_left r.node.handles own.in_order.handles

  -- the session is told no more of the file
  pub reaped_selves : (m : RecordMap) (f g : List ℕ) → AreRecords m → selves_in (records_after_all m (reap_effects m f x)) g ≡ cond (same g f) (filter is_another (selves_in m g)) (selves_in m g)
  reaped_selves m f g own = reaped_at_each (λ o p. selves_of (handles_of (node_of o)) ≡ cond (same g f) (filter is_another (selves_of (handles_of (node_of p)))) (selves_of (handles_of (node_of p)))) m f g
      (λ e. selves_reaped (get m g) (own g) ∙ ap (λ b. cond b (filter is_another (selves_in m g)) (selves_in m g)) (sym e))
      (λ e. ap (λ b. cond b (filter is_another (selves_in m g)) (selves_in m g)) (sym e))

  -- ## Other reaps

  own_left : (y : Session) (hs : List Handle) → (y.0 == x.0) ≡ false → own_of y (without_session hs x) ≡ own_of y hs
  own_left y [] e = refl
  own_left y (z ∷ zs) e = by (z.session.0 == x.0) refl (own_left y zs e)
    where
      by : (b : Bool) → (z.session.0 == x.0) ≡ b → own_of y (without_session zs x) ≡ own_of y zs → own_of y (cond (not b) (z ∷ without_session zs x) (without_session zs x)) ≡ own_of y (z ∷ zs)
      by true t h = h ∙ ap (λ b. cond b ((z.h, z.modes) ∷ own_of y zs) (own_of y zs)) (sym (differs_too z.session.0 x.0 y.0 t e))
      by false t h = ap (λ os. cond (z.session.0 == y.0) ((z.h, z.modes) ∷ os) os) h

  own_reaped : (y : Session) (o : Option Record) → (y.0 == x.0) ≡ false → own_of y (handles_of (node_of (reaped_record o))) ≡ own_of y (handles_of (node_of o))
  own_reaped y None e = refl
  own_reaped y (Some r) e = own_left y r.node.handles e

  -- another session's handles, and those on another file, stay to be reaped
  pub reaps_apart : (m : RecordMap) (f g : List ℕ) (y : Session) → (same g f && (y.0 == x.0)) ≡ false → reap_effects (records_after_all m (reap_effects m f x)) g y ≡ reap_effects m g y
  reaps_apart m f g y h = ap (λ os. map (λ (o : ℕ × Modes). RemoveHandle g y o.0) os) (reaped_at_each (λ o p. own_of y (handles_of (node_of o)) ≡ own_of y (handles_of (node_of p))) m f g
      (λ e. own_reaped y (get m g) (sym (ap (λ b. b && (y.0 == x.0)) e) ∙ h))
      (λ e. refl))

  all_undoable : (f : List ℕ) (os : Handles) → list_all is_undoable (removals f os) ≡ true
  all_undoable f [] = refl
  all_undoable f (o ∷ os) = all_undoable f os

  -- a reap can be taken back
  pub reap_undoable : (m : RecordMap) (f : List ℕ) → list_all is_undoable (reap_effects m f x) ≡ true
  reap_undoable m f = all_undoable f (own_of x (handles_of (node_of (get m f))))

  -- ## Values

  others_left : (n : Mode) (hs : List Handle) → others_have x n (without_session hs x) ≡ others_have x n hs
  others_left n [] = refl
  others_left n (z ∷ zs) = elim (z.session.0 == x.0) as (λ b. (z.session.0 == x.0) ≡ b → others_have x n (cond (not b) (z ∷ without_session zs x) (without_session zs x)) ≡ ((not b && has z.modes n) || others_have x n zs)) [
    | true ↦ λ e. others_left n zs
    | false ↦ λ e. rw e (ap (λ b. has z.modes n || b) (others_left n zs))
  ] refl

  value_reaped : (y : Session) (field : Field) (o : Option Record) → (y.0 == x.0) ≡ false → is_other field ≡ false → value_at y field (node_of (reaped_record o)) ≡ value_at y field (node_of o)
  value_reaped y field None e h = refl
  value_reaped y (Life f) (Some r) e h = refl
  value_reaped y (Child d name) (Some r) e h = refl
  value_reaped y (Names d) (Some r) e h = refl
  value_reaped y (Info f) (Some r) e h = refl
  value_reaped y (Own f) (Some r) e h = ap value.Own (own_left y r.node.handles e)
  value_reaped y (SelfW f n) (Some r) e h = refl
  value_reaped y (Other f n) (Some r) e h = absurd (cc h)

  -- another session sees every field as before, but for what others have on the file
  pub reaped_value : (m : RecordMap) (f : List ℕ) (y : Session) (field : Field) → (y.0 == x.0) ≡ false → (is_other field && same (file_of field) f) ≡ false → value_of (records_after_all m (reap_effects m f x)) y field ≡ value_of m y field
  reaped_value m f y field e h = reaped_at_each (λ o p. value_at y field (node_of o) ≡ value_at y field (node_of p)) m f (file_of field)
      (λ t. value_reaped y field (get m (file_of field)) e (first_fails (is_other field) (same (file_of field) f) t h))
      (λ t. refl)

  own_value_reaped : (f : List ℕ) (field : Field) (o : Option Record) → same (file_of field) f ≡ true → same_field field (Own f) ≡ false → value_at x field (node_of (reaped_record o)) ≡ value_at x field (node_of o)
  own_value_reaped f field None t h = refl
  own_value_reaped f (Life g) (Some r) t h = refl
  own_value_reaped f (Child d name) (Some r) t h = refl
  own_value_reaped f (Names d) (Some r) t h = refl
  own_value_reaped f (Info g) (Some r) t h = refl
  own_value_reaped f (Own g) (Some r) t h = let wrong : true ≡ false = sym t ∙ h in absurd (cc)
  own_value_reaped f (SelfW g n) (Some r) t h = refl
  own_value_reaped f (Other g n) (Some r) t h = ap value.Other (others_left n r.node.handles)

  -- the session sees every field as before, but for its own handles on the file
  pub reaped_own_value : (m : RecordMap) (f : List ℕ) (field : Field) → same_field field (Own f) ≡ false → value_of (records_after_all m (reap_effects m f x)) x field ≡ value_of m x field
  reaped_own_value m f field h = reaped_at_each (λ o p. value_at x field (node_of o) ≡ value_at x field (node_of p)) m f (file_of field)
      (λ t. own_value_reaped f field (get m (file_of field)) t h)
      (λ t. refl)

-- ## The loop over the handles

pub reap_step : (f : List ℕ) (x : Session) (xs : List Handle) (i : ℕ) (d : Handle) → i < length xs → map (λ (o : ℕ × Modes). RemoveHandle f x o.0) (own_of x (drop i xs)) ≡ cond ((get_or xs i d).session.0 == x.0) (RemoveHandle f x (get_or xs i d).h ∷ map (λ (o : ℕ × Modes). RemoveHandle f x o.0) (own_of x (drop (i + 1) xs))) (map (λ (o : ℕ × Modes). RemoveHandle f x o.0) (own_of x (drop (i + 1) xs)))
reap_step f x xs i d lt = rw (own_step x xs i d lt) (elim ((get_or xs i d).session.0 == x.0) as (λ b. map (λ (o : ℕ × Modes). RemoveHandle f x o.0) (cond b (((get_or xs i d).h, (get_or xs i d).modes) ∷ own_of x (drop (i + 1) xs)) (own_of x (drop (i + 1) xs))) ≡ cond b (RemoveHandle f x (get_or xs i d).h ∷ map (λ (o : ℕ × Modes). RemoveHandle f x o.0) (own_of x (drop (i + 1) xs))) (map (λ (o : ℕ × Modes). RemoveHandle f x o.0) (own_of x (drop (i + 1) xs)))) [ true ↦ refl | false ↦ refl ])
