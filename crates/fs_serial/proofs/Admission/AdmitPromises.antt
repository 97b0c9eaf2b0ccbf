-- The server admits an entry: promises of the others' modes.
use Rattle.std.proofs.Common.{◌≡◌, ℕ, ◌==◌, ◌&&◌, ◌||◌, not, Bool, true, false, List, [], ◌∷◌, refl, sym, ap, ◌∙◌, subst, inl, inr, cond}
use Rattle.std.specs.Prelude.{Option, Some, None, is_some}
use Rattle.std.specs.Cmp.{nat_eq_equiv}
use Rattle.std.specs.FinMap.{get}
use Rattle.std.specs.List.{filter, list_any}
use Rattle.fs_ident.specs.In.{In}
use Rattle.fs_ident.specs.Ident.{same}
use Rattle.fs_ident.specs.declared.actor.Session.{Session}
use Rattle.fs_ident.specs.declared.kind.Kind.{Kind}
use Rattle.fs_ident.specs.declared.kind.Kind.TheVariants.{File, Dir}
use Rattle.fs_ident.proofs.Booleans.{both, joined, second}
use Rattle.fs_ident.proofs.Standing.{In-filter, any_In}
use Rattle.fs_ident.proofs.Same.{one_session, same_is, same_self}
use Rattle.fs_modes.specs.declared.modes.Mode.{Mode}
use Rattle.fs_modes.specs.declared.modes.Mode.TheVariants.{AccR, AccW, AccD, DenyR, DenyW, DenyD}
use Rattle.fs_modes.specs.declared.modes.Modes.{Modes}
use Rattle.fs_modes.specs.Modes.{has, opposing, without}
use Rattle.fs_field.specs.declared.asked.Need.{Need}
use Rattle.fs_field.specs.declared.asked.Need.TheVariants as need
use Rattle.fs_field.specs.declared.field.Field.{Field}
use Rattle.fs_field.specs.declared.field.Field.TheVariants.{Life, Names, Own, SelfW, Other}
use Rattle.fs_field.specs.declared.lease_kind.LeaseKind.TheVariants.{Shared, Exclusive}
use Rattle.fs_field.specs.declared.value.Value.{Value}
use Rattle.fs_field.specs.declared.value.Value.TheVariants as value
use Rattle.fs_field.specs.After.{Handles, is_above, with_handle, without_handle}
use Rattle.fs_field.specs.Conflict.{is_self, is_fixed}
use Rattle.fs_field.specs.Field.{mode_rank, same_mode}
use Rattle.fs_field.proofs.Named.{any_put}
use Rattle.fs_model.specs.Children.{child_at}
use Rattle.fs_model.specs.Step.{step, is_child, create, create_in, create_as, reply_alone, with_new_node}
use Rattle.fs_model.specs.declared.node.Node.{Node}
use Rattle.fs_model.specs.declared.op.Op.{Op}
use Rattle.fs_model.specs.declared.op.Op.TheVariants as op
use Rattle.fs_model.specs.declared.reply.Reply.{Reply}
use Rattle.fs_model.specs.declared.reply.Reply.TheVariants as reply
use Rattle.fs_moderows.specs.Answer.{has_mode}
use Rattle.fs_moderows.specs.Kept.{ChangesByRows}
use Rattle.fs_moderows.proofs.Changes.{changes_kept}
use Rattle.fs_moderows.proofs.Witnesses.{In_any, In_filtered, fixed_row, In_none}
use Rattle.fs_msg.specs.declared.entry.Entry.{Entry}
use Rattle.fs_record.specs.Applied.{records_after_all}
use Rattle.fs_record.specs.Effects.{effects_of}
use Rattle.fs_record.specs.Records.{RecordMap, AreRecords, node_of, nodes_of}
use Rattle.fs_record.specs.ValueOf.{value_of, own_of, handles_of, selves_in}
use Rattle.fs_record.proofs.NodeMaps.{node_there}
use Rattle.fs_server.specs.Ships.{with_entry}
use Rattle.fs_server.specs.declared.state.Server.{Server}
use Rattle.fs_view.specs.Gone.{known_with}
use Rattle.fs_view.specs.Laws.{item_meets}
use Rattle.fs_view.specs.Script.{Script, answer, unless, no_file, ask_others, ask_selves, ask_own, open_free, modes_on, modes_off}
use Rattle.fs_view.specs.Told.{all_modes, is_other_told, life_told, modes_listed, modes_under, own_conflicts}
use Rattle.fs_view.specs.View.{value_after_all}
use Rattle.fs_view.specs.Walk.{walk, walk_along, known_in, always}
use Rattle.fs_view.proofs.Seeing.{absent, own_values}
use Rattle.fs_view.proofs.Unseen.{others_values}
use Rattle.fs_serial.specs.Pending.{AllStand, IsAnswer, IsEntry, Stands, HasUse}
use Rattle.fs_serial.specs.Rows.{PromisesKept}
use Rattle.fs_serial.proofs.Admission.Answered.{answered}
use Rattle.fs_serial.proofs.Lists.Modes.{has_all, mode_by_own}

-- ## Modes that are turned on and off

without_has : (a b : Modes) (m : Mode) → has (without a b) m ≡ (has a m && not (has b m))
without_has a b AccR = refl
without_has a b AccW = refl
without_has a b AccD = refl
without_has a b DenyR = refl
without_has a b DenyW = refl
without_has a b DenyD = refl

one_of_six : (m : Mode) → In m (AccR ∷ AccW ∷ AccD ∷ DenyR ∷ DenyW ∷ DenyD ∷ [])
one_of_six AccR = inl refl
one_of_six AccW = inr (inl refl)
one_of_six AccD = inr (inr (inl refl))
one_of_six DenyR = inr (inr (inr (inl refl)))
one_of_six DenyW = inr (inr (inr (inr (inl refl))))
one_of_six DenyD = inr (inr (inr (inr (inr (inl refl)))))

listed : (modes : Modes) (m : Mode) → has modes m ≡ true → In m (modes_listed modes)
listed modes m h = In_filtered (has modes) (AccR ∷ AccW ∷ AccD ∷ DenyR ∷ DenyW ∷ DenyD ∷ []) m (one_of_six m) h

-- what is not listed the modes do not have
unlisted : (modes : Modes) (m : Mode) → (In m (modes_listed modes) → ⊥) → has modes m ≡ false
unlisted modes m none = elim (has modes m) as (λ b. has modes m ≡ b → b ≡ false) [
  | true ↦ λ e. absurd (none (listed modes m e))
  | false ↦ λ e. refl
] refl

abbrev has_it : Mode → ℕ × Modes → Bool
has_it m x = has x.1 m

-- a handle that is not there need not be taken away
nothing_under : (test : ℕ × Modes → Bool) (own : Handles) (h : ℕ) → is_some (modes_under own h) ≡ false → list_any test (without_handle own h) ≡ list_any test own
nothing_under test [] h none = refl
nothing_under test (x ∷ xs) h none =
    elim (x.0 == h) as (λ b. is_some (cond b (Some x.1) (modes_under xs h)) ≡ false → list_any test (cond (not b) (x ∷ without_handle xs h) (without_handle xs h)) ≡ (test x || list_any test xs)) [
      | true ↦ λ e. absurd (cc)
      | false ↦ λ e. ap (λ b. test x || b) (nothing_under test xs h e)
    ] none

no_more : (had new : Bool) → (new && not had) ≡ false → (new || had) ≡ had
no_more true true h = refl
no_more true false h = refl
no_more false true h = absurd (cc)
no_more false false h = refl

no_less : (had left : Bool) → (left ≡ true → had ≡ true) → (had && not left) ≡ false → left ≡ had
no_less true true k h = refl
no_less true false k h = absurd (cc)
no_less false true k h = sym (k refl)
no_less false false k h = refl

-- one handle more turns on what it lists
opened : (own : Handles) (h : ℕ) (modes : Modes) (m : Mode) → is_some (modes_under own h) ≡ false → (In m (modes_listed (modes_on own modes)) → ⊥) → list_any (has_it m) (with_handle own h modes) ≡ list_any (has_it m) own
opened own h modes m new none =
    let off : (has modes m && not (list_any (has_it m) own)) ≡ false =
    ap (λ b. has modes m && not b) (sym (has_all own m)) ∙ sym (without_has modes (all_modes own) m) ∙ unlisted (modes_on own modes) m none in
    any_put (has_it m) (is_above h) (h, modes) (without_handle own h)
    ∙ ap (λ b. has modes m || b) (nothing_under (has_it m) own h new)
    ∙ no_more (list_any (has_it m) own) (has modes m) off

fewer_have : {X : Type 0} (test keep : X → Bool) (xs : List X) → list_any test (filter keep xs) ≡ true → list_any test xs ≡ true
fewer_have test keep xs h =
    let q = any_In test (filter keep xs) h in
    In_any test xs q.0 (In-filter keep q.0 xs q.1.0) q.1.1

-- one handle less turns off what it lists
closed : (own : Handles) (h : ℕ) (m : Mode) → (In m (modes_listed (modes_off own h)) → ⊥) → list_any (has_it m) (without_handle own h) ≡ list_any (has_it m) own
closed own h m none =
    let off : (list_any (has_it m) own && not (list_any (has_it m) (without_handle own h))) ≡ false =
    ap (λ b. list_any (has_it m) own && not b) (sym (has_all (without_handle own h) m))
    ∙ ap (λ b. b && not (has (all_modes (without_handle own h)) m)) (sym (has_all own m))
    ∙ sym (without_has (all_modes own) (all_modes (without_handle own h)) m)
    ∙ unlisted (modes_off own h) m none in
    no_less (list_any (has_it m) own) (list_any (has_it m) (without_handle own h)) (fewer_have (has_it m) (λ x. not (x.0 == h)) own) off

-- ## What opens and closes stand on

abbrev asked : (Field → Value) → Script → List Need
asked values script = (walk_along (known_with values) always script).items

abbrev replied : (Field → Value) → Script → Option Reply
replied values script = (walk_along (known_with values) always script).reply

abbrev self_need : List ℕ → Mode → Need
self_need file m = need.Lease (SelfW file m) Exclusive

selves_asked : (values : Field → Value) (ms : List Mode) (file : List ℕ) (r : Reply) (m : Mode) → In m ms → In (self_need file m) (asked values (ask_selves ms file r))
selves_asked values [] file r m i = absurd i
selves_asked values (n ∷ ns) file r m i = elim i [
  | inl e ↦ inl (ap (self_need file) e)
  | inr j ↦ inr (selves_asked values ns file r m j)
]

-- an open that comes about asks for all that stands behind the modes of others
others_asked : (values : Field → Value) (ms : List Mode) (file : List ℕ) (found : Bool) (go : Script) (n : Need) → replied values (ask_others reply.Sharing ms file found go) ≡ Some reply.Opened → In n (asked values go) → In n (asked values (ask_others reply.Sharing ms file found go))
others_asked values [] file true go n h i = absurd (cc)
others_asked values [] file false go n h i = i
others_asked values (m ∷ ms) file found go n h i = inr (others_asked values ms file (found || is_other_told (Some (values (Other file m)))) go n h i)

free_asked : (values : Field → Value) (b : Bool) (own : Handles) (file : List ℕ) (modes : Modes) (m : Mode) → replied values (open_free b own file modes) ≡ Some reply.Opened → In m (modes_listed (modes_on own modes)) → In (self_need file m) (asked values (open_free b own file modes))
free_asked values true own file modes m h i = absurd (cc)
free_asked values false own file modes m h i =
    others_asked values (modes_listed (opposing modes)) file false (ask_selves (modes_listed (modes_on own modes)) file reply.Opened) (self_need file m) h
    (selves_asked values (modes_listed (modes_on own modes)) file reply.Opened m i)

-- the handle was not there, and each mode that it turns on was asked for
abbrev Opens : (Field → Value) → Handles → List ℕ → ℕ → Modes → Mode → Script → Type 0
Opens values own file h modes m script = (is_some (modes_under own h) ≡ false) × (In m (modes_listed (modes_on own modes)) → In (self_need file m) (asked values script))

open_by : (values : Field → Value) (b : Bool) (own : Handles) (file : List ℕ) (h : ℕ) (modes : Modes) (m : Mode) → is_some (modes_under own h) ≡ b → replied values (cond b (answer reply.HandleUsed) (open_free (own_conflicts own modes) own file modes)) ≡ Some reply.Opened
    → Opens values own file h modes m (cond b (answer reply.HandleUsed) (open_free (own_conflicts own modes) own file modes))
open_by values true own file h modes m e r = absurd (cc)
open_by values false own file h modes m e r = (e, free_asked values (own_conflicts own modes) own file modes m r)

close_by : (values : Field → Value) (b : Bool) (own : Handles) (file : List ℕ) (h : ℕ) (m : Mode) → replied values (cond b (ask_selves (modes_listed (modes_off own h)) file reply.Closed) (answer reply.NoHandle)) ≡ Some reply.Closed
    → In m (modes_listed (modes_off own h)) → In (self_need file m) (asked values (cond b (ask_selves (modes_listed (modes_off own h)) file reply.Closed) (answer reply.NoHandle)))
close_by values true own file h m r i = selves_asked values (modes_listed (modes_off own h)) file reply.Closed m i
close_by values false own file h m r i = absurd (cc)

module _ (m : RecordMap) (by : Session) where
  -- the session's own handles on the file
  abbrev own : List ℕ → Handles
  own f = own_of by (handles_of (node_of (get m f)))

  abbrev values : Field → Value
  values = value_of m by

  behind_life : (life : Option (Option Kind)) (file : List ℕ) (h : ℕ) (modes : Modes) (mode : Mode) → replied values (unless (no_file life) (ask_own file h modes)) ≡ Some reply.Opened → Opens values (own file) file h modes mode (unless (no_file life) (ask_own file h modes))
  behind_life (Some None) file h modes mode r = absurd (cc)
  behind_life None file h modes mode r = let q = open_by values (is_some (modes_under (own file) h)) (own file) file h modes mode refl r in (q.0, λ i. inr (q.1 i))
  behind_life (Some (Some kind)) file h modes mode r = let q = open_by values (is_some (modes_under (own file) h)) (own file) file h modes mode refl r in (q.0, λ i. inr (q.1 i))

  -- a file that is made was none before
  abbrev Dead : Op → Reply → Type 0
  Dead (op.Create dir name kind (Some id)) reply.Made = get (nodes_of m) id ≡ None
  Dead o r = Unit {0}

  new_dead : (b : Bool) (dir name id : List ℕ) (kind : Kind) → (is_child dir id && not (is_some (get (nodes_of m) id))) ≡ b → (cond b (record { reply = reply.Made; nodes = with_new_node (nodes_of m) dir name kind id }) (reply_alone (nodes_of m) reply.BadId)).reply ≡ reply.Made → get (nodes_of m) id ≡ None
  new_dead true dir name id kind e r = absent (get (nodes_of m) id) (second (is_child dir id) (not (is_some (get (nodes_of m) id))) e)
  new_dead false dir name id kind e r = absurd (cc)

  place_dead : (b : Bool) (dir name id : List ℕ) (kind : Kind) → (cond b (reply_alone (nodes_of m) reply.Exists) (create_as (nodes_of m) dir name kind (Some id))).reply ≡ reply.Made → get (nodes_of m) id ≡ None
  place_dead true dir name id kind r = absurd (cc)
  place_dead false dir name id kind r = new_dead (is_child dir id && not (is_some (get (nodes_of m) id))) dir name id kind refl r

  dir_dead : (o : Option Node) (dir name id : List ℕ) (kind : Kind) → (create o (nodes_of m) dir name kind (Some id)).reply ≡ reply.Made → get (nodes_of m) id ≡ None
  dir_dead None dir name id kind r = absurd (cc)
  dir_dead (Some d) dir name id kind r =
      elim d.kind as (λ j. (create_in j (nodes_of m) d dir name kind (Some id)).reply ≡ reply.Made → get (nodes_of m) id ≡ None) [
        | File ↦ λ h. absurd (cc)
        | Dir ↦ λ h. place_dead (is_some (child_at d.children name)) dir name id kind h
      ] r

  dead : (o : Op) (r : Reply) → (step (nodes_of m) by o).reply ≡ r → Dead o r
  dead (op.Create dir name kind (Some id)) reply.Made h = dir_dead (get (nodes_of m) dir) dir name id kind h
  dead o r h = tt

  -- ## The session's own modes after the entry

  abbrev own_in : Value → Handles
  own_in (value.Own handles) = handles
  own_in v = []

  abbrev then : Op → Reply → List ℕ → Handles
  then o r f = own_in (value_after_all by (Own f) (value_of m by (Own f)) (effects_of by o r))

  -- the walk asks for no lease to change what the session tells of the mode
  abbrev Unasked : Op → List ℕ → Mode → Type 0
  Unasked o f mode = In (self_need f mode) (walk (known_with values) always o).items → ⊥

  born_with_none : (b : Bool) (f id : List ℕ) (mode : Mode) → same f id ≡ b → get (nodes_of m) id ≡ None → list_any (has_it mode) (cond b [] (own f)) ≡ list_any (has_it mode) (own f)
  born_with_none true f id mode e none = ap (λ o. list_any (has_it mode) (own_of by (handles_of o))) (sym (ap (λ g. node_of (get m g)) (same_is f id e) ∙ sym (node_there m id) ∙ none))
  born_with_none false f id mode e none = refl

  moved : (o : Op) (f file : List ℕ) (mode : Mode) → f ≡ file → Unasked o f mode → Unasked o file mode
  moved o f file mode e none = subst (λ g. Unasked o g mode) e none

  open_keeps : (b : Bool) (f file : List ℕ) (h : ℕ) (modes : Modes) (mode : Mode) → (same f file && (by.0 == by.0)) ≡ b → (walk (known_with values) always (op.OpenFile file h modes)).reply ≡ Some reply.Opened → Unasked (op.OpenFile file h modes) f mode
      → list_any (has_it mode) (cond b (with_handle (own f) h modes) (own f)) ≡ list_any (has_it mode) (own f)
  open_keeps true f file h modes mode e r none =
      let at : f ≡ file = same_is f file (both (same f file) (by.0 == by.0) e).0 in
      let q = behind_life (life_told (Some (values (Life file)))) file h modes mode r in
      subst (λ g. list_any (has_it mode) (with_handle (own g) h modes) ≡ list_any (has_it mode) (own g)) (sym at)
      (opened (own file) h modes mode q.0 (λ i. moved (op.OpenFile file h modes) f file mode at none (inr (q.1 i))))
  open_keeps false f file h modes mode e r none = refl

  close_keeps : (b : Bool) (f file : List ℕ) (h : ℕ) (mode : Mode) → (same f file && (by.0 == by.0)) ≡ b → (walk (known_with values) always (op.Close file h)).reply ≡ Some reply.Closed → Unasked (op.Close file h) f mode
      → list_any (has_it mode) (cond b (without_handle (own f) h) (own f)) ≡ list_any (has_it mode) (own f)
  close_keeps true f file h mode e r none =
      let at : f ≡ file = same_is f file (both (same f file) (by.0 == by.0) e).0 in
      subst (λ g. list_any (has_it mode) (without_handle (own g) h) ≡ list_any (has_it mode) (own g)) (sym at)
      (closed (own file) h mode (λ i. moved (op.Close file h) f file mode at none (inr (close_by values (is_some (modes_under (own file) h)) (own file) file h mode r i))))
  close_keeps false f file h mode e r none = refl

  -- what was not asked for stays
  own_stays : (o : Op) (r : Reply) (f : List ℕ) (mode : Mode) → (walk (known_with values) always o).reply ≡ Some r → Dead o r → Unasked o f mode → list_any (has_it mode) (then o r f) ≡ list_any (has_it mode) (own f)
  own_stays (op.Create dir name kind (Some id)) reply.Made f mode h none free = born_with_none (same f id) f id mode refl none
  own_stays (op.OpenFile file k modes) reply.Opened f mode h none free = open_keeps (same f file && (by.0 == by.0)) f file k modes mode refl h free
  own_stays (op.Close file k) reply.Closed f mode h none free = close_keeps (same f file && (by.0 == by.0)) f file k mode refl h free
  own_stays (op.Set file k size stamp) reply.Set f mode h none free = refl
  own_stays o r f mode h none free = refl

-- ## Promises

own_unmet : (f : List ℕ) (n : Need) → item_meets (Own f) Shared n ≡ false
own_unmet f (need.Lease (Names g) Exclusive) = refl
own_unmet f (need.Lease g Exclusive) = refl
own_unmet f (need.Lease g Shared) = refl
own_unmet f (need.Fresh dir) = refl

tells_itself : (f : List ℕ) (m : Mode) → is_self f m (SelfW f m) ≡ true
tells_itself f m = joined (same f f) (same_mode m m) (same_self f) (nat_eq_equiv.refl (mode_rank m))

module _ (s : Server) (by : Session) (e : Entry) (stand : AllStand s.rows by e.uses) (plain : IsEntry e) (right : IsAnswer (value_of s.records by) e) (records : AreRecords s.records) where
  abbrev after : RecordMap
  after = records_after_all s.records (effects_of by e.op e.reply)

  -- what a row of the session does not let it change it did not ask for
  unasked : (f : List ℕ) (mode : Mode) → is_fixed s.rows f mode by ≡ true → Unasked s.records by e.op f mode
  unasked f mode fixed i =
      let u : HasUse e.uses (SelfW f mode) Exclusive = right.covered (self_need f mode) i in
      let row : Stands s.rows by u.used = stand u.used u.among in
      let other : (row.row.session.0 == by.0) ≡ false = fixed_row s.rows f mode by row.row fixed row.stands (ap (is_self f mode) (row.field ∙ u.field) ∙ tells_itself f mode) in
      let wrong : true ≡ false = sym (nat_eq_equiv.refl by.0) ∙ ap (λ (x : Session). x.0 == by.0) (sym row.session) ∙ other in
      absurd (cc)

  own_fixed : (f : List ℕ) (mode : Mode) → is_fixed s.rows f mode by ≡ true → has_mode (selves_in after f) by mode ≡ has_mode (selves_in s.records f) by mode
  own_fixed f mode fixed =
      let reply = answered s.records by e plain right in
      mode_by_own after f mode by
      ∙ ap (λ v. list_any (has_it mode) (own_in s.records by v)) (own_values s.records by e.op e.reply (Own f) records plain.plain reply)
      ∙ own_stays s.records by e.op e.reply f mode right.reply (dead s.records by e.op e.reply reply) (unasked f mode fixed)
      ∙ sym (mode_by_own s.records f mode by)

  others_fixed : (f : List ℕ) (mode : Mode) (x : Session) → (by.0 == x.0) ≡ false → has_mode (selves_in after f) x mode ≡ has_mode (selves_in s.records f) x mode
  others_fixed f mode x other =
      mode_by_own after f mode x
      ∙ ap (λ v. list_any (has_it mode) (own_in s.records by v))
      (others_values s.records by x e.op e.reply (Own f) Shared records plain.plain (answered s.records by e plain right) other refl
      (In_none (item_meets (Own f) Shared) (walk (known_in (nodes_of s.records) by) always e.op).items (λ n j. own_unmet f n)))
      ∙ sym (mode_by_own s.records f mode x)

  changes : ChangesByRows s.rows (selves_in s.records) (selves_in after)
  changes f mode x fixed = elim (by.0 == x.0) as (λ b. (by.0 == x.0) ≡ b → has_mode (selves_in after f) x mode ≡ has_mode (selves_in s.records f) x mode) [
    | true ↦ λ t.
        let is : by ≡ x = one_session by x t in
        subst (λ y. has_mode (selves_in after f) y mode ≡ has_mode (selves_in s.records f) y mode) is (own_fixed f mode (subst (λ y. is_fixed s.rows f mode y ≡ true) (sym is) fixed))
    | false ↦ λ t. others_fixed f mode x t
  ] refl

  -- an entry whose rows all stand breaks no promise
  pub promises_stand : PromisesKept s.records s.rows → PromisesKept (with_entry by e s).records (with_entry by e s).rows
  promises_stand = changes_kept s.rows (selves_in s.records) (selves_in after) changes

-- the same of an entry of a client as it will be
pub promises_admitted : (s : Server) (by : Session) (e : Entry) → AllStand s.rows by e.uses → IsEntry e → IsAnswer (value_of s.records by) e → AreRecords s.records → PromisesKept s.records s.rows → PromisesKept (with_entry by e s).records (with_entry by e s).rows
promises_admitted s by e stand plain right records = promises_stand s by e stand plain right records
