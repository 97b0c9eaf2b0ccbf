-- What other sessions do not see of an operation.
use Rattle.std.proofs.Common.{◌≡◌, ℕ, ◌&&◌, ◌||◌, ◌==◌, Bool, true, false, not, List, refl, ap, cond, sym, ◌∙◌, subst}
use Rattle.std.proofs.lemmas.Bool.{and_right}
use Rattle.std.specs.Prelude.{Option, Some, None, is_some}
use Rattle.std.specs.List.{list_any}
use Rattle.std.specs.FinMap.{get}
use Rattle.std.specs.Ordering.{nat_cmp, eq_by_cmp}
use Rattle.std.specs.Cmp.Lexicographic.{slice_cmp, same_text}
use Rattle.fs_ident.specs.Ident.{same}
use Rattle.fs_ident.proofs.Booleans.{both, neither}
use Rattle.fs_ident.specs.declared.actor.Session.{Session}
use Rattle.fs_ident.specs.declared.kind.Kind.{Kind}
use Rattle.fs_ident.specs.declared.kind.Kind.TheVariants.{File, Dir}
use Rattle.fs_modes.specs.declared.modes.Modes.{Modes}
use Rattle.fs_field.specs.declared.effect.Effect.TheVariants.{SetChild, NewNode, AddHandle, RemoveHandle, SetInfo}
use Rattle.fs_field.specs.declared.field.Field.{Field}
use Rattle.fs_field.specs.declared.field.Field.TheVariants.{Life, Child, Names, Info, Own, SelfW, Other}
use Rattle.fs_field.specs.declared.lease_kind.LeaseKind.{LeaseKind}
use Rattle.fs_field.specs.declared.lease_kind.LeaseKind.TheVariants.{Shared, Exclusive}
use Rattle.fs_field.specs.declared.value.Value.TheVariants as value
use Rattle.fs_field.specs.After.{touches, value_after}
use Rattle.fs_field.specs.After as field
use Rattle.fs_field.specs.Conflict.{meets}
use Rattle.fs_field.specs.Field.{file_of}
use Rattle.fs_field.proofs.Untouched.{value_stays}
use Rattle.fs_model.specs.declared.node.Node.{Node}
use Rattle.fs_model.specs.declared.op.Op.{Op}
use Rattle.fs_model.specs.declared.op.Op.TheVariants as op
use Rattle.fs_model.specs.declared.reply.Reply.{Reply}
use Rattle.fs_model.specs.Children.{child_at}
use Rattle.fs_model.specs.Handles.{handle_at, any_conflicts}
use Rattle.fs_model.specs.Namespace.{fresh_node}
use Rattle.fs_model.specs.Sound.{kind_of, child_of}
use Rattle.fs_model.specs.Step.{Stepped, step, is_child, create, create_in, open_file, close, set, set_by}
use Rattle.fs_record.specs.declared.record.Record.{Record}
use Rattle.fs_record.specs.Records.{RecordMap, AreRecords, nodes_of, node_of}
use Rattle.fs_record.specs.Applied.{records_after, records_after_all, record_change, has_target}
use Rattle.fs_record.specs.Effects.{effects_of, tells_its_effects}
use Rattle.fs_record.specs.ValueOf.{value_of, value_at, handles_of, own_of, is_other}
use Rattle.fs_record.proofs.Kept.{after_kept, get_with_at}
use Rattle.fs_record.proofs.NodeValues.{tied}
use Rattle.fs_record.proofs.ValueChanges.{value_follows, change_node}
use Rattle.fs_view.specs.Told.{modes_under}
use Rattle.fs_view.specs.Script.{Script, unless, no_dir, taken_name, no_write, ask_place, ask_size, new_file}
use Rattle.fs_view.specs.Walk.{walk_along, walk, known_in, always}
use Rattle.fs_view.specs.Laws.{item_meets}
use Rattle.fs_view.proofs.Conflicting.{own_handle}
use Rattle.fs_view.proofs.Seeing.{recorded, unborn, absent}

front : (x c : Bool) → ((x && true) || c) ≡ false → x ≡ false
front true c h = absurd (cc)
front false c h = refl

-- ## What no exclusive item meets is not touched

pub child_untouched : (field : Field) (kind : LeaseKind) (dir name : List ℕ) (to : Option (List ℕ)) → meets field kind (Child dir name) Exclusive ≡ false → touches (SetChild dir name to) field ≡ false
child_untouched (Life f) kind dir name to h = refl
child_untouched (Child d n) Shared dir name to h = front (same d dir && same n name) _ h
child_untouched (Child d n) Exclusive dir name to h = front (same d dir && same n name) _ h
child_untouched (Names d) Shared dir name to h = front (same d dir) _ h
child_untouched (Names d) Exclusive dir name to h = front (same d dir) _ h
child_untouched (Info f) kind dir name to h = refl
child_untouched (Own f) kind dir name to h = refl
child_untouched (SelfW f m) kind dir name to h = refl
child_untouched (Other f m) kind dir name to h = refl

pub life_untouched : (f : List ℕ) (kind : LeaseKind) (id : List ℕ) → meets (Life f) kind (Life id) Exclusive ≡ false → same f id ≡ false
life_untouched f Shared id h = front (same f id) _ h
life_untouched f Exclusive id h = front (same f id) _ h

info_untouched : (field : Field) (kind : LeaseKind) (file : List ℕ) (size stamp : ℕ) → meets field kind (Info file) Exclusive ≡ false → touches (SetInfo file size stamp) field ≡ false
info_untouched (Life f) kind file size stamp h = refl
info_untouched (Child d n) kind file size stamp h = refl
info_untouched (Names d) kind file size stamp h = refl
info_untouched (Info f) Shared file size stamp h = front (same f file) _ h
info_untouched (Info f) Exclusive file size stamp h = front (same f file) _ h
info_untouched (Own f) kind file size stamp h = refl
info_untouched (SelfW f m) kind file size stamp h = refl
info_untouched (Other f m) kind file size stamp h = refl

-- ## One effect

child_unseen : (m : RecordMap) (y : Session) (field : Field) (kind : LeaseKind) (dir name : List ℕ) (to : Option (List ℕ)) → AreRecords m → is_other field ≡ false → has_target m (SetChild dir name to) ≡ true → meets field kind (Child dir name) Exclusive ≡ false → value_of (records_after m (SetChild dir name to)) y field ≡ value_of m y field
child_unseen m y field kind dir name to own other met h =
    value_follows m y field (SetChild dir name to) own other met ∙ value_stays y field (value_of m y field) (SetChild dir name to) (child_untouched field kind dir name to h)

info_unseen : (m : RecordMap) (y : Session) (field : Field) (kind : LeaseKind) (file : List ℕ) (size stamp : ℕ) → AreRecords m → is_other field ≡ false → has_target m (SetInfo file size stamp) ≡ true → meets field kind (Info file) Exclusive ≡ false → value_of (records_after m (SetInfo file size stamp)) y field ≡ value_of m y field
info_unseen m y field kind file size stamp own other met h =
    value_follows m y field (SetInfo file size stamp) own other met ∙ value_stays y field (value_of m y field) (SetInfo file size stamp) (info_untouched field kind file size stamp h)

handle_added : (m : RecordMap) (s y : Session) (field : Field) (file : List ℕ) (h : ℕ) (modes : Modes) → (s.0 == y.0) ≡ false → value_after y field (value_of m y field) (AddHandle file s h modes) ≡ value_of m y field
handle_added m s y (Life f) file h modes apart = refl
handle_added m s y (Child f n) file h modes apart = refl
handle_added m s y (Names f) file h modes apart = refl
handle_added m s y (Info f) file h modes apart = refl
handle_added m s y (Own f) file h modes apart =
    let own = own_of y (handles_of (node_of (get m f))) in
    ap (λ b. value.Own (cond b (field.with_handle own h modes) own)) (and_right (same f file) (s.0 == y.0) apart)
handle_added m s y (SelfW f md) file h modes apart = refl
handle_added m s y (Other f md) file h modes apart = refl

handle_gone : (m : RecordMap) (s y : Session) (field : Field) (file : List ℕ) (h : ℕ) → (s.0 == y.0) ≡ false → value_after y field (value_of m y field) (RemoveHandle file s h) ≡ value_of m y field
handle_gone m s y (Life f) file h apart = refl
handle_gone m s y (Child f n) file h apart = refl
handle_gone m s y (Names f) file h apart = refl
handle_gone m s y (Info f) file h apart = refl
handle_gone m s y (Own f) file h apart =
    let own = own_of y (handles_of (node_of (get m f))) in
    ap (λ b. value.Own (cond b (field.without_handle own h) own)) (and_right (same f file) (s.0 == y.0) apart)
handle_gone m s y (SelfW f md) file h apart = refl
handle_gone m s y (Other f md) file h apart = refl

-- where no node was, a new one changes the life of its file alone
new_unseen_by : (m : RecordMap) (y : Session) (field : Field) (id : List ℕ) (k : Kind) (dir name : List ℕ) → node_of (get m id) ≡ None → value_at y field (Some (fresh_node k (Some (dir, name)))) ≡ value_at y field None → value_of (records_after m (NewNode id k dir name)) y field ≡ value_of m y field
new_unseen_by m y field id k dir name none fresh =
    ap (λ (o : Option Record). value_at y field (node_of o)) (get_with_at m id (record_change (NewNode id k dir name) (get m id)) (file_of field)) ∙ go (eq_by_cmp (slice_cmp nat_cmp) (file_of field) id) refl
  where
    go : (b : Bool) → eq_by_cmp (slice_cmp nat_cmp) (file_of field) id ≡ b → value_at y field (node_of (cond b (record_change (NewNode id k dir name) (get m id)) (get m (file_of field)))) ≡ value_of m y field
    go true t =
        let at : file_of field ≡ id = same_text (file_of field) id (sym (sym (tied (file_of field) id) ∙ t)) in
        ap (value_at y field) (change_node (NewNode id k dir name) (get m id)) ∙ (fresh ∙ (sym (ap (value_at y field) none) ∙ ap (λ x. value_at y field (node_of (get m x))) (sym at)))
    go false t = refl

new_unseen : (m : RecordMap) (y : Session) (field : Field) (kind : LeaseKind) (id : List ℕ) (k : Kind) (dir name : List ℕ) → AreRecords m → node_of (get m id) ≡ None → meets field kind (Life id) Exclusive ≡ false → value_of (records_after m (NewNode id k dir name)) y field ≡ value_of m y field
new_unseen m y (Life f) kind id k dir name own none h =
    value_follows m y (Life f) (NewNode id k dir name) own refl refl ∙ value_stays y (Life f) (value_of m y (Life f)) (NewNode id k dir name) (life_untouched f kind id h)
new_unseen m y (Child f n) kind id k dir name own none h = new_unseen_by m y (Child f n) id k dir name none refl
new_unseen m y (Names f) kind id k dir name own none h = new_unseen_by m y (Names f) id k dir name none refl
new_unseen m y (Info f) kind id k dir name own none h = new_unseen_by m y (Info f) id k dir name none refl
new_unseen m y (Own f) kind id k dir name own none h = new_unseen_by m y (Own f) id k dir name none refl
new_unseen m y (SelfW f md) kind id k dir name own none h = new_unseen_by m y (SelfW f md) id k dir name none refl
new_unseen m y (Other f md) kind id k dir name own none h = new_unseen_by m y (Other f md) id k dir name none refl

-- ## Operations

-- no exclusive item of this part of the walk meets the field
abbrev pub Free : RecordMap → Session → Field → LeaseKind → Script → Type 0
Free m s field kind script = list_any (item_meets field kind) (walk_along (known_in (nodes_of m) s) always script).items ≡ false

-- the other session sees of the field what it saw before the outcome's effects
abbrev Unseen : RecordMap → Session → Session → Op → Field → Stepped → Type 0
Unseen m s y o field t = value_of (records_after_all m (effects_of s o t.reply)) y field ≡ value_of m y field

unseen_if : (m : RecordMap) (s y : Session) (o : Op) (field : Field) (b : Bool) (t u : Stepped) → (b ≡ true → Unseen m s y o field t) → (b ≡ false → Unseen m s y o field u) → Unseen m s y o field (cond b t u)
unseen_if m s y o field true t u p q = p refl
unseen_if m s y o field false t u p q = q refl

none_there : (c : Option (List ℕ)) → is_some c ≡ false → c ≡ None
none_there None h = refl
none_there (Some file) h = absurd (cc)

made_unseen : (m : RecordMap) (s y : Session) (dir name : List ℕ) (k : Kind) (id : List ℕ) (field : Field) (kind : LeaseKind) (d : Node) → AreRecords m → is_other field ≡ false → get (nodes_of m) dir ≡ Some d → (is_child dir id && not (is_some (get (nodes_of m) id))) ≡ true
    → meets field kind (Child dir name) Exclusive ≡ false → meets field kind (Life id) Exclusive ≡ false
    → value_of (records_after (records_after m (SetChild dir name (Some id))) (NewNode id k dir name)) y field ≡ value_of m y field
made_unseen m s y dir name k id field kind d own other e c p q =
    let f : (is_child dir id ≡ true) × (not (is_some (get (nodes_of m) id)) ≡ true) = both _ _ c in
    new_unseen (records_after m (SetChild dir name (Some id))) y field kind id k dir name (after_kept m (SetChild dir name (Some id)) own) (unborn m dir name id f.0 (absent _ f.1)) q
    ∙ child_unseen m y field kind dir name (Some id) own other (recorded m dir d e) p

place_unseen : (m : RecordMap) (s y : Session) (dir name : List ℕ) (k : Kind) (id : List ℕ) (field : Field) (kind : LeaseKind) (d : Node) → AreRecords m → is_other field ≡ false → get (nodes_of m) dir ≡ Some d
    → Free m s field kind (ask_place dir name (Some id)) → Unseen m s y (op.Create dir name k (Some id)) field (create_in Dir (nodes_of m) d dir name k (Some id))
place_unseen m s y dir name k id field kind d own other e free =
    let parts : (meets field kind (Child dir name) Exclusive ≡ false) × Free m s field kind (unless (taken_name (Some (child_of (get (nodes_of m) dir) name))) (new_file dir (Some id))) = neither _ _ free in
    unseen_if m s y (op.Create dir name k (Some id)) field (is_some (child_at d.children name)) _ _ (λ _. refl)
    (λ unused.
    let here : child_of (get (nodes_of m) dir) name ≡ None = ap (λ (o : Option Node). child_of o name) e ∙ none_there _ unused in
    let last : Free m s field kind (new_file dir (Some id)) = subst (λ c. Free m s field kind (unless (taken_name (Some c)) (new_file dir (Some id)))) here parts.1 in
    let life : (meets field kind (Life id) Exclusive ≡ false) × (false ≡ false) = neither _ _ last in
    unseen_if m s y (op.Create dir name k (Some id)) field (is_child dir id && not (is_some (get (nodes_of m) id))) _ _
    (λ c. made_unseen m s y dir name k id field kind d own other e c parts.0 life.0) (λ _. refl))

create_unseen : (m : RecordMap) (s y : Session) (dir name : List ℕ) (k : Kind) (id : Option (List ℕ)) (field : Field) (kind : LeaseKind) (o : Option Node) → AreRecords m → is_other field ≡ false → get (nodes_of m) dir ≡ o
    → Free m s field kind (unless (no_dir (Some (kind_of o))) (ask_place dir name id)) → Unseen m s y (op.Create dir name k id) field (create o (nodes_of m) dir name k id)
create_unseen m s y dir name k None field kind None own other e free = refl
create_unseen m s y dir name k (Some id) field kind None own other e free = refl
create_unseen m s y dir name k None field kind (Some d) own other e free = refl
create_unseen m s y dir name k (Some id) field kind (Some d) own other e free =
    elim d.kind as (λ j. Free m s field kind (unless (no_dir (Some (Some j))) (ask_place dir name (Some id))) → Unseen m s y (op.Create dir name k (Some id)) field (create_in j (nodes_of m) d dir name k (Some id))) [
      | File ↦ λ f. refl
      | Dir ↦ λ f. place_unseen m s y dir name k id field kind d own other e f
    ] free

open_unseen : (m : RecordMap) (s y : Session) (file : List ℕ) (h : ℕ) (modes : Modes) (field : Field) (o : Option Node) → AreRecords m → is_other field ≡ false → (s.0 == y.0) ≡ false → get (nodes_of m) file ≡ o → Unseen m s y (op.OpenFile file h modes) field (open_file o (nodes_of m) s file h modes)
open_unseen m s y file h modes field None own other apart e = refl
open_unseen m s y file h modes field (Some n) own other apart e =
    unseen_if m s y (op.OpenFile file h modes) field (is_some (handle_at n.handles s h)) _ _ (λ _. refl) (λ _.
    unseen_if m s y (op.OpenFile file h modes) field (any_conflicts n.handles modes) _ _ (λ _. refl) (λ _.
    value_follows m y field (AddHandle file s h modes) own other (recorded m file n e) ∙ handle_added m s y field file h modes apart))

close_unseen : (m : RecordMap) (s y : Session) (file : List ℕ) (h : ℕ) (field : Field) (o : Option Node) → AreRecords m → is_other field ≡ false → (s.0 == y.0) ≡ false → get (nodes_of m) file ≡ o → Unseen m s y (op.Close file h) field (close o (nodes_of m) s file h)
close_unseen m s y file h field None own other apart e = refl
close_unseen m s y file h field (Some n) own other apart e =
    unseen_if m s y (op.Close file h) field (is_some (handle_at n.handles s h)) _ _
    (λ _. value_follows m y field (RemoveHandle file s h) own other (recorded m file n e) ∙ handle_gone m s y field file h apart) (λ _. refl)

write_unseen : (m : RecordMap) (s y : Session) (file : List ℕ) (h size stamp : ℕ) (field : Field) (kind : LeaseKind) (n : Node) (w : Option Modes) → AreRecords m → is_other field ≡ false → get (nodes_of m) file ≡ Some n
    → Free m s field kind (unless (no_write w) (ask_size file)) → Unseen m s y (op.Set file h size stamp) field (set_by w (nodes_of m) file size stamp)
write_unseen m s y file h size stamp field kind n None own other e free = refl
write_unseen m s y file h size stamp field kind n (Some modes) own other e free =
    unseen_if m s y (op.Set file h size stamp) field modes.acc_w _ _
    (λ w.
    let last : Free m s field kind (ask_size file) = subst (λ b. Free m s field kind (unless (cond b None (no_write (Some (record modes { acc_w = false })))) (ask_size file))) w free in
    let info : (meets field kind (Info file) Exclusive ≡ false) × (false ≡ false) = neither _ _ last in
    info_unseen m y field kind file size stamp own other (recorded m file n e) info.0)
    (λ _. refl)

set_unseen : (m : RecordMap) (s y : Session) (file : List ℕ) (h size stamp : ℕ) (field : Field) (kind : LeaseKind) (o : Option Node) → AreRecords m → is_other field ≡ false → get (nodes_of m) file ≡ o
    → Free m s field kind (unless (no_write (handle_at (handles_of o) s h)) (ask_size file)) → Unseen m s y (op.Set file h size stamp) field (set o (nodes_of m) s file h size stamp)
set_unseen m s y file h size stamp field kind None own other e free = refl
set_unseen m s y file h size stamp field kind (Some n) own other e free = write_unseen m s y file h size stamp field kind n (handle_at n.handles s h) own other e free

unseen : (m : RecordMap) (s y : Session) (o : Op) (field : Field) (kind : LeaseKind) → AreRecords m → tells_its_effects o ≡ true → (s.0 == y.0) ≡ false → is_other field ≡ false
    → list_any (item_meets field kind) (walk (known_in (nodes_of m) s) always o).items ≡ false → Unseen m s y o field (step (nodes_of m) s o)
unseen m s y (op.Lookup dir name) field kind own p apart other free = refl
unseen m s y (op.List dir) field kind own p apart other free = refl
unseen m s y (op.Kind file) field kind own p apart other free = refl
unseen m s y (op.Info file) field kind own p apart other free = refl
unseen m s y (op.Create dir name k id) field kind own p apart other free = create_unseen m s y dir name k id field kind (get (nodes_of m) dir) own other refl free
unseen m s y (op.OpenFile file h modes) field kind own p apart other free = open_unseen m s y file h modes field (get (nodes_of m) file) own other apart refl
unseen m s y (op.Close file h) field kind own p apart other free = close_unseen m s y file h field (get (nodes_of m) file) own other apart refl
unseen m s y (op.Set file h size stamp) field kind own p apart other free =
    let parts : (meets field kind (Own file) Exclusive ≡ false) × Free m s field kind (unless (no_write (modes_under (own_of s (handles_of (get (nodes_of m) file))) h)) (ask_size file)) = neither _ _ free in
    set_unseen m s y file h size stamp field kind (get (nodes_of m) file) own other refl (subst (λ (w : Option Modes). Free m s field kind (unless (no_write w) (ask_size file))) (own_handle s h (handles_of (get (nodes_of m) file))) parts.1)
unseen m s y (op.Delete dir name) field kind own p apart other free = absurd (cc)
unseen m s y (op.Rename sdir sname ddir dname) field kind own p apart other free = absurd (cc)
unseen m s y (op.Reap file session) field kind own p apart other free = absurd (cc)

pub others_values : (m : RecordMap) (s y : Session) (o : Op) (r : Reply) (field : Field) (kind : LeaseKind) → AreRecords m → tells_its_effects o ≡ true → (step (nodes_of m) s o).reply ≡ r → (s.0 == y.0) ≡ false → is_other field ≡ false
    → list_any (item_meets field kind) (walk (known_in (nodes_of m) s) always o).items ≡ false → value_of (records_after_all m (effects_of s o r)) y field ≡ value_of m y field
others_values m s y o r field kind own p e apart other free = subst (λ x. value_of (records_after_all m (effects_of s o x)) y field ≡ value_of m y field) e (unseen m s y o field kind own p apart other free)
