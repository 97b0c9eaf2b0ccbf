-- What sessions see after the effects of an operation.
use Rattle.std.proofs.Common.{◌≡◌, ℕ, ◌&&◌, ◌||◌, ◌==◌, Bool, true, false, not, List, [], ◌∷◌, refl, ap, cond, sym, ◌∙◌, ◌+◌, length, subst, arith}
use Rattle.std.specs.Prelude.{Option, Some, None, is_some}
use Rattle.std.specs.FinMap.{get}
use Rattle.std.specs.Ordering.{nat_cmp, eq_by_cmp}
use Rattle.std.specs.Cmp.Lexicographic.{slice_cmp, same_text}
use Rattle.std.proofs.lemmas.Bool.{eq-eqb}
use Rattle.std.proofs.lemmas.Bool.Decides.{nat_tests}
use Rattle.fs_ident.specs.Ordered.{put_before}
use Rattle.fs_ident.proofs.Booleans.{both, first}
use Rattle.fs_ident.specs.declared.actor.Session.{Session}
use Rattle.fs_ident.specs.declared.kind.Kind.{Kind}
use Rattle.fs_ident.specs.declared.kind.Kind.TheVariants.{File, Dir}
use Rattle.fs_modes.specs.declared.modes.Mode.{Mode}
use Rattle.fs_modes.specs.declared.modes.Modes.{Modes}
use Rattle.fs_modes.specs.Modes.{has}
use Rattle.fs_field.specs.declared.effect.Effect.{Effect}
use Rattle.fs_field.specs.declared.effect.Effect.TheVariants.{SetChild, NewNode, AddHandle, RemoveHandle, SetInfo}
use Rattle.fs_field.specs.declared.field.Field.{Field}
use Rattle.fs_field.specs.declared.field.Field.TheVariants.{Life, Child, Names, Info, Own, SelfW, Other}
use Rattle.fs_field.specs.declared.value.Value.TheVariants as value
use Rattle.fs_field.specs.After.{value_after, changed_file}
use Rattle.fs_model.specs.declared.node.Handle.{Handle}
use Rattle.fs_model.specs.declared.node.Node.{Node}
use Rattle.fs_model.specs.declared.op.Op.{Op}
use Rattle.fs_model.specs.declared.op.Op.TheVariants as op
use Rattle.fs_model.specs.declared.reply.Reply.{Reply}
use Rattle.fs_model.specs.Children.{child_at}
use Rattle.fs_model.specs.Handles.{handle_at, any_conflicts, comes_before, without_handle}
use Rattle.fs_model.specs.Step.{Stepped, step, is_child, create, create_in, open_file, close, set, set_by}
use Rattle.fs_record.specs.declared.record.Record.{Record}
use Rattle.fs_record.specs.Records.{RecordMap, AreRecords, nodes_of, node_of}
use Rattle.fs_record.specs.Applied.{records_after, records_after_all, node_change, record_change, has_target}
use Rattle.fs_record.specs.Effects.{effects_of, tells_its_effects}
use Rattle.fs_record.specs.ValueOf.{value_of, value_at, handles_of, others_have}
use Rattle.fs_record.proofs.Kept.{after_kept, get_with_at}
use Rattle.fs_record.proofs.NodeMaps.{node_there}
use Rattle.fs_record.proofs.NodeValues.{tied}
use Rattle.fs_record.proofs.ValueChanges.{value_follows, change_node}
use Rattle.fs_view.specs.View.{value_after_all}

-- ## What others have

-- a handle more or less of the session's own tells it nothing new of the others
own_put : (s : Session) (md : Mode) (new : Handle) (hs : List Handle) (test : Handle → Bool) → (new.session.0 == s.0) ≡ true → others_have s md (put_before test new hs) ≡ others_have s md hs
own_put s md new [] test e = ap (λ b. (not b && has new.modes md) || false) e
own_put s md new (x ∷ xs) test e =
    elim (test x) as (λ b. others_have s md (cond b (new ∷ x ∷ xs) (x ∷ put_before test new xs)) ≡ others_have s md (x ∷ xs)) [
      | true ↦ ap (λ b. (not b && has new.modes md) || others_have s md (x ∷ xs)) e
      | false ↦ ap (λ b. (not (x.session.0 == s.0) && has x.modes md) || b) (own_put s md new xs test e)
    ]

taken_by : (s : Session) (md : Mode) (x : Handle) (rest xs : List Handle) (b c : Bool) → (x.session.0 == s.0) ≡ b → others_have s md rest ≡ others_have s md xs → others_have s md (cond (not (b && c)) (x ∷ rest) rest) ≡ ((not b && has x.modes md) || others_have s md xs)
taken_by s md x rest xs true true e h = h
taken_by s md x rest xs true false e h = ap (λ b. (not b && has x.modes md) || others_have s md rest) e ∙ h
taken_by s md x rest xs false c e h = ap (λ b. (not b && has x.modes md) || others_have s md rest) e ∙ ap (λ b. has x.modes md || b) h

own_taken : (s : Session) (md : Mode) (h : ℕ) (hs : List Handle) → others_have s md (without_handle hs s h) ≡ others_have s md hs
own_taken s md h [] = refl
own_taken s md h (x ∷ xs) = taken_by s md x (without_handle xs s h) xs (x.session.0 == s.0) (x.h == h) refl (own_taken s md h xs)

-- the others' modes on the file of the effect stay
abbrev pub OthersStay : Session → Effect → Option Node → Type 0
OthersStay s e o = (md : Mode) → others_have s md (handles_of (node_change e o)) ≡ others_have s md (handles_of o)

child_stays : (s : Session) (dir name id : List ℕ) (o : Option Node) → OthersStay s (SetChild dir name (Some id)) o
child_stays s dir name id None md = refl
child_stays s dir name id (Some n) md = refl

new_stays : (s : Session) (id : List ℕ) (k : Kind) (dir name : List ℕ) (o : Option Node) → o ≡ None → OthersStay s (NewNode id k dir name) o
new_stays s id k dir name o e md = sym (ap (λ (o : Option Node). others_have s md (handles_of o)) e)

add_stays : (s : Session) (file : List ℕ) (h : ℕ) (modes : Modes) (o : Option Node) → OthersStay s (AddHandle file s h modes) o
add_stays s file h modes None md = refl
add_stays s file h modes (Some n) md =
    let new : Handle = record { session = s; h = h; modes = modes } in
    own_put s md new (without_handle n.handles s h) (comes_before new) (eq-eqb s.0 s.0 refl) ∙ own_taken s md h n.handles

remove_stays : (s : Session) (file : List ℕ) (h : ℕ) (o : Option Node) → OthersStay s (RemoveHandle file s h) o
remove_stays s file h None md = refl
remove_stays s file h (Some n) md = own_taken s md h n.handles

info_stays : (s : Session) (file : List ℕ) (size stamp : ℕ) (o : Option Node) → OthersStay s (SetInfo file size stamp) o
info_stays s file size stamp None md = refl
info_stays s file size stamp (Some n) md = refl

other_stays : (m : RecordMap) (s : Session) (f : List ℕ) (md : Mode) (e : Effect) → OthersStay s e (node_of (get m (changed_file e))) → value_of (records_after m e) s (Other f md) ≡ value_of m s (Other f md)
other_stays m s f md e stays =
    ap (λ (o : Option Record). value_at s (Other f md) (node_of o)) (get_with_at m k (record_change e (get m k)) f) ∙ go (eq_by_cmp (slice_cmp nat_cmp) f k) refl
  where
    k : List ℕ
    k = changed_file e

    go : (b : Bool) → eq_by_cmp (slice_cmp nat_cmp) f k ≡ b → value_at s (Other f md) (node_of (cond b (record_change e (get m k)) (get m f))) ≡ value_of m s (Other f md)
    go true t =
        let at : f ≡ k = same_text f k (sym (sym (tied f k) ∙ t)) in
        ap (value_at s (Other f md)) (change_node e (get m k)) ∙ (ap value.Other (stays md) ∙ ap (λ x. value_of m s (Other x md)) (sym at))
    go false t = refl

-- what the session itself sees after one of its effects
pub follow : (m : RecordMap) (s : Session) (field : Field) (e : Effect) → AreRecords m → has_target m e ≡ true → OthersStay s e (node_of (get m (changed_file e))) → value_of (records_after m e) s field ≡ value_after s field (value_of m s field) e
follow m s (Life f) e own met stays = value_follows m s (Life f) e own refl met
follow m s (Child f n) e own met stays = value_follows m s (Child f n) e own refl met
follow m s (Names f) e own met stays = value_follows m s (Names f) e own refl met
follow m s (Info f) e own met stays = value_follows m s (Info f) e own refl met
follow m s (Own f) e own met stays = value_follows m s (Own f) e own refl met
follow m s (SelfW f md) e own met stays = value_follows m s (SelfW f md) e own refl met
follow m s (Other f md) e own met stays = other_stays m s f md e stays

-- ## Operations

there : (o : Option Record) (n : Node) → node_of o ≡ Some n → is_some o ≡ true
there None n e = absurd (cc)
there (Some r) n e = refl

-- a record of that file, where the space has a node of it
pub recorded : (m : RecordMap) (file : List ℕ) (n : Node) → get (nodes_of m) file ≡ Some n → is_some (get m file) ≡ true
recorded m file n e = there (get m file) n (sym (node_there m file) ∙ e)

pub absent : (o : Option Node) → not (is_some o) ≡ true → o ≡ None
absent None h = refl
absent (Some n) h = absurd (cc)

not_itself : (dir id : List ℕ) → is_child dir id ≡ true → id ≡ dir → ⊥
not_itself dir id c e =
    let p : (length dir + 1 == length id) ≡ true = first _ _ c in
    let q : length id ≡ length dir = ap length e in absurd (grind (arith, nat_tests))

other_file : (dir id : List ℕ) → is_child dir id ≡ true → eq_by_cmp (slice_cmp nat_cmp) id dir ≡ false
other_file dir id c = elim (eq_by_cmp (slice_cmp nat_cmp) id dir) as (λ t. eq_by_cmp (slice_cmp nat_cmp) id dir ≡ t → t ≡ false) [
  | true ↦ λ e. absurd (not_itself dir id c (same_text id dir (sym (sym (tied id dir) ∙ e))))
  | false ↦ λ e. refl
] refl

-- the new file has no node yet when its name stands
pub unborn : (m : RecordMap) (dir name id : List ℕ) → is_child dir id ≡ true → get (nodes_of m) id ≡ None → node_of (get (records_after m (SetChild dir name (Some id))) id) ≡ None
unborn m dir name id c e =
    ap node_of (get_with_at m dir (record_change (SetChild dir name (Some id)) (get m dir)) id ∙ ap (λ b. cond b (record_change (SetChild dir name (Some id)) (get m dir)) (get m id)) (other_file dir id c))
    ∙ (sym (node_there m id) ∙ e)

-- what the session sees of the field after the outcome's effects
abbrev Sees : RecordMap → Session → Op → Field → Stepped → Type 0
Sees m s o field t = value_of (records_after_all m (effects_of s o t.reply)) s field ≡ value_after_all s field (value_of m s field) (effects_of s o t.reply)

sees_if : (m : RecordMap) (s : Session) (o : Op) (field : Field) (b : Bool) (t u : Stepped) → (b ≡ true → Sees m s o field t) → Sees m s o field u → Sees m s o field (cond b t u)
sees_if m s o field true t u p q = p refl
sees_if m s o field false t u p q = q

made_sees : (m : RecordMap) (s : Session) (dir name : List ℕ) (k : Kind) (id : List ℕ) (field : Field) (d : Node) → AreRecords m → get (nodes_of m) dir ≡ Some d → (is_child dir id && not (is_some (get (nodes_of m) id))) ≡ true
    → value_of (records_after (records_after m (SetChild dir name (Some id))) (NewNode id k dir name)) s field ≡ value_after s field (value_after s field (value_of m s field) (SetChild dir name (Some id))) (NewNode id k dir name)
made_sees m s dir name k id field d own e c =
    let f : (is_child dir id ≡ true) × (not (is_some (get (nodes_of m) id)) ≡ true) = both _ _ c in
    let none : node_of (get (records_after m (SetChild dir name (Some id))) id) ≡ None = unborn m dir name id f.0 (absent _ f.1) in
    follow (records_after m (SetChild dir name (Some id))) s field (NewNode id k dir name) (after_kept m (SetChild dir name (Some id)) own) refl (new_stays s id k dir name (node_of (get (records_after m (SetChild dir name (Some id))) id)) none)
    ∙ ap (λ v. value_after s field v (NewNode id k dir name)) (follow m s field (SetChild dir name (Some id)) own (recorded m dir d e) (child_stays s dir name id (node_of (get m dir))))

create_sees : (m : RecordMap) (s : Session) (dir name : List ℕ) (k : Kind) (id : Option (List ℕ)) (field : Field) (o : Option Node) → AreRecords m → get (nodes_of m) dir ≡ o → Sees m s (op.Create dir name k id) field (create o (nodes_of m) dir name k id)
create_sees m s dir name k None field None own e = refl
create_sees m s dir name k (Some id) field None own e = refl
create_sees m s dir name k None field (Some d) own e = refl
create_sees m s dir name k (Some id) field (Some d) own e =
    elim d.kind as (λ j. Sees m s (op.Create dir name k (Some id)) field (create_in j (nodes_of m) d dir name k (Some id))) [
      | File ↦ refl
      | Dir ↦ sees_if m s (op.Create dir name k (Some id)) field (is_some (child_at d.children name)) _ _ (λ _. refl)
          (sees_if m s (op.Create dir name k (Some id)) field (is_child dir id && not (is_some (get (nodes_of m) id))) _ _ (λ c. made_sees m s dir name k id field d own e c) refl)
    ]

open_sees : (m : RecordMap) (s : Session) (file : List ℕ) (h : ℕ) (modes : Modes) (field : Field) (o : Option Node) → AreRecords m → get (nodes_of m) file ≡ o → Sees m s (op.OpenFile file h modes) field (open_file o (nodes_of m) s file h modes)
open_sees m s file h modes field None own e = refl
open_sees m s file h modes field (Some n) own e =
    sees_if m s (op.OpenFile file h modes) field (is_some (handle_at n.handles s h)) _ _ (λ _. refl)
    (sees_if m s (op.OpenFile file h modes) field (any_conflicts n.handles modes) _ _ (λ _. refl) (follow m s field (AddHandle file s h modes) own (recorded m file n e) (add_stays s file h modes (node_of (get m file)))))

close_sees : (m : RecordMap) (s : Session) (file : List ℕ) (h : ℕ) (field : Field) (o : Option Node) → AreRecords m → get (nodes_of m) file ≡ o → Sees m s (op.Close file h) field (close o (nodes_of m) s file h)
close_sees m s file h field None own e = refl
close_sees m s file h field (Some n) own e =
    sees_if m s (op.Close file h) field (is_some (handle_at n.handles s h)) _ _ (λ _. follow m s field (RemoveHandle file s h) own (recorded m file n e) (remove_stays s file h (node_of (get m file)))) refl

set_sees : (m : RecordMap) (s : Session) (file : List ℕ) (h size stamp : ℕ) (field : Field) (o : Option Node) → AreRecords m → get (nodes_of m) file ≡ o → Sees m s (op.Set file h size stamp) field (set o (nodes_of m) s file h size stamp)
set_sees m s file h size stamp field None own e = refl
set_sees m s file h size stamp field (Some n) own e = with_modes (handle_at n.handles s h)
  where
    with_modes : (w : Option Modes) → Sees m s (op.Set file h size stamp) field (set_by w (nodes_of m) file size stamp)
    with_modes None = refl
    with_modes (Some modes) = sees_if m s (op.Set file h size stamp) field modes.acc_w _ _ (λ _. follow m s field (SetInfo file size stamp) own (recorded m file n e) (info_stays s file size stamp (node_of (get m file)))) refl

sees : (m : RecordMap) (s : Session) (o : Op) (field : Field) → AreRecords m → tells_its_effects o ≡ true → Sees m s o field (step (nodes_of m) s o)
sees m s (op.Lookup dir name) field own p = refl
sees m s (op.List dir) field own p = refl
sees m s (op.Kind file) field own p = refl
sees m s (op.Info file) field own p = refl
sees m s (op.Create dir name k id) field own p = create_sees m s dir name k id field (get (nodes_of m) dir) own refl
sees m s (op.OpenFile file h modes) field own p = open_sees m s file h modes field (get (nodes_of m) file) own refl
sees m s (op.Close file h) field own p = close_sees m s file h field (get (nodes_of m) file) own refl
sees m s (op.Set file h size stamp) field own p = set_sees m s file h size stamp field (get (nodes_of m) file) own refl
sees m s (op.Delete dir name) field own p = absurd (cc)
sees m s (op.Rename sdir sname ddir dname) field own p = absurd (cc)
sees m s (op.Reap file session) field own p = absurd (cc)

pub own_values : (m : RecordMap) (s : Session) (o : Op) (r : Reply) (field : Field) → AreRecords m → tells_its_effects o ≡ true → (step (nodes_of m) s o).reply ≡ r → value_of (records_after_all m (effects_of s o r)) s field ≡ value_after_all s field (value_of m s field) (effects_of s o r)
own_values m s o r field own p e = subst (λ x. value_of (records_after_all m (effects_of s o x)) s field ≡ value_after_all s field (value_of m s field) (effects_of s o x)) e (sees m s o field own p)
