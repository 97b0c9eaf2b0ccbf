-- The value of a field after an effect.
use Rattle.std.proofs.Common.{◌≡◌, ℕ, List, [], Bool, true, false, refl, ap, sym, ◌∙◌, subst, cond}
use Rattle.std.specs.Prelude.{Result, Ok, Err, OnOk, Option, Some, None, IfSome, option_map, not, ◌==◌, ◌||◌, is_some}
use Rattle.std.specs.Ordering.{nat_cmp, eq_by_cmp}
use Rattle.std.specs.Cmp.Lexicographic.{slice_cmp, same_text}
use Rattle.std.specs.FinMap.{get}
use Rattle.std.proofs.lemmas.Bool.{and_left}
use Rattle.fs_ident.specs.declared.actor.Session.{Session}
use Rattle.fs_ident.specs.declared.kind.Kind.{Kind}
use Rattle.fs_modes.specs.declared.modes.Modes.{Modes}
use Rattle.fs_field.specs.declared.effect.Effect.{Effect}
use Rattle.fs_field.specs.declared.effect.Effect.TheVariants.{SetChild, SetParent, NewNode, RemoveNode, AddHandle, RemoveHandle, SetInfo}
use Rattle.fs_field.specs.declared.field.Field.{Field}
use Rattle.fs_field.specs.declared.field.Field.TheVariants.{Life, Child, Names, Info, Own, SelfW, Other}
use Rattle.fs_field.specs.declared.value.Value.TheVariants as value
use Rattle.fs_ident.specs.Ident.{same}
use Rattle.fs_field.specs.Field.{file_of}
use Rattle.fs_field.specs.After as field
use Rattle.fs_ident.specs.Ordered.{put_before}
use Rattle.fs_field.specs.After.{is_above, touches, touches_node, value_after, life_after, child_after, names_after, info_after, own_after, info_value, Handles, changed_file}
use Rattle.fs_field.proofs.Untouched.{value_stays}
use Rattle.fs_model.specs.declared.node.Node.{Node}
use Rattle.fs_model.specs.declared.node.Handle.{Handle}
use Rattle.fs_model.specs.Namespace.{IsInOrder, fresh_node}
use Rattle.fs_model.specs.Children.{names_of}
use Rattle.fs_model.specs.Sound.{kind_of, child_of}
use Rattle.fs_model.specs.Step.{children_of}
use Rattle.fs_model.specs.Handles.{handles_are_in_order, is_at, with_handle, without_handle}
use Rattle.fs_model.proofs.HandleOrder.{filter_in_order}
use Rattle.fs_record.specs.declared.record.Record.{Record}
use Rattle.fs_record.specs.Records.{RecordMap, AreRecords, IsRecord, node_of, next_of}
use Rattle.fs_record.specs.Applied.{node_change, record_change, records_after, with_at, is_birth, has_target}
use Rattle.fs_record.specs.ValueOf.{value_at, value_of, own_of, handles_of, info_of, is_other}
use Rattle.fs_ident.proofs.MapsOf.{remove_absent}
use Rattle.fs_ident.proofs.Same.{one_session}
use Rattle.fs_record.proofs.Kept.{get_with_at}
use Rattle.fs_record.proofs.NodeValues.{tied, names_put, names_less, child_put, child_less, own_less, own_kept, own_more, own_same}

-- where a test holds, its then stands
then_is : {X : Type 0} (b : Bool) (x y : X) → b ≡ true → x ≡ cond b x y
then_is b x y h = rw h

-- ## The effect's own file

life_told : (f : List ℕ) (e : Effect) (n : Node) → same f (changed_file e) ≡ true → kind_of (node_change e (Some n)) ≡ life_after f (Some n.kind) e
life_told f (SetChild dir name None) n h = refl
life_told f (SetChild dir name (Some file)) n h = refl
life_told f (SetParent file dir name) n h = refl
life_told f (NewNode file kind dir name) n h = then_is (same f file) (Some kind) (Some n.kind) h
life_told f (RemoveNode file) n h = then_is (same f file) None (Some n.kind) h
life_told f (AddHandle file session k modes) n h = refl
life_told f (RemoveHandle file session k) n h = refl
life_told f (SetInfo file size stamp) n h = refl

child_told : (d name : List ℕ) (e : Effect) (n : Node) → same d (changed_file e) ≡ true → child_of (node_change e (Some n)) name ≡ child_after d name (child_of (Some n) name) e
child_told d name (SetChild dir other None) n h = rw h (child_less name other n.children)
child_told d name (SetChild dir other (Some file)) n h = rw h (child_put name other file n.children)
child_told d name (SetParent file dir other) n h = refl
child_told d name (NewNode file kind dir other) n h = then_is (same d file) None (child_of (Some n) name) h
child_told d name (RemoveNode file) n h = then_is (same d file) None (child_of (Some n) name) h
child_told d name (AddHandle file session k modes) n h = refl
child_told d name (RemoveHandle file session k) n h = refl
child_told d name (SetInfo file size stamp) n h = refl

names_told : (d : List ℕ) (e : Effect) (n : Node) → IsInOrder n → same d (changed_file e) ≡ true → names_of (children_of (node_change e (Some n))) ≡ names_after d (names_of n.children) e
names_told d (SetChild dir name None) n own h = rw h (names_less name n.children)
names_told d (SetChild dir name (Some file)) n own h = rw h (names_put name file n.children own.children)
names_told d (SetParent file dir name) n own h = refl
names_told d (NewNode file kind dir name) n own h = then_is (same d file) [] (names_of n.children) h
names_told d (RemoveNode file) n own h = then_is (same d file) [] (names_of n.children) h
names_told d (AddHandle file session k modes) n own h = refl
names_told d (RemoveHandle file session k) n own h = refl
names_told d (SetInfo file size stamp) n own h = refl

info_told : (f : List ℕ) (e : Effect) (n : Node) → same f (changed_file e) ≡ true → info_of (node_change e (Some n)) ≡ info_after f (n.size, n.stamp) e
info_told f (SetChild dir name None) n h = refl
info_told f (SetChild dir name (Some file)) n h = refl
info_told f (SetParent file dir name) n h = refl
info_told f (NewNode file kind dir name) n h = then_is (same f file) (0, 0) (n.size, n.stamp) h
info_told f (RemoveNode file) n h = then_is (same f file) (0, 0) (n.size, n.stamp) h
info_told f (AddHandle file session k modes) n h = refl
info_told f (RemoveHandle file session k) n h = refl
info_told f (SetInfo file size stamp) n h = then_is (same f file) (size, stamp) (n.size, n.stamp) h

abbrev opened_by : Session → ℕ → Modes → Handle
opened_by session k modes = record { session = session; h = k; modes = modes }

handle_added : (s session : Session) (k : ℕ) (modes : Modes) (hs : List Handle) (b : Bool) → (session.0 == s.0) ≡ b → handles_are_in_order hs ≡ true
    → own_of s (with_handle (without_handle hs session k) (opened_by session k modes)) ≡ cond b (field.with_handle (own_of s hs) k modes) (own_of s hs)
handle_added s session k modes hs true e h =
    let here : own_of s (with_handle (without_handle hs s k) (opened_by s k modes)) ≡ field.with_handle (own_of s hs) k modes =
    own_more s (opened_by s k modes) (without_handle hs s k) refl (filter_in_order (λ x. not (is_at s k x)) hs h) ∙ ap (put_before (is_above k) (k, modes)) (own_less s k hs) in
    subst (λ (x : Session). own_of s (with_handle (without_handle hs x k) (opened_by x k modes)) ≡ field.with_handle (own_of s hs) k modes) (sym (one_session session s e)) here
handle_added s session k modes hs false e h = own_same s (opened_by session k modes) (without_handle hs session k) e ∙ own_kept s session k hs e

handle_gone : (s session : Session) (k : ℕ) (hs : List Handle) (b : Bool) → (session.0 == s.0) ≡ b → own_of s (without_handle hs session k) ≡ cond b (field.without_handle (own_of s hs) k) (own_of s hs)
handle_gone s session k hs true e = subst (λ (x : Session). own_of s (without_handle hs x k) ≡ field.without_handle (own_of s hs) k) (sym (one_session session s e)) (own_less s k hs)
handle_gone s session k hs false e = own_kept s session k hs e

own_told : (s : Session) (f : List ℕ) (e : Effect) (n : Node) → IsInOrder n → same f (changed_file e) ≡ true → own_of s (handles_of (node_change e (Some n))) ≡ own_after s f (own_of s n.handles) e
own_told s f (SetChild dir name None) n own h = refl
own_told s f (SetChild dir name (Some file)) n own h = refl
own_told s f (SetParent file dir name) n own h = refl
own_told s f (NewNode file kind dir name) n own h = then_is (same f file) [] (own_of s n.handles) h
own_told s f (RemoveNode file) n own h = then_is (same f file) [] (own_of s n.handles) h
own_told s f (AddHandle file session k modes) n own h = rw h (handle_added s session k modes n.handles (session.0 == s.0) refl own.handles)
own_told s f (RemoveHandle file session k) n own h = rw h (handle_gone s session k n.handles (session.0 == s.0) refl)
own_told s f (SetInfo file size stamp) n own h = refl

told : (s : Session) (field : Field) (e : Effect) (n : Node) → IsInOrder n → is_other field ≡ false → same (file_of field) (changed_file e) ≡ true
    → value_at s field (node_change e (Some n)) ≡ value_after s field (value_at s field (Some n)) e
told s (Life f) e n own o h = ap value.Life (life_told f e n h)
told s (Child d name) e n own o h = ap value.Child (child_told d name e n h)
told s (Names d) e n own o h = ap value.Names (names_told d e n own h)
told s (Info f) e n own o h = ap info_value (info_told f e n h)
told s (Own f) e n own o h = ap value.Own (own_told s f e n own h)
told s (SelfW f m) e n own o h = refl
told s (Other f m) e n own o h = absurd (cc o)

-- a file that begins to live where none was
born : (s : Session) (field : Field) (file : List ℕ) (kind : Kind) (dir name : List ℕ) → is_other field ≡ false → same (file_of field) file ≡ true
    → value_at s field (Some (fresh_node kind (Some (dir, name)))) ≡ value_after s field (value_at s field None) (NewNode file kind dir name)
born s (Life f) file kind dir name o h = ap value.Life (then_is (same f file) (Some kind) None h)
born s (Child d n) file kind dir name o h = ap value.Child (then_is (same d file) None None h)
born s (Names d) file kind dir name o h = ap value.Names (then_is (same d file) [] [] h)
born s (Info f) file kind dir name o h = ap info_value (then_is (same f file) (0, 0) (0, 0) h)
born s (Own f) file kind dir name o h = ap value.Own (then_is (same f file) [] [] h)
born s (SelfW f m) file kind dir name o h = refl
born s (Other f m) file kind dir name o h = absurd (cc o)

-- ## Every other file

elsewhere_node : (file : List ℕ) (field : Field) → same (file_of field) file ≡ false → touches_node file field ≡ false
elsewhere_node file (Life f) h = h
elsewhere_node file (Child f n) h = h
elsewhere_node file (Names f) h = h
elsewhere_node file (Info f) h = h
elsewhere_node file (Own f) h = h
elsewhere_node file (SelfW f m) h = refl
elsewhere_node file (Other f m) h = refl

elsewhere : (e : Effect) (field : Field) → same (file_of field) (changed_file e) ≡ false → touches e field ≡ false
elsewhere (NewNode file kind dir name) field h = elsewhere_node file field h
elsewhere (RemoveNode file) field h = elsewhere_node file field h
elsewhere (SetChild dir name to) (Child d n) h = and_left (same d dir) (same n name) h
elsewhere (SetChild dir name to) (Names d) h = h
elsewhere (SetChild dir name to) (Life f) h = refl
elsewhere (SetChild dir name to) (Info f) h = refl
elsewhere (SetChild dir name to) (Own f) h = refl
elsewhere (SetChild dir name to) (SelfW f m) h = refl
elsewhere (SetChild dir name to) (Other f m) h = refl
elsewhere (SetParent file dir name) field h = refl
elsewhere (AddHandle file session k modes) (Own f) h = h
elsewhere (AddHandle file session k modes) (Life f) h = refl
elsewhere (AddHandle file session k modes) (Child f n) h = refl
elsewhere (AddHandle file session k modes) (Names f) h = refl
elsewhere (AddHandle file session k modes) (Info f) h = refl
elsewhere (AddHandle file session k modes) (SelfW f m) h = refl
elsewhere (AddHandle file session k modes) (Other f m) h = refl
elsewhere (RemoveHandle file session k) (Own f) h = h
elsewhere (RemoveHandle file session k) (Life f) h = refl
elsewhere (RemoveHandle file session k) (Child f n) h = refl
elsewhere (RemoveHandle file session k) (Names f) h = refl
elsewhere (RemoveHandle file session k) (Info f) h = refl
elsewhere (RemoveHandle file session k) (SelfW f m) h = refl
elsewhere (RemoveHandle file session k) (Other f m) h = refl
elsewhere (SetInfo file size stamp) (Info f) h = h
elsewhere (SetInfo file size stamp) (Life f) h = refl
elsewhere (SetInfo file size stamp) (Child f n) h = refl
elsewhere (SetInfo file size stamp) (Names f) h = refl
elsewhere (SetInfo file size stamp) (Own f) h = refl
elsewhere (SetInfo file size stamp) (SelfW f m) h = refl
elsewhere (SetInfo file size stamp) (Other f m) h = refl

-- ## Records

node_back : (o : Option Node) (next : ℕ) → node_of (option_map (λ n. record { node = n; next = next }) o) ≡ o
node_back None next = refl
node_back (Some n) next = refl

-- the node of a changed record is the changed node
pub change_node : (e : Effect) (o : Option Record) → node_of (record_change e o) ≡ node_change e (node_of o)
change_node e o = node_back (node_change e (node_of o)) (next_of o)

here : (s : Session) (field : Field) (e : Effect) (o : Option Record) → IfSome o IsRecord → is_other field ≡ false → (is_birth e || is_some o) ≡ true → same (file_of field) (changed_file e) ≡ true
    → value_at s field (node_change e (node_of o)) ≡ value_after s field (value_at s field (node_of o)) e
here s field e (Some r) own other m h = told s field e r.node own.in_order other h
here s field (NewNode file kind dir name) None own other m h = born s field file kind dir name other h
here s field (SetChild dir name to) None own other m h = absurd (cc m)
here s field (SetParent file dir name) None own other m h = absurd (cc m)
here s field (RemoveNode file) None own other m h = absurd (cc m)
here s field (AddHandle file session k modes) None own other m h = absurd (cc m)
here s field (RemoveHandle file session k) None own other m h = absurd (cc m)
here s field (SetInfo file size stamp) None own other m h = absurd (cc m)

pub value_follows : (m : RecordMap) (s : Session) (field : Field) (e : Effect) → AreRecords m → is_other field ≡ false → has_target m e ≡ true
    → value_of (records_after m e) s field ≡ value_after s field (value_of m s field) e
value_follows m s field e own other met =
    ap (λ o. value_at s field (node_of o)) (get_with_at m f (record_change e (get m f)) q) ∙ go (eq_by_cmp (slice_cmp nat_cmp) q f) refl
  where
    q : List ℕ
    q = file_of field

    f : List ℕ
    f = changed_file e

    go : (b : Bool) → eq_by_cmp (slice_cmp nat_cmp) q f ≡ b → value_at s field (node_of (cond b (record_change e (get m f)) (get m q))) ≡ value_after s field (value_at s field (node_of (get m q))) e
    go true t =
        let one : same q f ≡ true = sym (tied q f) ∙ t in
        let at : q ≡ f = same_text q f (sym one) in
        ap (value_at s field) (change_node e (get m f)) ∙ here s field e (get m f) (own f) other met one
        ∙ ap (λ x. value_after s field (value_at s field (node_of (get m x))) e) (sym at)
    go false t = sym (value_stays s field (value_at s field (node_of (get m q))) e (elsewhere e field (sym (tied q f) ∙ t)))

none_without_target : (o : Option Record) (e : Effect) → (is_birth e || is_some o) ≡ false → (o ≡ None) × (record_change e None ≡ None)
none_without_target None (SetChild dir name to) h = (refl, refl)
none_without_target None (SetParent file dir name) h = (refl, refl)
none_without_target None (NewNode file kind dir name) h = absurd (cc h)
none_without_target None (RemoveNode file) h = (refl, refl)
none_without_target None (AddHandle file session k modes) h = (refl, refl)
none_without_target None (RemoveHandle file session k) h = (refl, refl)
none_without_target None (SetInfo file size stamp) h = (refl, refl)
none_without_target (Some r) (SetChild dir name to) h = absurd (cc h)
none_without_target (Some r) (SetParent file dir name) h = absurd (cc h)
none_without_target (Some r) (NewNode file kind dir name) h = absurd (cc h)
none_without_target (Some r) (RemoveNode file) h = absurd (cc h)
none_without_target (Some r) (AddHandle file session k modes) h = absurd (cc h)
none_without_target (Some r) (RemoveHandle file session k) h = absurd (cc h)
none_without_target (Some r) (SetInfo file size stamp) h = absurd (cc h)

pub stays_without_target : (m : RecordMap) (e : Effect) → has_target m e ≡ false → records_after m e ≡ m
stays_without_target m e h =
    let none = none_without_target (get m (changed_file e)) e h in
    ap (λ o. with_at m (changed_file e) (record_change e o)) none.0 ∙ ap (with_at m (changed_file e)) none.1 ∙ remove_absent m (changed_file e) none.0

-- the same of records after a call that does the effect or nothing
pub values_follow : {X E : Type 0} (r : Result X E) (was old new : RecordMap) (e : Effect) → was ≡ old → AreRecords old → OnOk r (new ≡ records_after old e)
    → OnOk r ((s : Session) (field : Field) → is_other field ≡ false → has_target was e ≡ true → value_of new s field ≡ value_after s field (value_of was s field) e)
values_follow (Ok x) was old new e same own is = λ s field other met.
    ap (λ m. value_of m s field) is ∙ value_follows old s field e own other (ap (λ m. has_target m e) (sym same) ∙ met) ∙ ap (λ m. value_after s field (value_of m s field) e) (sym same)
values_follow (Err x) was old new e same own is = tt
