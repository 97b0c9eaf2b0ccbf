-- What undoes an effect brings the records back.
use Rattle.std.proofs.Common.{◌≡◌, ℕ, Bool, true, false, List, [], ◌∷◌, ◌++◌, refl, ap, cond, sym, ◌∙◌, subst, not, take, drop, take-append-drop}
use Rattle.std.proofs.lemmas.List.Folds.{list_all-append}
use Rattle.std.specs.Prelude.{Option, Some, None, is_some, IfSome, T}
use Rattle.std.specs.declared.cmp.Ordering.TheVariants.{Equal}
use Rattle.std.specs.List.{list_all}
use Rattle.std.specs.Ordering.{nat_cmp, eq_by_cmp}
use Rattle.std.specs.Cmp.{eq_by_cmp_equiv}
use Rattle.std.specs.Cmp.Lexicographic.{slice_cmp, nat_list_cmp_total}
use Rattle.std.specs.FinMap.{FinMap, get, same_map, get_tied}
use Rattle.std.specs.FinMap.Entries.{find, find-put, find-where_key, find_tied, same_entries, is_sorted-put, is_sorted-where_key, is_sorted}
use Rattle.fs_ident.specs.declared.actor.Session.{Session}
use Rattle.fs_ident.proofs.Booleans.{equal_is, both, first, held}
use Rattle.fs_ident.proofs.MapsOf.{anti}
use Rattle.fs_field.specs.declared.effect.Effect.{Effect}
use Rattle.fs_field.specs.declared.effect.Effect.TheVariants.{SetChild, SetParent, NewNode, RemoveNode, AddHandle, RemoveHandle, SetInfo}
use Rattle.fs_model.specs.declared.op.Op.{Op}
use Rattle.fs_model.specs.declared.reply.Reply.{Reply}
use Rattle.fs_model.specs.declared.op.Op.TheVariants as op
use Rattle.fs_model.specs.declared.reply.Reply.TheVariants as reply
use Rattle.fs_model.specs.Step.{with_link}
use Rattle.fs_model.specs.Children.{Children, child_at, with_child, without_child}
use Rattle.fs_record.specs.declared.record.Record.{Record}
use Rattle.fs_record.specs.declared.undo.Part.TheVariants as part
use Rattle.fs_record.specs.declared.undo.Undo.{Undo}
use Rattle.fs_field.specs.After.{changed_file}
use Rattle.fs_record.specs.Applied.{record_change, records_after, records_after_all, with_at, is_undoable}
use Rattle.fs_record.specs.Effects.{effects_of}
use Rattle.fs_record.specs.Records.{RecordMap, AreRecords, IsRecord}
use Rattle.fs_record.specs.Undo.{with_child_again, with_part, part_of, undo_of, undone, undone_all, undos_of, AreRecordsBack}
use Rattle.fs_record.proofs.Kept.{get_with_at, after_kept}

-- ## What stands at an identifier is replaced, and comes back

eq_itself : (k : List ℕ) → eq_by_cmp (slice_cmp nat_cmp) k k ≡ true
eq_itself k = (eq_by_cmp_equiv nat_list_cmp_total).refl k

twice : {X : Type 0} (b : Bool) (x y o : X) → cond b y (cond b x o) ≡ cond b y o
twice true x y o = refl
twice false x y o = refl

pub with_at-with_at : {X : Type 0} (m : FinMap (slice_cmp nat_cmp) X) (k : List ℕ) (x y : Option X) → with_at (with_at m k x) k y ≡ with_at m k y
with_at-with_at m k x y = same_map nat_list_cmp_total anti _ _ (λ q.
    get_with_at (with_at m k x) k y q
    ∙ ap (cond (eq_by_cmp (slice_cmp nat_cmp) q k) y) (get_with_at m k x q)
    ∙ twice (eq_by_cmp (slice_cmp nat_cmp) q k) x y (get m q)
    ∙ sym (get_with_at m k y q))

as_it_was : {X : Type 0} (b : Bool) (x o : X) → (b ≡ true → x ≡ o) → cond b x o ≡ o
as_it_was true x o h = h refl
as_it_was false x o h = refl

pub with_at_same : {X : Type 0} (m : FinMap (slice_cmp nat_cmp) X) (k : List ℕ) → with_at m k (get m k) ≡ m
with_at_same m k = same_map nat_list_cmp_total anti _ _ (λ q.
    get_with_at m k (get m k) q ∙ as_it_was (eq_by_cmp (slice_cmp nat_cmp) q k) (get m k) (get m q) (λ t. get_tied nat_list_cmp_total m q k (equal_is _ t)))

pub get_here : {X : Type 0} (m : FinMap (slice_cmp nat_cmp) X) (k : List ℕ) (x : Option X) → get (with_at m k x) k ≡ x
get_here m k x = get_with_at m k x k ∙ ap (λ b. cond b x (get m k)) (eq_itself k)

-- ## Names

abbrev name_cmp_eq : List ℕ → List ℕ → Bool
name_cmp_eq a b = eq_by_cmp (slice_cmp nat_cmp) a b

turned : (a b : List ℕ) → name_cmp_eq a b ≡ name_cmp_eq b a
turned a b = (eq_by_cmp_equiv nat_list_cmp_total).symm a b

others : (name q x : List ℕ) → slice_cmp nat_cmp q x ≡ Equal → not (name_cmp_eq name x) ≡ not (name_cmp_eq name q)
others name q x t = ap (λ z. not (name_cmp_eq name z)) (sym (anti q x t))

gone : {X : Type 0} (b : Bool) (x o : Option X) → (b ≡ true → None ≡ o) → cond (not b) (cond b x o) None ≡ o
gone true x o h = h refl
gone false x o h = refl

-- what the name stood for, under another key that ties it
stood : (cs : Children) (name q : List ℕ) (was : Option (List ℕ)) → child_at cs name ≡ was → name_cmp_eq q name ≡ true → was ≡ find (slice_cmp nat_cmp) q cs
stood cs name q was e t = sym e ∙ find_tied (slice_cmp nat_cmp) nat_list_cmp_total q name (equal_is _ t) cs

-- a name that stood for none and was given to a file is taken away again
name_gone : (cs : Children) (name file : List ℕ) → T (is_sorted (slice_cmp nat_cmp) cs) → child_at cs name ≡ None → without_child (with_child cs name file) name ≡ cs
name_gone cs name file h e = same_entries (slice_cmp nat_cmp) nat_list_cmp_total anti _ cs
    (is_sorted-where_key (slice_cmp nat_cmp) (λ other. not (name_cmp_eq name other)) (with_child cs name file) (is_sorted-put (slice_cmp nat_cmp) nat_list_cmp_total name file cs h))
    h
    (λ q.
    find-where_key (slice_cmp nat_cmp) (λ other. not (name_cmp_eq name other)) q (others name q) (with_child cs name file)
    ∙ ap (λ o. cond (not (name_cmp_eq name q)) o None) (find-put (slice_cmp nat_cmp) nat_list_cmp_total q name file cs)
    ∙ ap (λ b. cond (not b) (cond (name_cmp_eq q name) (Some file) (find (slice_cmp nat_cmp) q cs)) None) (turned name q)
    ∙ gone (name_cmp_eq q name) (Some file) (find (slice_cmp nat_cmp) q cs) (λ t. stood cs name q None e t))

-- a name that stood for a file and was given to another stands for it again
name_back : (cs : Children) (name file was : List ℕ) → T (is_sorted (slice_cmp nat_cmp) cs) → child_at cs name ≡ Some was → with_child_again (with_child cs name file) name was ≡ cs
name_back cs name file was h e =
    let there : child_at (with_child cs name file) name ≡ Some file = find-put (slice_cmp nat_cmp) nat_list_cmp_total name name file cs ∙ ap (λ b. cond b (Some file) (child_at cs name)) (eq_itself name) in
    let once : T (is_sorted (slice_cmp nat_cmp) (with_child cs name file)) = is_sorted-put (slice_cmp nat_cmp) nat_list_cmp_total name file cs h in
    ap (λ (o : Option (List ℕ)). cond (is_some o) (with_child (with_child cs name file) name was) (with_child cs name file)) there
    ∙ same_entries (slice_cmp nat_cmp) nat_list_cmp_total anti _ cs (is_sorted-put (slice_cmp nat_cmp) nat_list_cmp_total name was (with_child cs name file) once) h (λ q.
    find-put (slice_cmp nat_cmp) nat_list_cmp_total q name was (with_child cs name file)
    ∙ ap (cond (name_cmp_eq q name) (Some was)) (find-put (slice_cmp nat_cmp) nat_list_cmp_total q name file cs)
    ∙ twice (name_cmp_eq q name) (Some file) (Some was) (find (slice_cmp nat_cmp) q cs)
    ∙ as_it_was (name_cmp_eq q name) (Some was) (find (slice_cmp nat_cmp) q cs) (λ t. stood cs name q (Some was) e t))

-- ## One effect

child_back : (name file : List ℕ) (r : Record) → IsRecord r → (was : Option (List ℕ)) → child_at r.node.children name ≡ was
    → with_part (part.Child name was) (Some (record { node = with_link name file r.node; next = r.next })) ≡ Some r
child_back name file r own None e = ap (λ (cs : Children). Some (record r { node = record r.node { children = cs } })) (name_gone r.node.children name file (held _ own.in_order.children) e)
child_back name file r own (Some was) e = ap (λ (cs : Children). Some (record r { node = record r.node { children = cs } })) (name_back r.node.children name file was (held _ own.in_order.children) e)

part_back : (e : Effect) (o : Option Record) → IfSome o IsRecord → is_undoable e ≡ true → with_part (part_of e o) (record_change e o) ≡ o
part_back (SetChild dir name None) o own u = absurd (cc)
part_back (SetChild dir name (Some file)) None own u = refl
part_back (SetChild dir name (Some file)) (Some r) own u = child_back name file r own (child_at r.node.children name) refl
part_back (SetParent file dir name) None own u = refl
part_back (SetParent file dir name) (Some r) own u = refl
part_back (NewNode file kind dir name) None own u = refl
part_back (NewNode file kind dir name) (Some r) own u = refl
part_back (RemoveNode file) o own u = absurd (cc)
part_back (AddHandle file session h modes) None own u = refl
part_back (AddHandle file session h modes) (Some r) own u = refl
part_back (RemoveHandle file session h) None own u = refl
part_back (RemoveHandle file session h) (Some r) own u = refl
part_back (SetInfo file size stamp) None own u = refl
part_back (SetInfo file size stamp) (Some r) own u = refl

-- what undoes the effect brings the records back
pub undone_back : (m : RecordMap) (e : Effect) → AreRecords m → is_undoable e ≡ true → undone (undo_of e m) (records_after m e) ≡ m
undone_back m e s u =
    let k : List ℕ = changed_file e in
    ap (λ (o : Option Record). with_at (records_after m e) k (with_part (part_of e (get m k)) o)) (get_here m k (record_change e (get m k)))
    ∙ ap (with_at (records_after m e) k) (part_back e (get m k) (s k) u)
    ∙ with_at-with_at m k (record_change e (get m k)) (get m k)
    ∙ with_at_same m k

-- ## Several

-- all that was done goes back
pub all_back : (m : RecordMap) (es : List Effect) → AreRecords m → list_all is_undoable es ≡ true → undone_all (undos_of m es) (records_after_all m es) ≡ m
all_back m [] s u = refl
all_back m (e ∷ es) s u =
    let q : (is_undoable e ≡ true) × (list_all is_undoable es ≡ true) = both (is_undoable e) (list_all is_undoable es) u in
    ap (undone (undo_of e m)) (all_back (records_after m e) es (after_kept m e s) q.1) ∙ undone_back m e s q.0

pub records_back : (m : RecordMap) (es : List Effect) → AreRecords m → list_all is_undoable es ≡ true → AreRecordsBack (undos_of m es) (records_after_all m es)
records_back m [] s u = s
records_back m (e ∷ es) s u =
    let q : (is_undoable e ≡ true) × (list_all is_undoable es ≡ true) = both (is_undoable e) (list_all is_undoable es) u in
    (records_back (records_after m e) es (after_kept m e s) q.1, subst AreRecords (sym (all_back m (e ∷ es) s u)) s)

-- the last is undone first
pub undone_last : (us : List Undo) (u : Undo) (m : RecordMap) → undone_all (us ++ u ∷ []) m ≡ undone_all us (undone u m)
undone_last [] u m = refl
undone_last (v ∷ vs) u m = ap (undone v) (undone_last vs u m)

pub back_last : (us : List Undo) (u : Undo) (m : RecordMap) → AreRecordsBack (us ++ u ∷ []) m → AreRecordsBack us (undone u m)
back_last [] u m h = h.1
back_last (v ∷ vs) u m h = (back_last vs u m h.0, subst AreRecords (undone_last (v ∷ vs) u m) h.1)

pub back_now : (us : List Undo) (m : RecordMap) → AreRecordsBack us m → AreRecords m
back_now [] m h = h
back_now (u ∷ us) m h = back_now us m h.0

pub undos_of-append : (m : RecordMap) (es : List Effect) (e : Effect) → undos_of m (es ++ e ∷ []) ≡ undos_of m es ++ undo_of e (records_after_all m es) ∷ []
undos_of-append m [] e = refl
undos_of-append m (x ∷ xs) e = ap (λ us. undo_of x m ∷ us) (undos_of-append (records_after m x) xs e)

pub front_undoable : (es : List Effect) (i : ℕ) → list_all is_undoable es ≡ true → list_all is_undoable (take i es) ≡ true
front_undoable es i h = first (list_all is_undoable (take i es)) (list_all is_undoable (drop i es)) (sym (list_all-append is_undoable (take i es) (drop i es)) ∙ ap (list_all is_undoable) (take-append-drop i es) ∙ h)

-- ## What operations do

-- the effects that an operation and its reply tell can be taken back
pub plain_effects : (by : Session) (o : Op) (r : Reply) → list_all is_undoable (effects_of by o r) ≡ true
plain_effects by (op.Create dir name kind (Some id)) reply.Made = refl
plain_effects by (op.OpenFile file h modes) reply.Opened = refl
plain_effects by (op.Close file h) reply.Closed = refl
plain_effects by (op.Set file h size stamp) reply.Set = refl
plain_effects by o r = refl

-- ## Names of the changes
