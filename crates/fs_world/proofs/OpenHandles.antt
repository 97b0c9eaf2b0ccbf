-- What leaves every handle of the records readable: its session is one that there may be, and it has an access.
use Rattle.std.proofs.Common.{◌≡◌, ℕ, ◌+◌, List, [], ◌∷◌, ◌++◌, Bool, true, false, cond, refl, sym, subst, inl, inr}
use Rattle.std.specs.Prelude.{Option, Some, None, IfSome, filter, not, option_map, ◌==◌}
use Rattle.std.specs.List.{AllByRecursion, list_all}
use Rattle.std.specs.Ordering.{nat_cmp}
use Rattle.std.specs.Cmp.Lexicographic.{slice_cmp}
use Rattle.std.specs.FinMap.{empty, get, get-empty}
use Rattle.fs_ident.specs.Ordered.{Keyed, put_before}
use Rattle.fs_ident.specs.declared.actor.Session.{Session}
use Rattle.fs_ident.proofs.Booleans.{joined, second}
use Rattle.fs_modes.specs.Modes.{has_access}
use Rattle.fs_field.specs.declared.effect.Effect.{Effect}
use Rattle.fs_field.specs.declared.effect.Effect.TheVariants.{SetChild, SetParent, NewNode, RemoveNode, AddHandle, RemoveHandle, SetInfo}
use Rattle.fs_field.specs.declared.field.Field.{Field}
use Rattle.fs_field.specs.declared.field.Field.TheVariants.{Life, Child, Names, Info, Own, SelfW, Other}
use Rattle.fs_model.specs.declared.node.Handle.{Handle}
use Rattle.fs_model.specs.declared.node.Node.{Node}
use Rattle.fs_model.specs.declared.op.Op.{Op}
use Rattle.fs_model.specs.declared.op.Op.TheVariants as op
use Rattle.fs_model.specs.declared.reply.Reply.{Reply}
use Rattle.fs_model.specs.declared.reply.Reply.TheVariants as reply
use Rattle.fs_model.specs.Handles.{comes_before, is_at, without_handle}
use Rattle.fs_record.specs.declared.record.Record.{Record}
use Rattle.fs_field.specs.After.{changed_file}
use Rattle.fs_record.specs.Applied.{node_change, record_change, records_after, records_after_all, with_at}
use Rattle.fs_record.specs.Effects.{effects_of}
use Rattle.fs_record.specs.Fresh.{records_after_gift, with_next}
use Rattle.fs_record.specs.Moving.{records_given, records_left, with_records}
use Rattle.fs_record.specs.Records.{RecordMap, first_records, next_of, node_of}
use Rattle.fs_record.specs.ValueOf.{handles_of, own_of, value_of}
use Rattle.fs_record.proofs.Kept.{get_with_at}
use Rattle.fs_record.proofs.Parting.{left_at}
use Rattle.fs_record.proofs.Returning.{there}
use Rattle.fs_wire.specs.Readable.{is_readable_handle, is_readable_op, is_readable_session, is_readable_value}
use Rattle.fs_world.specs.Readable.{HandlesOpen, HasOpenHandles, RecordsOpen}

-- ## Lists

pub each_left : {X : Type 0} (P : X → Type 0) (test : X → Bool) (xs : List X) → AllByRecursion P xs → AllByRecursion P (filter test xs)
each_left P test [] h = tt
each_left P test (x ∷ xs) h =
    elim (test x) as (λ b. AllByRecursion P (cond b (x ∷ filter test xs) (filter test xs))) [
      | true ↦ (h.0, each_left P test xs h.1)
      | false ↦ each_left P test xs h.1
    ]

pub each_both : {X : Type 0} (P : X → Type 0) (xs ys : List X) → AllByRecursion P xs → AllByRecursion P ys → AllByRecursion P (xs ++ ys)
each_both P [] ys g h = h
each_both P (x ∷ xs) ys g h = (g.0, each_both P xs ys g.1 h)

each_put : {X : Type 0} (P : X → Type 0) (test : X → Bool) (x : X) (ys : List X) → P x → AllByRecursion P ys
    → AllByRecursion P (put_before test x ys)
each_put P test x [] p h = (p, tt)
each_put P test x (y ∷ ys) p h =
    elim (test y) as (λ b. AllByRecursion P (cond b (x ∷ y ∷ ys) (y ∷ put_before test x ys))) [
      | true ↦ (p, h)
      | false ↦ (h.0, each_put P test x ys p h.1)
    ]

-- ## A node

abbrev IsOpen : Handle → Type 0
IsOpen h = is_readable_handle h ≡ true

abbrev AreOpen : Option Node → Type 0
AreOpen o = IfSome o (λ n. AllByRecursion IsOpen n.handles)

-- a handle that the effect adds is readable
abbrev pub AddsOpen : Effect → Type 0
AddsOpen (AddHandle file session h modes) = (is_readable_session session ≡ true) × (has_access modes ≡ true)
AddsOpen e = Unit {0}

node_open : (e : Effect) (o : Option Node) → AddsOpen e → AreOpen o → AreOpen (node_change e o)
node_open (SetChild dir name to) None own h = tt
node_open (SetChild dir name None) (Some n) own h = h
node_open (SetChild dir name (Some file)) (Some n) own h = h
node_open (SetParent file dir name) None own h = tt
node_open (SetParent file dir name) (Some n) own h = h
node_open (NewNode file kind dir name) o own h = tt
node_open (RemoveNode file) o own h = tt
node_open (AddHandle file session h modes) None own x = tt
node_open (AddHandle file session h modes) (Some n) own x =
    let new : Handle = record { session = session; h = h; modes = modes } in
    each_put IsOpen (comes_before new) new (without_handle n.handles session h) (joined _ _ own.0 own.1)
    (each_left IsOpen (λ y. not (is_at session h y)) n.handles x)
node_open (RemoveHandle file session h) None own x = tt
node_open (RemoveHandle file session h) (Some n) own x = each_left IsOpen (λ y. not (is_at session h y)) n.handles x
node_open (SetInfo file size stamp) None own h = tt
node_open (SetInfo file size stamp) (Some n) own h = h

-- ## A record

its_node : (o : Option Record) → IfSome o HasOpenHandles → AreOpen (node_of o)
its_node None h = tt
its_node (Some r) h = h

its_record : (o : Option Node) (next : ℕ) → AreOpen o → IfSome (option_map (λ n. record { node = n; next = next }) o) HasOpenHandles
its_record None next h = tt
its_record (Some n) next h = h

change_open : (e : Effect) (o : Option Record) → AddsOpen e → IfSome o HasOpenHandles → IfSome (record_change e o) HasOpenHandles
change_open e o own h = its_record (node_change e (node_of o)) (next_of o) (node_open e (node_of o) own (its_node o h))

-- ## The records

chosen : (b : Bool) (o p : Option Record) → IfSome o HasOpenHandles → IfSome p HasOpenHandles → IfSome (cond b o p) HasOpenHandles
chosen true o p x y = x
chosen false o p x y = y

open_at : (m : RecordMap) (k : List ℕ) (o : Option Record) → HandlesOpen m → IfSome o HasOpenHandles → HandlesOpen (with_at m k o)
open_at m k o s own q = subst (λ o. IfSome o HasOpenHandles) (sym (get_with_at m k o q)) (chosen _ o (get m q) own (s q))

open_after : (m : RecordMap) (e : Effect) → AddsOpen e → HandlesOpen m → HandlesOpen (records_after m e)
open_after m e own s = open_at m (changed_file e) (record_change e (get m (changed_file e))) s
    (change_open e (get m (changed_file e)) own (s (changed_file e)))

pub open_after_all : (m : RecordMap) (es : List Effect) → AllByRecursion AddsOpen es → HandlesOpen m → HandlesOpen (records_after_all m es)
open_after_all m [] own s = s
open_after_all m (e ∷ es) own s = open_after_all (records_after m e) es own.1 (open_after m e own.0 s)

-- a number that a directory gives changes no handle
pub open_after_gift : (m : RecordMap) (dir : List ℕ) (k : ℕ) → HandlesOpen m → HandlesOpen (records_after_gift m dir (Some k))
open_after_gift m dir k s = within (get m dir) (s dir)
  where
    within : (o : Option Record) → IfSome o HasOpenHandles → HandlesOpen (with_next m dir (k + 1) o)
    within None h = s
    within (Some r) h = open_at m dir (Some (record r { next = k + 1 })) s h

open_empty : HandlesOpen empty
open_empty q = subst (λ (o : Option Record). IfSome o HasOpenHandles) (sym (get-empty (slice_cmp nat_cmp) q)) tt

pub first_open : (b : Bool) → HandlesOpen (first_records b)
first_open true = open_at empty [] (Some _) open_empty tt
first_open false = open_empty

-- ## What goes, and what comes

pub open_left : (prefix : List ℕ) (given : Keyed Bool) (m : RecordMap) → HandlesOpen m → HandlesOpen (records_left prefix given m)
open_left prefix given m s q =
    subst (λ (o : Option Record). IfSome o HasOpenHandles) (sym (left_at prefix given m q)) (chosen _ (get m q) None (s q) tt)

open_one : (o : Option Record) (r : Record) → o ≡ Some r → IfSome o HasOpenHandles → HasOpenHandles r
open_one o r e h = subst (λ (x : Option Record). IfSome x HasOpenHandles) e h

pub open_given : (prefix : List ℕ) (given : Keyed Bool) (m : RecordMap) → HandlesOpen m → RecordsOpen (records_given prefix given m)
open_given prefix given m s e i = open_one (get m e.0) e.1 (there prefix given m e i).0 (s e.0)

open_insert : (m : RecordMap) (file : List ℕ) (r : Record) → HandlesOpen m → HasOpenHandles r → HandlesOpen (with_at m file (Some r))
open_insert m file r s h = open_at m file (Some r) s h

pub open_with : (records : Keyed Record) (m : RecordMap) → RecordsOpen records → HandlesOpen m → HandlesOpen (with_records records m)
open_with [] m own s = s
open_with (e ∷ es) m own s = open_with es (with_at m e.0 (Some e.1)) (λ f i. own f (inr i)) (open_insert m e.0 e.1 s (own e (inl refl)))

-- ## What is added, and what is told

-- the effects of an operation that is readable, of a session that there may be
pub effects_open : (by : Session) (o : Op) (r : Reply) → is_readable_session by ≡ true → is_readable_op o ≡ true
    → AllByRecursion AddsOpen (effects_of by o r)
effects_open by (op.Create dir name kind (Some id)) reply.Made own h = (tt, (tt, tt))
effects_open by (op.OpenFile file x modes) reply.Opened own h = ((own, h), tt)
effects_open by (op.Close file x) reply.Closed own h = (tt, tt)
effects_open by (op.Set file x size stamp) reply.Set own h = (tt, tt)
effects_open by o r own h = tt

own_open : (by : Session) (xs : List Handle) → AllByRecursion IsOpen xs → list_all (λ h. has_access h.1) (own_of by xs) ≡ true
own_open by [] h = refl
own_open by (x ∷ xs) h =
    elim (x.session.0 == by.0) as (λ b. list_all (λ h. has_access h.1) (cond b ((x.h, x.modes) ∷ own_of by xs) (own_of by xs)) ≡ true) [
      | true ↦ joined _ _ (second _ _ h.0) (own_open by xs h.1)
      | false ↦ own_open by xs h.1
    ]

its_handles : (o : Option Record) → IfSome o HasOpenHandles → AllByRecursion IsOpen (handles_of (node_of o))
its_handles None h = tt
its_handles (Some r) h = h

-- the value of a field in the records
pub value_open : (m : RecordMap) (by : Session) (field : Field) → HandlesOpen m → is_readable_value (value_of m by field) ≡ true
value_open m by (Life file) s = refl
value_open m by (Child dir name) s = refl
value_open m by (Names dir) s = refl
value_open m by (Info file) s = refl
value_open m by (Own file) s = own_open by (handles_of (node_of (get m file))) (its_handles (get m file) (s file))
value_open m by (SelfW file mode) s = refl
value_open m by (Other file mode) s = refl
