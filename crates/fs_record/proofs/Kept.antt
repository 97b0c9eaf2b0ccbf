-- What keeps every record one.
use Rattle.std.proofs.Common.{◌≡◌, ℕ, zero, suc, ◌+◌, ◌-◌, ◌<◌, ◌≤◌, ◌^◌, List, length, Bool, true, false, refl, sym, subst, cond, arith}
use Rattle.std.specs.Prelude.{Option, Some, None, IfSome, option_map, Result, Ok, Err, OnOk, OnErr, ◌==◌, not}
use Rattle.std.specs.Ordering.{nat_cmp, eq_by_cmp}
use Rattle.std.specs.Cmp.Lexicographic.{slice_cmp, nat_list_cmp_total}
use Rattle.std.specs.FinMap.{FinMap, empty, get, insert, get-empty, get-insert, get-remove}
use Rattle.fs_field.specs.declared.effect.Effect.{Effect}
use Rattle.fs_field.specs.declared.effect.Effect.TheVariants.{SetChild, SetParent, NewNode, RemoveNode, AddHandle, RemoveHandle, SetInfo}
use Rattle.fs_model.specs.declared.node.Node.{Node}
use Rattle.fs_model.specs.Handles.{is_at, without_handle}
use Rattle.fs_model.specs.Namespace.{IsInOrder, root_node}
use Rattle.fs_model.proofs.HandleOrder.{with_handle_in_order, filter_in_order, handle_at-without_handle}
use Rattle.fs_model.proofs.Keeping.{fresh_in_order, with_link_in_order, without_link_in_order}
use Rattle.fs_record.specs.declared.record.Record.{Record}
use Rattle.fs_record.specs.Records.{RecordMap, AreRecords, IsRecord, next_of, root_record}
use Rattle.fs_field.specs.After.{changed_file}
use Rattle.fs_record.specs.Applied.{node_change, record_change, records_after, with_at}
use Rattle.fs_record.specs.Fresh.{fresh_number, records_after_gift, with_next, is_borne, least_free, free_from}

pub record_at : (m : RecordMap) → AreRecords m → (id : List ℕ) (r : Record) → get m id ≡ Some r → IsRecord r
record_at m s id r e = subst (λ o. IfSome o IsRecord) e (s id)

-- ## What stands at an identifier

chosen : {X : Type 0} (b : Bool) (o p : Option X) (P : X → Type 0) → IfSome o P → IfSome p P → IfSome (cond b o p) P
chosen true o p P x y = x
chosen false o p P x y = y

pub get_with_at : {X : Type 0} (m : FinMap (slice_cmp nat_cmp) X) (k : List ℕ) (o : Option X) (q : List ℕ) → get (with_at m k o) q ≡ cond (eq_by_cmp (slice_cmp nat_cmp) q k) o (get m q)
get_with_at m k None q = get-remove nat_list_cmp_total m k q
get_with_at m k (Some x) q = get-insert nat_list_cmp_total m k x q

pub kept_with_at : (m : RecordMap) (k : List ℕ) (o : Option Record) → AreRecords m → IfSome o IsRecord → AreRecords (with_at m k o)
kept_with_at m k o s own q = subst (λ o. IfSome o IsRecord) (sym (get_with_at m k o q)) (chosen _ o (get m q) IsRecord own (s q))

pub kept_insert : (m : RecordMap) (k : List ℕ) (r : Record) → AreRecords m → IsRecord r → AreRecords (insert m k r)
kept_insert m k r s own = kept_with_at m k (Some r) s own

pub kept_empty : AreRecords empty
kept_empty id = subst (λ (o : Option Record). IfSome o IsRecord) (sym (get-empty (slice_cmp nat_cmp) id)) tt

pub root_kept : IsRecord root_record
root_kept = record { in_order = fresh_in_order root_node.kind None; least = omega arith; most = omega arith }

-- ## An effect

node_kept : (e : Effect) (n : Node) → IsInOrder n → IfSome (node_change e (Some n)) IsInOrder
node_kept (SetChild dir name None) n own = without_link_in_order name n own
node_kept (SetChild dir name (Some file)) n own = with_link_in_order name file n own
node_kept (SetParent file dir name) n own = record { children = own.children; handles = own.handles }
node_kept (NewNode file kind dir name) n own = fresh_in_order kind (Some (dir, name))
node_kept (RemoveNode file) n own = tt
node_kept (AddHandle file session h modes) n own = record {
  children = own.children;
  handles = with_handle_in_order (record { session = session; h = h; modes = modes }) (without_handle n.handles session h) (handle_at-without_handle n.handles session h) (filter_in_order (λ x. not (is_at session h x)) n.handles own.handles);
}
node_kept (RemoveHandle file session h) n own = record { children = own.children; handles = filter_in_order (λ x. not (is_at session h x)) n.handles own.handles }
node_kept (SetInfo file size stamp) n own = record { children = own.children; handles = own.handles }

with_node : (o : Option Node) (next : ℕ) → 1 ≤ next → next ≤ 2 ^ 32 → IfSome o IsInOrder → IfSome (option_map (λ n. record { node = n; next = next }) o) IsRecord
with_node None next p q own = tt
with_node (Some n) next p q own = record { in_order = own; least = p; most = q }

change_kept : (e : Effect) (o : Option Record) → IfSome o IsRecord → IfSome (record_change e o) IsRecord
change_kept (SetChild dir name to) None own = tt
change_kept (SetParent file dir name) None own = tt
change_kept (NewNode file kind dir name) None own = record { in_order = fresh_in_order kind (Some (dir, name)); least = omega arith; most = omega arith }
change_kept (RemoveNode file) None own = tt
change_kept (AddHandle file session h modes) None own = tt
change_kept (RemoveHandle file session h) None own = tt
change_kept (SetInfo file size stamp) None own = tt
change_kept e (Some r) own = with_node (node_change e (Some r.node)) r.next own.least own.most (node_kept e r.node own.in_order)

pub after_kept : (m : RecordMap) (e : Effect) → AreRecords m → AreRecords (records_after m e)
after_kept m e s = kept_with_at m (changed_file e) (record_change e (get m (changed_file e))) s (change_kept e (get m (changed_file e)) (s (changed_file e)))

-- ## A number

pub free_bounds : (n k : ℕ) (borne : List ℕ) (j : ℕ) → least_free n k borne ≡ Some j → (k ≤ j) × (j < k + n)
free_bounds zero k borne j e = absurd (cc e)
free_bounds (suc n) k borne j e = within (is_borne borne k) (free_bounds n (k + 1) borne j) e
  where
    within : (b : Bool) → (least_free n (k + 1) borne ≡ Some j → (k + 1 ≤ j) × (j < (k + 1) + n)) → cond b (least_free n (k + 1) borne) (Some k) ≡ Some j → (k ≤ j) × (j < k + suc n)
    within true f h = let p : (k + 1 ≤ j) × (j < (k + 1) + n) = f h in (omega arith, omega arith)
    within false f h = let p : k ≡ j = cc h in (omega arith, omega arith)

pub next_kept : (m : RecordMap) (dir : List ℕ) (next : ℕ) (o : Option Record) → get m dir ≡ o → AreRecords m → 1 ≤ next → next ≤ 2 ^ 32 → AreRecords (with_next m dir next o)
next_kept m dir next None e s p q = s
next_kept m dir next (Some r) e s p q = kept_insert m dir (record r { next = next }) s (record { in_order = (record_at m s dir r e).in_order; least = p; most = q })

pub next_bound : (m : RecordMap) (dir : List ℕ) → AreRecords m → next_of (get m dir) ≤ 2 ^ 32
next_bound m dir s = bound (get m dir) (s dir)
  where
    bound : (o : Option Record) → IfSome o IsRecord → next_of o ≤ 2 ^ 32
    bound None own = omega arith
    bound (Some r) own = own.most

pub number_bound : (m : RecordMap) (dir borne : List ℕ) (k : ℕ) → AreRecords m → fresh_number m dir borne ≡ Some k → k < 2 ^ 32
number_bound m dir borne k s e = within (length dir == 32) e
  where
    within : (b : Bool) → cond b None (free_from (next_of (get m dir)) borne) ≡ Some k → k < 2 ^ 32
    within true h = absurd (cc h)
    within false h =
        let p = free_bounds (2 ^ 32 - next_of (get m dir)) (next_of (get m dir)) borne k h in
        let q = next_bound m dir s in
        omega arith

pub given_kept : (m : RecordMap) (dir borne : List ℕ) → AreRecords m → AreRecords (records_after_gift m dir (fresh_number m dir borne))
given_kept m dir borne s = within (fresh_number m dir borne) refl
  where
    within : (o : Option ℕ) → fresh_number m dir borne ≡ o → AreRecords (records_after_gift m dir o)
    within None e = s
    within (Some k) e = let p = number_bound m dir borne k s e in next_kept m dir (k + 1) (get m dir) refl s (omega arith) (omega arith)

-- records after a call that does one of two things
pub either_kept : {X E : Type 0} (r : Result X E) (old new told : RecordMap) → OnOk r (new ≡ told) → OnErr r (new ≡ old) → AreRecords old → AreRecords told → AreRecords new
either_kept (Ok x) old new told ok err s t = subst AreRecords (sym ok) t
either_kept (Err e) old new told ok err s t = subst AreRecords (sym err) s
