-- What keeps every node of a space in order.
use Rattle.std.proofs.Common.{◌≡◌, ℕ, List, Bool, true, false, refl, sym, subst, cond, Bor}
use Rattle.std.specs.Prelude.{Option, Some, None, IfSome}
use Rattle.std.specs.Option.{option_copied}
use Rattle.std.specs.Ordering.{nat_cmp}
use Rattle.std.specs.Cmp.Lexicographic.{slice_cmp, nat_list_cmp_total}
use Rattle.std.specs.FinMap.{empty, get, insert, remove, get-empty, get-insert, get-remove}
use Rattle.fs_model.specs.declared.node.Node.{Node}
use Rattle.fs_model.specs.Namespace.{NodeMap, IsSpace, IsInOrder, with_change, with_change_at}

-- a node of the space is in order
pub in_order_at : (m : NodeMap) → IsSpace m → (id : List ℕ) (n : Node) → get m id ≡ Some n → IsInOrder n
in_order_at m s id n e = subst (λ o. IfSome o IsInOrder) e (s id)

pub copied_in_order : (m : NodeMap) → IsSpace m → (id : List ℕ) (r : Option (Bor Node)) → option_copied r ≡ get m id → IfSome r (λ n. IsInOrder n.now)
copied_in_order m s id None e = tt
copied_in_order m s id (Some n) e = in_order_at m s id n.now (sym e)

either : (b : Bool) (o : Option Node) (n : Node) → IsInOrder n → IfSome o IsInOrder → IfSome (cond b (Some n) o) IsInOrder
either true o n own rest = own
either false o n own rest = rest

neither : (b : Bool) (o : Option Node) → IfSome o IsInOrder → IfSome (cond b None o) IsInOrder
neither true o rest = tt
neither false o rest = rest

pub IsSpace-insert : (m : NodeMap) (k : List ℕ) (n : Node) → IsSpace m → IsInOrder n → IsSpace (insert m k n)
IsSpace-insert m k n s own id = subst (λ o. IfSome o IsInOrder) (sym (get-insert nat_list_cmp_total m k n id)) (either _ (get m id) n own (s id))

pub IsSpace-remove : (m : NodeMap) (k : List ℕ) → IsSpace m → IsSpace (remove m k)
IsSpace-remove m k s id = subst (λ o. IfSome o IsInOrder) (sym (get-remove nat_list_cmp_total m k id)) (neither _ (get m id) (s id))

pub IsSpace-with_change : (f : Node → Node) (m : NodeMap) (id : List ℕ) → ((n : Node) → IsInOrder n → IsInOrder (f n)) → IsSpace m → IsSpace (with_change f m id)
IsSpace-with_change f m id keeps s = go (get m id) refl
  where
    go : (o : Option Node) → get m id ≡ o → IsSpace (with_change_at f m id o)
    go None e = s
    go (Some n) e = IsSpace-insert m id (f n) s (keeps n (in_order_at m s id n e))

pub IsSpace-empty : IsSpace empty
IsSpace-empty id = subst (λ (o : Option Node). IfSome o IsInOrder) (sym (get-empty (slice_cmp nat_cmp) id)) tt
