-- Lists that rise, from one item on to the next.
use Rattle.std.proofs.Common.{◌≡◌, ◌∙◌, ℕ, zero, suc, ◌+◌, ◌<◌, Bool, true, false, List, [], ◌∷◌, refl, ap, length, get_or, drop, arith, add-one}
use Rattle.std.specs.Prelude.{◌&&◌}
use Rattle.std.specs.Ordering.{nat_cmp, is_lt}
use Rattle.std.specs.Cmp.Lexicographic.{slice_cmp, nat_list_cmp_total}
use Rattle.std.specs.FinMap.Entries.{below_all}
use Rattle.std.specs.declared.cmp.Ordering.TheVariants.{Less}
use Rattle.fs_ident.specs.Ordered.{Keyed, are_keys_in_order}
use Rattle.fs_ident.proofs.Booleans.{first, second, joined, less, and_never}
use Rattle.fs_map.proofs.Changing.{next_item}
use Rattle.fs_model.proofs.HandleOrder.{before_all_trans}
use Rattle.fs_model.specs.Handles.{comes_before, handles_are_in_order, is_before_all}
use Rattle.fs_model.specs.Namespace.{IsInOrder}
use Rattle.fs_model.specs.declared.node.Handle.{Handle}
use Rattle.fs_model.specs.declared.node.Node.{Node}

-- ## Names

through : {V : Type 0} (a b : List ℕ) (es : Keyed V) → slice_cmp nat_cmp a b ≡ Less → below_all (slice_cmp nat_cmp) b es ≡ true → below_all (slice_cmp nat_cmp) a es ≡ true
through a b [] l h = refl
through a b (e ∷ es) l h = joined _ _ (ap is_lt (nat_list_cmp_total.trans a b e.0 l (less _ (first _ _ h)))) (through a b es l (second _ _ h))

names_next : {V : Type 0} (last : List ℕ) (e : List ℕ × V) (es : Keyed V) → slice_cmp nat_cmp last e.0 ≡ Less
    → (below_all (slice_cmp nat_cmp) last (e ∷ es) && are_keys_in_order (e ∷ es)) ≡ (below_all (slice_cmp nat_cmp) e.0 es && are_keys_in_order es)
names_next last e es l =
    elim (below_all (slice_cmp nat_cmp) e.0 es) as (λ b. below_all (slice_cmp nat_cmp) e.0 es ≡ b → ((is_lt (slice_cmp nat_cmp last e.0) && below_all (slice_cmp nat_cmp) last es) && (b && are_keys_in_order es)) ≡ (b && are_keys_in_order es)) [
      | true ↦ λ h. ap (λ c. c && are_keys_in_order es) (joined _ _ (ap is_lt l) (through last e.0 es l h))
      | false ↦ λ h. and_never (is_lt (slice_cmp nat_cmp last e.0) && below_all (slice_cmp nat_cmp) last es) (are_keys_in_order es)
    ] refl

pub names_on : {V : Type 0} (last : List ℕ) (rest : Keyed V) (i : ℕ) (e : List ℕ × V) → i < length rest → e ≡ get_or rest i e → slice_cmp nat_cmp last e.0 ≡ Less
    → (below_all (slice_cmp nat_cmp) last (drop i rest) && are_keys_in_order (drop i rest)) ≡ (below_all (slice_cmp nat_cmp) e.0 (drop (i + 1) rest) && are_keys_in_order (drop (i + 1) rest))
names_on last rest i e within is l = ap (λ es. below_all (slice_cmp nat_cmp) last es && are_keys_in_order es) (next_item rest i e within is) ∙ names_next last e (drop (i + 1) rest) l

-- ## Handles

handles_next : (last x : Handle) (xs : List Handle) → comes_before last x ≡ true → (is_before_all last (x ∷ xs) && handles_are_in_order (x ∷ xs)) ≡ (is_before_all x xs && handles_are_in_order xs)
handles_next last x xs l =
    elim (is_before_all x xs) as (λ b. is_before_all x xs ≡ b → ((comes_before last x && is_before_all last xs) && (b && handles_are_in_order xs)) ≡ (b && handles_are_in_order xs)) [
      | true ↦ λ h. ap (λ c. c && handles_are_in_order xs) (joined _ _ l (before_all_trans last x xs l h))
      | false ↦ λ h. and_never (comes_before last x && is_before_all last xs) (handles_are_in_order xs)
    ] refl

next_handle : (xs : List Handle) (i : ℕ) (d : Handle) → i < length xs → drop i xs ≡ get_or xs i d ∷ drop (i + 1) xs
next_handle [] i d within = absurd (omega arith)
next_handle (x ∷ xs) zero d within = refl
next_handle (x ∷ xs) (suc i) d within = rw add-one (rw add-one at (next_handle xs i d (omega arith)))

pub handles_on : (last : Handle) (rest : List Handle) (i : ℕ) (d : Handle) → i < length rest → comes_before last (get_or rest i d) ≡ true
    → (is_before_all last (drop i rest) && handles_are_in_order (drop i rest)) ≡ (is_before_all (get_or rest i d) (drop (i + 1) rest) && handles_are_in_order (drop (i + 1) rest))
handles_on last rest i d within l = ap (λ xs. is_before_all last xs && handles_are_in_order xs) (next_handle rest i d within) ∙ handles_next last (get_or rest i d) (drop (i + 1) rest) l

-- ## Both

pub test_order : (n : Node) → (are_keys_in_order n.children && handles_are_in_order n.handles) ≡ true → IsInOrder n
test_order n h =
    let cs : Bool = are_keys_in_order n.children in
    let hs : Bool = handles_are_in_order n.handles in
    record { children = first cs hs h; handles = second cs hs h }

pub order_test : (n : Node) → IsInOrder n → (are_keys_in_order n.children && handles_are_in_order n.handles) ≡ true
order_test n o =
    let cs : Bool = are_keys_in_order n.children in
    let hs : Bool = handles_are_in_order n.handles in
    joined cs hs o.children o.handles
