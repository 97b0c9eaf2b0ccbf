-- The numbers that directories give, and what one effect or gift makes of next numbers.
use Rattle.std.proofs.Common.{◌≡◌, ℕ, zero, suc, ◌+◌, ◌-◌, ◌<◌, ◌≤◌, ◌^◌, List, length, Bool, true, false, refl, ap, sym, ◌∙◌, subst, cond, arith, inl, inr, ◌⊎◌}
use Rattle.std.specs.Prelude.{Option, Some, None, option_map, ◌==◌, is_some}
use Rattle.std.specs.Ordering.{nat_cmp, eq_by_cmp}
use Rattle.std.specs.Cmp.Lexicographic.{slice_cmp, nat_list_cmp_total, nat_list_eq_equiv}
use Rattle.std.specs.FinMap.{get, get-insert}
use Rattle.std.proofs.lemmas.Bool.Decides.{nat_tests}
use Rattle.fs_ident.specs.Ident.{same}
use Rattle.fs_field.specs.declared.effect.Effect.{Effect}
use Rattle.fs_model.specs.declared.node.Node.{Node}
use Rattle.fs_record.specs.declared.record.Record.{Record}
use Rattle.fs_record.specs.Records.{RecordMap, node_of, next_of}
use Rattle.fs_field.specs.After.{changed_file}
use Rattle.fs_record.specs.Applied.{node_change, record_change, records_after}
use Rattle.fs_record.specs.Fresh.{is_borne, least_free, free_from, fresh_number, records_after_gift, with_next, IsLeastFree}
use Rattle.fs_record.proofs.Kept.{get_with_at, free_bounds}
use Rattle.fs_record.proofs.NodeValues.{tied, key_is}

-- ## The search

-- a number found is free, and every lesser one is borne
free_found : (n k : ℕ) (borne : List ℕ) (j : ℕ) → least_free n k borne ≡ Some j → (is_borne borne j ≡ false) × ((i : ℕ) → k ≤ i → i < j → is_borne borne i ≡ true)
free_found zero k borne j e = absurd (cc e)
free_found (suc n) k borne j e = within (is_borne borne k) refl (free_found n (k + 1) borne j) e
  where
    within : (b : Bool) → is_borne borne k ≡ b → (least_free n (k + 1) borne ≡ Some j → (is_borne borne j ≡ false) × ((i : ℕ) → k + 1 ≤ i → i < j → is_borne borne i ≡ true))
        → cond b (least_free n (k + 1) borne) (Some k) ≡ Some j → (is_borne borne j ≡ false) × ((i : ℕ) → k ≤ i → i < j → is_borne borne i ≡ true)
    within false t f h = let p : k ≡ j = cc h in (subst (λ x. is_borne borne x ≡ false) p t, λ i low high. absurd (omega arith))
    within true t f h = let rest = f h in (rest.0, λ i low high. from_here i low high rest.1)
      where
        from_here : (i : ℕ) → k ≤ i → i < j → ((i : ℕ) → k + 1 ≤ i → i < j → is_borne borne i ≡ true) → is_borne borne i ≡ true
        from_here i low high g = elim (k == i) as (λ b. (k == i) ≡ b → is_borne borne i ≡ true) [
          | true ↦ λ e. let q : k ≡ i = grind (arith, nat_tests) in subst (λ x. is_borne borne x ≡ true) q t
          | false ↦ λ e. let q : k + 1 ≤ i = grind (arith, nat_tests) in g i q high
        ] refl

-- where none is found every number is borne
free_none : (n k : ℕ) (borne : List ℕ) → least_free n k borne ≡ None → (i : ℕ) → k ≤ i → i < k + n → is_borne borne i ≡ true
free_none zero k borne e i low high = absurd (omega arith)
free_none (suc n) k borne e i low high = within (is_borne borne k) refl (free_none n (k + 1) borne) e
  where
    within : (b : Bool) → is_borne borne k ≡ b → (least_free n (k + 1) borne ≡ None → (i : ℕ) → k + 1 ≤ i → i < (k + 1) + n → is_borne borne i ≡ true) → cond b (least_free n (k + 1) borne) (Some k) ≡ None → is_borne borne i ≡ true
    within false t f h = absurd (cc h)
    within true t f h = elim (k == i) as (λ b. (k == i) ≡ b → is_borne borne i ≡ true) [
      | true ↦ λ e. let q : k ≡ i = grind (arith, nat_tests) in subst (λ x. is_borne borne x ≡ true) q t
      | false ↦ λ e. let q : k + 1 ≤ i = grind (arith, nat_tests) in f h i q (omega arith)
    ] refl

below_end : (a b k : ℕ) → a ≤ k → k < a + (b - a) → k < b
below_end a b k p q = omega arith

pub number_least : (m : RecordMap) (dir borne : List ℕ) (k : ℕ) → fresh_number m dir borne ≡ Some k → IsLeastFree (next_of (get m dir)) borne k
number_least m dir borne k e = within (length dir == 32) e
  where
    next : ℕ
    next = next_of (get m dir)

    within : (b : Bool) → cond b None (free_from next borne) ≡ Some k → IsLeastFree next borne k
    within true h = absurd (cc h)
    within false h =
        let p = free_bounds (2 ^ 32 - next) next borne k h in
        let f = free_found (2 ^ 32 - next) next borne k h in
        record { from = p.0; below = below_end next (2 ^ 32) k p.0 p.1; free = f.0; least = f.1 }

pub number_none : (m : RecordMap) (dir borne : List ℕ) → fresh_number m dir borne ≡ None → (length dir ≡ 32) ⊎ ((i : ℕ) → next_of (get m dir) ≤ i → i < 2 ^ 32 → is_borne borne i ≡ true)
number_none m dir borne e = within (length dir == 32) refl e
  where
    next : ℕ
    next = next_of (get m dir)

    within : (b : Bool) → (length dir == 32) ≡ b → cond b None (free_from next borne) ≡ None → (length dir ≡ 32) ⊎ ((i : ℕ) → next ≤ i → i < 2 ^ 32 → is_borne borne i ≡ true)
    within true t h = inl (grind (arith, nat_tests))
    within false t h = inr (λ i low high. free_none (2 ^ 32 - next) next borne h i low (omega arith))

-- ## One thing

with_node_next : (o : Option Node) (next : ℕ) → is_some (option_map (λ n. let r : Record = record { node = n; next = next } in r) o) ≡ true → next_of (option_map (λ n. record { node = n; next = next }) o) ≡ next
with_node_next None next h = absurd (cc h)
with_node_next (Some n) next h = refl

-- an effect keeps the next number of every record that stands after it, and a new one begins with 1
pub effect_next : (m : RecordMap) (e : Effect) (id : List ℕ) → is_some (get (records_after m e) id) ≡ true → next_of (get (records_after m e) id) ≡ next_of (get m id)
effect_next m e id h = ap next_of at ∙ within (eq_by_cmp (slice_cmp nat_cmp) id f) refl (sym (ap is_some at) ∙ h)
  where
    f : List ℕ
    f = changed_file e

    at : get (records_after m e) id ≡ cond (eq_by_cmp (slice_cmp nat_cmp) id f) (record_change e (get m f)) (get m id)
    at = get_with_at m f (record_change e (get m f)) id

    within : (b : Bool) → eq_by_cmp (slice_cmp nat_cmp) id f ≡ b → is_some (cond b (record_change e (get m f)) (get m id)) ≡ true → next_of (cond b (record_change e (get m f)) (get m id)) ≡ next_of (get m id)
    within true t s = with_node_next (node_change e (node_of (get m f))) (next_of (get m f)) s ∙ ap (λ x. next_of (get m x)) (sym (key_is id f t))
    within false t s = refl

-- a gift raises the next number of its directory past the number given
pub given_here : (m : RecordMap) (dir : List ℕ) (k : ℕ) (r : Record) → get m dir ≡ Some r → get (records_after_gift m dir (Some k)) dir ≡ Some (record { node = r.node; next = k + 1 })
given_here m dir k r e =
    ap (λ o. get (with_next m dir (k + 1) o) dir) e ∙ get-insert nat_list_cmp_total m dir (record { node = r.node; next = k + 1 }) dir
    ∙ ap (λ b. cond b (Some (record { node = r.node; next = k + 1 })) (get m dir)) (tied dir dir ∙ nat_list_eq_equiv.refl dir)

-- it leaves all else
pub given_elsewhere : (m : RecordMap) (dir id : List ℕ) (o : Option ℕ) → same id dir ≡ false → get (records_after_gift m dir o) id ≡ get m id
given_elsewhere m dir id None h = refl
given_elsewhere m dir id (Some k) h = within (get m dir)
  where
    within : (o : Option Record) → get (with_next m dir (k + 1) o) id ≡ get m id
    within None = refl
    within (Some r) = get-insert nat_list_cmp_total m dir (record { node = r.node; next = k + 1 }) id ∙ ap (λ b. cond b (Some (record { node = r.node; next = k + 1 })) (get m id)) (tied id dir ∙ h)
