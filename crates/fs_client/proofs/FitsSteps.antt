-- Which entry stands at a place, and which grants are next and last.
use Rattle.std.proofs.Common.{◌≡◌, ℕ, zero, suc, ◌<◌, ◌≤◌, ◌==◌, false, List, [], ◌∷◌, ◌++◌, append-nil, append_assoc, refl, ap, sym, ◌∙◌, drop, get_or, length, map, arith}
use Rattle.std.specs.Prelude.{Option, ◌&&◌}
use Rattle.fs_ident.specs.declared.actor.LeaseNo.{LeaseNo}
use Rattle.fs_field.specs.declared.field.Field.{Field}
use Rattle.fs_field.specs.declared.field.Field.TheVariants.{Life}
use Rattle.fs_field.specs.declared.lease_kind.LeaseKind.{LeaseKind}
use Rattle.fs_field.specs.declared.lease_kind.LeaseKind.TheVariants.{Exclusive}
use Rattle.fs_msg.specs.declared.answer.Grant.{Grant}
use Rattle.fs_view.specs.declared.view_lease.ViewLease.{ViewLease}
use Rattle.fs_msg.specs.declared.entry.Entry.{Entry}
use Rattle.fs_client.specs.Answers.{begins_numbers, front_fits, is_entry_at, is_new, is_of_item, life_last}

pub entry_there : (n k : ℕ) (log : List Entry) (e : Entry) → k < length log → e ≡ get_or log k e → is_entry_at n k log ≡ (e.n == n)
entry_there n k [] e h q = absurd (omega arith)
entry_there n zero (x ∷ xs) e h q = ap (λ (y : Entry). y.n == n) (sym q)
entry_there n (suc k) (x ∷ xs) e h q = entry_there n k xs e (omega arith) q

pub no_entry : (n k : ℕ) (log : List Entry) → length log ≤ k → is_entry_at n k log ≡ false
no_entry n k [] h = refl
no_entry n zero (x ∷ xs) h = absurd (omega arith)
no_entry n (suc k) (x ∷ xs) h = no_entry n k xs (omega arith)

-- ## Where the shorter list ends

abbrev pub number_at : LeaseNo × Option ℕ → LeaseNo
number_at row = row.0

pub no_more : (k : ℕ) (sent : List LeaseNo) (rows : List (LeaseNo × Option ℕ)) → k ≡ length sent → k < length rows → begins_numbers (drop k sent) (map number_at (drop k rows)) ≡ false
no_more zero [] [] e h = absurd (omega arith)
no_more zero [] (r ∷ rs) e h = refl
no_more zero (s ∷ ss) rows e h = absurd (omega arith)
no_more (suc k) [] rows e h = absurd (omega arith)
no_more (suc k) (s ∷ ss) [] e h = absurd (omega arith)
no_more (suc k) (s ∷ ss) (r ∷ rs) e h = no_more k ss rs (omega arith) (omega arith)

pub no_items : (k : ℕ) (items : List (Field × LeaseKind)) (leases : List ViewLease) (before grants : List Grant) → k ≡ length items → k < length grants → front_fits (drop k items) leases before (drop k grants) ≡ false
no_items zero [] leases before [] e h = absurd (omega arith)
no_items zero [] leases before (g ∷ gs) e h = refl
no_items zero (x ∷ xs) leases before grants e h = absurd (omega arith)
no_items (suc k) [] leases before grants e h = absurd (omega arith)
no_items (suc k) (x ∷ xs) leases before [] e h = absurd (omega arith)
no_items (suc k) (x ∷ xs) leases before (g ∷ gs) e h = no_items k xs leases before gs (omega arith) (omega arith)

-- ## The last grant

last_behind : (items : List (Field × LeaseKind)) (id : List ℕ) (leases : List ViewLease) (front gs : List Grant) (g : Grant)
    → life_last items id leases front (gs ++ g ∷ []) ≡ (front_fits items leases [] (front ++ gs) && (is_of_item (Life id, Exclusive) g && is_new leases (front ++ gs) g))
last_behind items id leases front [] g = ap (λ fs. front_fits items leases [] fs && (is_of_item (Life id, Exclusive) g && is_new leases fs g)) (sym (append-nil front))
last_behind items id leases front (x ∷ []) g = refl
last_behind items id leases front (x ∷ y ∷ gs) g =
    last_behind items id leases (front ++ x ∷ []) (y ∷ gs) g
    ∙ ap (λ fs. front_fits items leases [] fs && (is_of_item (Life id, Exclusive) g && is_new leases fs g)) (append_assoc front (x ∷ []) (y ∷ gs))

pub last_is : (items : List (Field × LeaseKind)) (id : List ℕ) (leases : List ViewLease) (front : List Grant) (g : Grant) → life_last items id leases [] (front ++ g ∷ []) ≡ (front_fits items leases [] front && (is_of_item (Life id, Exclusive) g && is_new leases front g))
last_is items id leases front g = last_behind items id leases [] front g

pub none_last : (items : List (Field × LeaseKind)) (id : List ℕ) (leases : List ViewLease) (grants : List Grant) → length grants ≡ 0 → life_last items id leases [] grants ≡ false
none_last items id leases [] e = refl
none_last items id leases (g ∷ gs) e = absurd (omega arith)
