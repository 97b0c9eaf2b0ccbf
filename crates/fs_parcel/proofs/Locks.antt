-- The least transaction that keeps a row of either table.
use Rattle.std.proofs.Common.{◌≡◌, ℕ, Bool, true, false, List, [], ◌∷◌, refl, ap, cond, sym, ◌∙◌, arith}
use Rattle.std.specs.Prelude.{Option, Some, None}
use Rattle.std.specs.Ordering.{nat_cmp, is_lt, ordering_then}
use Rattle.std.proofs.lemmas.Bool.Decides.{nat_tests}
use Rattle.fs_ident.specs.declared.actor.TxnNo.{TxnNo}
use Rattle.fs_field.specs.declared.row.Row.{Row}
use Rattle.fs_field.specs.Table.{no_before, with_row}
use Rattle.fs_map.specs.Map.{Owners}
use Rattle.fs_rows.specs.Granted.{with_rows}
use Rattle.fs_rows.specs.Moving.{txn_before, lesser, least_of, lock_below, locked_in}
use Rattle.fs_rows.proofs.Goes.{least_assoc}
use Rattle.fs_parcel.specs.Rows.{in_one_list}
use Rattle.fs_parcel.proofs.Both.{later}

-- ## The lesser of two

one_server : (a b c d : ℕ) → is_lt (ordering_then (nat_cmp a c) (nat_cmp b d)) ≡ false → is_lt (ordering_then (nat_cmp c a) (nat_cmp d b)) ≡ false → a ≡ c
one_server a b c d h k = grind (arith, nat_tests)

one_count : (a b c d : ℕ) → is_lt (ordering_then (nat_cmp a c) (nat_cmp b d)) ≡ false → is_lt (ordering_then (nat_cmp c a) (nat_cmp d b)) ≡ false → b ≡ d
one_count a b c d h k = grind (arith, nat_tests)

-- of two numbers one comes first, or they are one
tied : (a b : TxnNo) → txn_before b a ≡ false → txn_before a b ≡ false → a ≡ b
tied a b h k =
    ap (λ s. let n : TxnNo = record { server = s; count = a.count } in n) (one_server a.server a.count b.server b.count k h)
    ∙ ap (λ m. let n : TxnNo = record { server = b.server; count = m } in n) (one_count a.server a.count b.server b.count k h)

by_tests : (p q : Bool) (a b : TxnNo) → (p ≡ true → q ≡ false) → (p ≡ false → q ≡ false → a ≡ b) → cond p b a ≡ cond q a b
by_tests true true a b up same = absurd (cc (up refl))
by_tests true false a b up same = refl
by_tests false true a b up same = refl
by_tests false false a b up same = same refl refl

lesser_comm : (a b : TxnNo) → lesser a b ≡ lesser b a
lesser_comm a b = by_tests (txn_before b a) (txn_before a b) a b (later b.server b.count a.server a.count) (tied a b)

least_comm : (a b : Option TxnNo) → least_of a b ≡ least_of b a
least_comm None None = refl
least_comm None (Some b) = refl
least_comm (Some a) None = refl
least_comm (Some a) (Some b) = ap Some (lesser_comm a b)

least_none : (a : Option TxnNo) → a ≡ least_of a None
least_none None = refl
least_none (Some a) = refl

-- ## Of both tables

module _ (prefix : List ℕ) (owners : Owners) (me : ℕ) where
  locked_put : (r : Row) (rows : List Row) → locked_in prefix owners me (with_row r rows) ≡ least_of (lock_below prefix owners me r) (locked_in prefix owners me rows)
  locked_put r [] = refl
  locked_put r (y ∷ ys) =
      elim (no_before r.no y.no) as (λ b. locked_in prefix owners me (cond b (r ∷ y ∷ ys) (y ∷ with_row r ys)) ≡ least_of (lock_below prefix owners me r) (least_of (lock_below prefix owners me y) (locked_in prefix owners me ys))) [
        | true ↦ refl
        | false ↦ ap (least_of (lock_below prefix owners me y)) (locked_put r ys)
            ∙ sym (least_assoc (lock_below prefix owners me y) (lock_below prefix owners me r) (locked_in prefix owners me ys))
            ∙ ap (λ o. least_of o (locked_in prefix owners me ys)) (least_comm (lock_below prefix owners me y) (lock_below prefix owners me r))
            ∙ least_assoc (lock_below prefix owners me r) (lock_below prefix owners me y) (locked_in prefix owners me ys)
      ]

  locked_with : (more rows : List Row) → locked_in prefix owners me (with_rows more rows) ≡ least_of (locked_in prefix owners me rows) (locked_in prefix owners me more)
  locked_with [] rows = least_none (locked_in prefix owners me rows)
  locked_with (r ∷ rs) rows =
      locked_with rs (with_row r rows)
      ∙ ap (λ o. least_of o (locked_in prefix owners me rs)) (locked_put r rows ∙ least_comm (lock_below prefix owners me r) (locked_in prefix owners me rows))
      ∙ least_assoc (locked_in prefix owners me rows) (lock_below prefix owners me r) (locked_in prefix owners me rs)

  -- it is the lesser of those of the two tables
  pub locked_both : (plain modes : List Row) → least_of (locked_in prefix owners me plain) (locked_in prefix owners me modes) ≡ locked_in prefix owners me (in_one_list plain modes)
  locked_both plain modes = sym (locked_with modes plain)
