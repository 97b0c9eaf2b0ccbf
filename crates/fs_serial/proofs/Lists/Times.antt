-- How many rows have a number: where none has that of another, rows that are put together are in order.
use Rattle.std.proofs.Common.{◌≡◌, ◌==◌, ◌+◌, ◌≤◌, ◌&&◌, not, ℕ, Bool, true, false, List, [], ◌∷◌, refl, ap, subst, cond, arith}
use Rattle.std.specs.List.{filter, list_all, list_any}
use Rattle.std.specs.Ordering.{nat_cmp, is_lt, ordering_then}
use Rattle.std.proofs.lemmas.Bool.Decides.{nat_tests}
use Rattle.fs_ident.specs.declared.actor.LeaseNo.{LeaseNo}
use Rattle.fs_ident.proofs.Booleans.{both as both_hold, joined}
use Rattle.fs_ident.proofs.Passing.{all-In}
use Rattle.fs_field.specs.Table.{has_no, is_ordered, no_before, with_row}
use Rattle.fs_field.specs.declared.row.Row.{Row}
use Rattle.fs_field.proofs.Order.{ordered_put}
use Rattle.fs_field.proofs.SameNo.{same_no_self}
use Rattle.fs_record.specs.declared.parcel.Parcel.{Parcel}
use Rattle.fs_rows.specs.Granted.{with_rows}
use Rattle.fs_rows.specs.Moving.{are_new, is_new}
use Rattle.fs_server.specs.declared.state.Server.{Server}
use Rattle.fs_serial.specs.Joined.{rows_of_all, with_rows_in, with_rows_of}
use Rattle.fs_serial.proofs.Lists.Counted.{none_of, none_passes, one_if, total, total_put}

abbrev pub times : LeaseNo → List Row → ℕ
times n rows = total (λ r. one_if (has_no n r)) rows

-- ## Rows put together

pub times_put : (n : LeaseNo) (r : Row) (rows : List Row) → times n (with_row r rows) ≡ one_if (has_no n r) + times n rows
times_put n r rows = total_put (λ x. one_if (has_no n x)) (λ x. no_before r.no x.no) r rows

pub times_with : (n : LeaseNo) (more rows : List Row) → times n (with_rows more rows) ≡ times n more + times n rows
times_with n [] rows = omega arith
times_with n (r ∷ rs) rows =
    let e : times n (with_rows rs (with_row r rows)) ≡ times n rs + times n (with_row r rows) = times_with n rs (with_row r rows) in
    let g : times n (with_row r rows) ≡ one_if (has_no n r) + times n rows = times_put n r rows in
    omega arith

-- what passes a test, and what does not
pub times_parts : (n : LeaseNo) (test : Row → Bool) (rows : List Row) → times n (filter test rows) + times n (filter (λ r. not (test r)) rows) ≡ times n rows
times_parts n test [] = refl
times_parts n test (r ∷ rs) =
    let e : times n (filter test rs) + times n (filter (λ r. not (test r)) rs) ≡ times n rs = times_parts n test rs in
    elim (test r) as (λ b. times n (cond b (r ∷ filter test rs) (filter test rs)) + times n (cond (not b) (r ∷ filter (λ r. not (test r)) rs) (filter (λ r. not (test r)) rs)) ≡ one_if (has_no n r) + times n rs) [
      | true ↦ omega arith
      | false ↦ omega arith
    ]

-- ## In order

-- a row's number is its own
pub new_once : (m : Row) (ms rows : List Row) → times m.no (m ∷ ms) + times m.no rows ≤ 1 → list_any (has_no m.no) rows ≡ false
new_once m ms rows h =
    let own : one_if (has_no m.no m) ≡ 1 = ap one_if (same_no_self m.no) in
    none_of (has_no m.no) rows (omega arith)

-- where no number is there twice
abbrev pub AreOnce : List Row → List Row → Type 0
AreOnce more rows = (n : LeaseNo) → times n more + times n rows ≤ 1

pub once_behind : (m : Row) (ms rows : List Row) → AreOnce (m ∷ ms) rows → AreOnce ms (with_row m rows)
once_behind m ms rows h n =
    let e : one_if (has_no n m) + times n ms + times n rows ≤ 1 = h n in
    let g : times n (with_row m rows) ≡ one_if (has_no n m) + times n rows = times_put n m rows in
    omega arith

pub once_ordered : (more rows : List Row) → is_ordered rows ≡ true → AreOnce more rows → is_ordered (with_rows more rows) ≡ true
once_ordered [] rows o h = o
once_ordered (m ∷ ms) rows o h = once_ordered ms (with_row m rows) (ordered_put m rows (new_once m ms rows (h m.no)) o) (once_behind m ms rows h)

pub once_new : (more rows : List Row) → AreOnce more rows → are_new rows more ≡ true
once_new [] rows h = refl
once_new (m ∷ ms) rows h = joined (is_new rows m) (are_new (with_row m rows) ms) (ap not (new_once m ms rows (h m.no))) (once_new ms (with_row m rows) (once_behind m ms rows h))

one_behind : (a b c d n m : ℕ) → ((a == n) && (b == m)) ≡ true → is_lt (ordering_then (nat_cmp a c) (nat_cmp b d)) ≡ true → ((c == n) && (d == m)) ≡ false
one_behind a b c d n m h k = grind (arith, nat_tests)

-- in order no number is there twice
pub ordered_once : (n : LeaseNo) (rows : List Row) → is_ordered rows ≡ true → times n rows ≤ 1
ordered_once n [] h = omega arith
ordered_once n (r ∷ rs) h =
    let q : (list_all (λ s. no_before r.no s.no) rs ≡ true) × (is_ordered rs ≡ true) = both_hold (list_all (λ s. no_before r.no s.no) rs) (is_ordered rs) h in
    elim (has_no n r) as (λ b. has_no n r ≡ b → one_if b + times n rs ≤ 1) [
      | true ↦ λ e.
          let none : times n rs ≡ 0 = none_passes (has_no n) rs (λ x i. one_behind r.no.server r.no.count x.no.server x.no.count n.server n.count e (all-In (λ s. no_before r.no s.no) rs q.0 x i)) in
          omega arith
      | false ↦ λ e. let g : times n rs ≤ 1 = ordered_once n rs q.1 in omega arith
    ] refl

-- ## Of all

abbrev pub times_in : LeaseNo → List Server → List Parcel → ℕ
times_in n servers parcels = total (λ (p : Parcel). times n p.rows) parcels + total (λ (s : Server). times n s.rows) servers

of_servers : (n : LeaseNo) (servers : List Server) (rows : List Row) → times n (with_rows_of servers rows) ≡ total (λ (s : Server). times n s.rows) servers + times n rows
of_servers n [] rows = omega arith
of_servers n (s ∷ ss) rows =
    let e : times n (with_rows_of ss (with_rows s.rows rows)) ≡ total (λ (s : Server). times n s.rows) ss + times n (with_rows s.rows rows) = of_servers n ss (with_rows s.rows rows) in
    let g : times n (with_rows s.rows rows) ≡ times n s.rows + times n rows = times_with n s.rows rows in
    omega arith

of_parcels : (n : LeaseNo) (parcels : List Parcel) (rows : List Row) → times n (with_rows_in parcels rows) ≡ total (λ (p : Parcel). times n p.rows) parcels + times n rows
of_parcels n [] rows = omega arith
of_parcels n (p ∷ ps) rows =
    let e : times n (with_rows_in ps (with_rows p.rows rows)) ≡ total (λ (p : Parcel). times n p.rows) ps + times n (with_rows p.rows rows) = of_parcels n ps (with_rows p.rows rows) in
    let g : times n (with_rows p.rows rows) ≡ times n p.rows + times n rows = times_with n p.rows rows in
    omega arith

pub of_all : (n : LeaseNo) (servers : List Server) (parcels : List Parcel) → times n (rows_of_all servers parcels) ≡ times_in n servers parcels
of_all n servers parcels =
    let e : times n (rows_of_all servers parcels) ≡ total (λ (p : Parcel). times n p.rows) parcels + times n (with_rows_of servers []) = of_parcels n parcels (with_rows_of servers []) in
    let g : times n (with_rows_of servers []) ≡ total (λ (s : Server). times n s.rows) servers + 0 = of_servers n servers [] in
    omega arith

servers_ordered : (servers : List Server) (rows : List Row) → is_ordered rows ≡ true → ((n : LeaseNo) → total (λ (s : Server). times n s.rows) servers + times n rows ≤ 1) → is_ordered (with_rows_of servers rows) ≡ true
servers_ordered [] rows o h = o
servers_ordered (s ∷ ss) rows o h = servers_ordered ss (with_rows s.rows rows)
    (once_ordered s.rows rows o (λ n. let e : times n s.rows + total (λ (s : Server). times n s.rows) ss + times n rows ≤ 1 = h n in omega arith))
    (λ n.
    let e : times n s.rows + total (λ (s : Server). times n s.rows) ss + times n rows ≤ 1 = h n in
    let g : times n (with_rows s.rows rows) ≡ times n s.rows + times n rows = times_with n s.rows rows in
    omega arith)

parcels_ordered : (parcels : List Parcel) (rows : List Row) → is_ordered rows ≡ true → ((n : LeaseNo) → total (λ (p : Parcel). times n p.rows) parcels + times n rows ≤ 1) → is_ordered (with_rows_in parcels rows) ≡ true
parcels_ordered [] rows o h = o
parcels_ordered (p ∷ ps) rows o h = parcels_ordered ps (with_rows p.rows rows)
    (once_ordered p.rows rows o (λ n. let e : times n p.rows + total (λ (p : Parcel). times n p.rows) ps + times n rows ≤ 1 = h n in omega arith))
    (λ n.
    let e : times n p.rows + total (λ (p : Parcel). times n p.rows) ps + times n rows ≤ 1 = h n in
    let g : times n (with_rows p.rows rows) ≡ times n p.rows + times n rows = times_with n p.rows rows in
    omega arith)

-- all are in order where no number is there twice
pub all_ordered : (servers : List Server) (parcels : List Parcel) → ((n : LeaseNo) → times_in n servers parcels ≤ 1) → is_ordered (rows_of_all servers parcels) ≡ true
all_ordered servers parcels h = parcels_ordered parcels (with_rows_of servers [])
    (servers_ordered servers [] refl (λ n. let e : total (λ (p : Parcel). times n p.rows) parcels + total (λ (s : Server). times n s.rows) servers ≤ 1 = h n in omega arith))
    (λ n.
    let e : total (λ (p : Parcel). times n p.rows) parcels + total (λ (s : Server). times n s.rows) servers ≤ 1 = h n in
    let g : times n (with_rows_of servers []) ≡ total (λ (s : Server). times n s.rows) servers + 0 = of_servers n servers [] in
    omega arith)

-- and where they are in order none is
pub all_once : (servers : List Server) (parcels : List Parcel) → is_ordered (rows_of_all servers parcels) ≡ true → (n : LeaseNo) → times_in n servers parcels ≤ 1
all_once servers parcels o n = subst (λ k. k ≤ 1) (of_all n servers parcels) (ordered_once n (rows_of_all servers parcels) o)
