-- Rows that are found by their number, and changed where they stand.
use Rattle.std.proofs.Math.Bool.{and_comm}
use Rattle.std.proofs.Common.{◌≡◌, ◌==◌, ◌&&◌, ◌||◌, ◌+◌, ◌<◌, ◌∷◌, ℕ, zero, suc, Bool, true, false, not, List, [], refl, ap, cond, sym, ◌∙◌, length, get_or, map, arith}
use Rattle.std.proofs.Math.ListN.{set}
use Rattle.std.specs.Prelude.{Option, Some, None, is_some, nat_lt}
use Rattle.std.specs.List.{filter, find, list_all, list_any, position, position_or_len, remove}
use Rattle.std.specs.List.Sorted.{IsPartitionPoint}
use Rattle.std.proofs.lemmas.Bool.Decides.{nat_tests}
use Rattle.std.proofs.lemmas.List.Quantifiers.{position-Some}
use Rattle.std.proofs.lemmas.List.Sums.{position_or_len_is}
use Rattle.fs_ident.specs.declared.actor.LeaseNo.{LeaseNo}
use Rattle.fs_ident.specs.declared.actor.Session.{Session}
use Rattle.fs_ident.specs.declared.actor.TxnNo.{TxnNo}
use Rattle.fs_ident.proofs.Booleans.{both}
use Rattle.fs_ident.proofs.Passing.{all-In}
use Rattle.fs_field.specs.declared.field.Field.{Field}
use Rattle.fs_field.specs.declared.lease_kind.LeaseKind.{LeaseKind}
use Rattle.fs_field.specs.declared.row.Row.{Row}
use Rattle.fs_field.specs.Table.{same_no, has_no, no_before, is_ordered, is_unlocked, is_lease, same_kind, renewed_row, locked_row}
use Rattle.fs_field.specs.Field.{same_field}
use Rattle.fs_field.proofs.SameNo.{same_no_symm, same_no_is}
use Rattle.fs_field.proofs.Rows.{found}
use Rattle.fs_rows.proofs.Reading.{found_live}
use Rattle.fs_rows.proofs.Seeking.{find_alike, passing, none_passing, unlike, is_place, In-there, below}

abbrev Test : Type 0
Test = Row → Bool

-- ## The place of the row of a number

pub is_below : (i n : ℕ) → i < n → nat_lt i n ≡ true
is_below i n h = grind (arith, nat_tests)

at_place : (test : Test) (rows : List Row) (i : ℕ) → i < length rows → position_or_len test rows ≡ i → position test rows ≡ Some i
at_place test rows i l e = ap (λ n. cond (nat_lt n (length rows)) (Some n) None) e ∙ ap (λ b. cond b (Some i) None) (is_below i (length rows) l)

pub place_found : (m : LeaseNo) (rows : List Row) (i : ℕ) (x : Row) → IsPartitionPoint (λ (r : Row). no_before r.no m ≡ true) (λ (r : Row). no_before r.no m ≡ false) rows i → true ≡ nat_lt i (length rows) → x ≡ get_or rows i x → same_no x.no m ≡ true → position (has_no m) rows ≡ Some i
place_found m rows i x p l e t =
    let h : i < length rows = below i (length rows) l in
    at_place (has_no m) rows i h (position_or_len_is (has_no m) rows i x (omega arith) (λ k b. unlike (get_or rows k x).no m ((is_place m rows i p).0 k x b (omega arith))) (λ b. ap (has_no m) (sym e) ∙ t))

none_below : (n : ℕ) → nat_lt n n ≡ false
none_below n = grind (arith, nat_tests)

one_more : (n : ℕ) → 1 + n ≡ suc n
one_more n = omega arith

at_end : (test : Test) (rows : List Row) → find test rows ≡ None → position_or_len test rows ≡ length rows
at_end test [] h = refl
at_end test (r ∷ rs) h = elim (test r) as (λ b. cond b (Some r) (find test rs) ≡ None → cond (not b) (1 + position_or_len test rs) 0 ≡ suc (length rs)) [
  | true ↦ λ g. absurd (cc)
  | false ↦ λ g. ap (λ n. 1 + n) (at_end test rs g) ∙ one_more (length rs)
] h

pub no_place : (test : Test) (rows : List Row) → find test rows ≡ None → position test rows ≡ None
no_place test rows h = ap (λ n. cond (nat_lt n (length rows)) (Some n) None) (at_end test rows h) ∙ ap (λ b. cond b (Some (length rows)) None) (none_below (length rows))

some_if : (b : Bool) (n : ℕ) → is_some (cond b (Some n) None) ≡ b
some_if true n = refl
some_if false n = refl

one_less : (a b : ℕ) → nat_lt (1 + a) (suc b) ≡ nat_lt a b
one_less a b = grind (arith, nat_tests)

first_below : (n : ℕ) → nat_lt 0 (suc n) ≡ true
first_below n = grind (arith, nat_tests)

within : (test : Test) (rows : List Row) → nat_lt (position_or_len test rows) (length rows) ≡ list_any test rows
within test [] = refl
within test (r ∷ rs) = elim (test r) as (λ b. nat_lt (cond (not b) (1 + position_or_len test rs) 0) (suc (length rs)) ≡ (b || list_any test rs)) [
  | true ↦ first_below (length rs)
  | false ↦ one_less (position_or_len test rs) (length rs) ∙ within test rs
]

-- there is a place exactly where a row passes
pub placed_any : (test : Test) (rows : List Row) (o : Option ℕ) → o ≡ position test rows → is_some o ≡ list_any test rows
placed_any test rows o e = ap is_some e ∙ some_if (nat_lt (position_or_len test rows) (length rows)) (position_or_len test rows) ∙ within test rows

pub at_number : (m : LeaseNo) (rows : List Row) (i : ℕ) (d : Row) → Some i ≡ position (has_no m) rows → (i < length rows) × (has_no m (get_or rows i d) ≡ true)
at_number m rows i d e = let q = position-Some (has_no m) rows i d (sym e) in (q.0, q.1)

-- ## No other row has the number

others : (m : LeaseNo) (r : Row) (rs : List Row) → has_no m r ≡ true → list_all (λ s. no_before r.no s.no) rs ≡ true → list_all (λ s. no_before m s.no) rs ≡ true
others m r rs e h = ap (λ n. list_all (λ s. no_before n s.no) rs) (sym (same_no_is r.no m e)) ∙ h

behind_unlike : (m : LeaseNo) (r : Row) → no_before m r.no ≡ true → has_no m r ≡ false
behind_unlike m r h = same_no_symm r.no m ∙ unlike m r.no h

before_unlike : (m : LeaseNo) (r : Row) (rs : List Row) (i : ℕ) (x : Row) → list_all (λ s. no_before r.no s.no) rs ≡ true → i < length rs → has_no m (get_or rs i x) ≡ true → has_no m r ≡ false
before_unlike m r rs i x h l e =
    unlike r.no m (ap (no_before r.no) (sym (same_no_is (get_or rs i x).no m e)) ∙ all-In (λ s. no_before r.no s.no) rs h (get_or rs i x) (In-there rs i x l))

-- ## A row that changes in its place

none_changes : (g : Row → Row) (m : LeaseNo) (rows : List Row) → ((r : Row) → has_no m r ≡ false → g r ≡ r) → list_all (λ s. no_before m s.no) rows ≡ true → map g rows ≡ rows
none_changes g m [] same h = refl
none_changes g m (r ∷ rs) same h =
    let q = both (no_before m r.no) (list_all (λ s. no_before m s.no) rs) h in
    ap (λ y. y ∷ map g rs) (same r (behind_unlike m r q.0)) ∙ ap (λ ys. r ∷ ys) (none_changes g m rs same q.1)

pub changed_there : (g : Row → Row) (m : LeaseNo) (rows : List Row) (i : ℕ) (x : Row) → ((r : Row) → has_no m r ≡ false → g r ≡ r) → is_ordered rows ≡ true → i < length rows → has_no m (get_or rows i x) ≡ true → set rows i (g (get_or rows i x)) ≡ map g rows
changed_there g m [] i x same o l e = absurd (omega arith)
changed_there g m (r ∷ rs) zero x same o l e =
    let q = both (list_all (λ s. no_before r.no s.no) rs) (is_ordered rs) o in
    ap (λ ys. g r ∷ ys) (sym (none_changes g m rs same (others m r rs e q.0)))
changed_there g m (r ∷ rs) (suc i) x same o l e =
    let q = both (list_all (λ s. no_before r.no s.no) rs) (is_ordered rs) o in
    ap (λ ys. r ∷ ys) (changed_there g m rs i x same q.1 (omega arith) e) ∙ ap (λ y. y ∷ map g rs) (sym (same r (before_unlike m r rs i x q.0 (omega arith) e)))

pub none_change : (g : Row → Row) (m : LeaseNo) (rows : List Row) → ((r : Row) → has_no m r ≡ false → g r ≡ r) → list_any (has_no m) rows ≡ false → map g rows ≡ rows
none_change g m [] same h = refl
none_change g m (r ∷ rs) same h = elim (has_no m r) as (λ b. has_no m r ≡ b → (b || list_any (has_no m) rs) ≡ false → g r ∷ map g rs ≡ r ∷ rs) [
  | true ↦ λ e k. absurd (cc)
  | false ↦ λ e k. ap (λ y. y ∷ map g rs) (same r e) ∙ ap (λ ys. r ∷ ys) (none_change g m rs same k)
] refl h

-- ## A row that goes from its place

none_goes : (m : LeaseNo) (rows : List Row) → list_all (λ s. no_before m s.no) rows ≡ true → filter (λ r. not (has_no m r)) rows ≡ rows
none_goes m [] h = refl
none_goes m (r ∷ rs) h =
    let q = both (no_before m r.no) (list_all (λ s. no_before m s.no) rs) h in
    ap (λ b. cond (not b) (r ∷ filter (λ x. not (has_no m x)) rs) (filter (λ x. not (has_no m x)) rs)) (behind_unlike m r q.0) ∙ ap (λ ys. r ∷ ys) (none_goes m rs q.1)

pub gone_there : (m : LeaseNo) (rows : List Row) (i : ℕ) (x : Row) → is_ordered rows ≡ true → i < length rows → has_no m (get_or rows i x) ≡ true → remove rows i ≡ filter (λ r. not (has_no m r)) rows
gone_there m [] i x o l e = absurd (omega arith)
gone_there m (r ∷ rs) zero x o l e =
    let q = both (list_all (λ s. no_before r.no s.no) rs) (is_ordered rs) o in
    sym (ap (λ b. cond (not b) (r ∷ filter (λ x. not (has_no m x)) rs) (filter (λ x. not (has_no m x)) rs)) e ∙ none_goes m rs (others m r rs e q.0))
gone_there m (r ∷ rs) (suc i) x o l e =
    let q = both (list_all (λ s. no_before r.no s.no) rs) (is_ordered rs) o in
    ap (λ ys. r ∷ ys) (gone_there m rs i x q.1 (omega arith) e) ∙ sym (ap (λ b. cond (not b) (r ∷ filter (λ x. not (has_no m x)) rs) (filter (λ x. not (has_no m x)) rs)) (before_unlike m r rs i x q.0 (omega arith) e))

pub none_go : (m : LeaseNo) (rows : List Row) → list_any (has_no m) rows ≡ false → filter (λ r. not (has_no m r)) rows ≡ rows
none_go m [] h = refl
none_go m (r ∷ rs) h = elim (has_no m r) as (λ b. (b || list_any (has_no m) rs) ≡ false → cond (not b) (r ∷ filter (λ x. not (has_no m x)) rs) (filter (λ x. not (has_no m x)) rs) ≡ r ∷ rs) [
  | true ↦ λ k. absurd (cc)
  | false ↦ λ k. ap (λ ys. r ∷ ys) (none_go m rs k)
] h

-- ## What only the row of the number can pass

none_passes : (t : Test) (m : LeaseNo) (rows : List Row) → ((r : Row) → has_no m r ≡ false → t r ≡ false) → list_all (λ s. no_before m s.no) rows ≡ true → list_any t rows ≡ false
none_passes t m [] only h = refl
none_passes t m (r ∷ rs) only h =
    let q = both (no_before m r.no) (list_all (λ s. no_before m s.no) rs) h in
    ap (λ b. b || list_any t rs) (only r (behind_unlike m r q.0)) ∙ none_passes t m rs only q.1

or_none : (a b : Bool) → b ≡ false → (a || b) ≡ a
or_none true b e = refl
or_none false b e = e

pub only_there : (t : Test) (m : LeaseNo) (rows : List Row) (i : ℕ) (x : Row) → ((r : Row) → has_no m r ≡ false → t r ≡ false) → is_ordered rows ≡ true → i < length rows → has_no m (get_or rows i x) ≡ true → list_any t rows ≡ t (get_or rows i x)
only_there t m [] i x only o l e = absurd (omega arith)
only_there t m (r ∷ rs) zero x only o l e =
    let q = both (list_all (λ s. no_before r.no s.no) rs) (is_ordered rs) o in
    or_none (t r) (list_any t rs) (none_passes t m rs only (others m r rs e q.0))
only_there t m (r ∷ rs) (suc i) x only o l e =
    let q = both (list_all (λ s. no_before r.no s.no) rs) (is_ordered rs) o in
    ap (λ b. b || list_any t rs) (only r (before_unlike m r rs i x q.0 (omega arith) e)) ∙ only_there t m rs i x only q.1 (omega arith) e

pub no_passes : (t : Test) (m : LeaseNo) (rows : List Row) → ((r : Row) → has_no m r ≡ false → t r ≡ false) → list_any (has_no m) rows ≡ false → list_any t rows ≡ false
no_passes t m [] only h = refl
no_passes t m (r ∷ rs) only h = elim (has_no m r) as (λ b. has_no m r ≡ b → (b || list_any (has_no m) rs) ≡ false → (t r || list_any t rs) ≡ false) [
  | true ↦ λ e k. absurd (cc)
  | false ↦ λ e k. ap (λ b. b || list_any t rs) (only r e) ∙ no_passes t m rs only k
] refl h

-- ## Rows that are renewed and locked

pub unrenewed : (m : LeaseNo) (until : ℕ) (r : Row) → has_no m r ≡ false → renewed_row m until r ≡ r
unrenewed m until r e = ap (λ b. cond (b && nat_lt r.until until) (record r { until = until }) r) e

pub unlocked_still : (m : LeaseNo) (txn : TxnNo) (r : Row) → has_no m r ≡ false → locked_row m txn r ≡ r
unlocked_still m txn r e = ap (λ b. cond (b && not (is_some r.lock)) (record r { lock = Some txn }) r) e

pub not_unlocked : (m : LeaseNo) (r : Row) → has_no m r ≡ false → is_unlocked m r ≡ false
not_unlocked m r e = ap (λ b. b && not (is_some r.lock)) e

-- ## The row of a number, where it is not over

pub live_found : (live : Test) (m : LeaseNo) (rows : List Row) (r : Row) → is_ordered rows ≡ true → find (has_no m) rows ≡ Some r → find (has_no m) (filter live rows) ≡ cond (live r) (Some r) None
live_found live m rows r o e =
    sym (found_live (has_no m) live rows)
    ∙ find_alike (λ x. live x && has_no m x) (λ x. has_no m x && live x) rows (λ x i. and_comm (live x) (has_no m x))
    ∙ passing live rows m o r e

pub live_none : (live : Test) (m : LeaseNo) (rows : List Row) → find (has_no m) rows ≡ None → find (has_no m) (filter live rows) ≡ None
live_none live m rows e =
    sym (found_live (has_no m) live rows)
    ∙ find_alike (λ x. live x && has_no m x) (λ x. has_no m x && live x) rows (λ x i. and_comm (live x) (has_no m x))
    ∙ none_passing live rows m e

pub found_only : (t : Test) (m : LeaseNo) (rows : List Row) (r : Row) → ((x : Row) → has_no m x ≡ false → t x ≡ false) → is_ordered rows ≡ true → find (has_no m) rows ≡ Some r → list_any t rows ≡ t r
found_only t m [] r only o e = absurd (cc)
found_only t m (x ∷ xs) r only o e =
    let q = both (list_all (λ s. no_before x.no s.no) xs) (is_ordered xs) o in
    elim (has_no m x) as (λ b. has_no m x ≡ b → cond b (Some x) (find (has_no m) xs) ≡ Some r → (t x || list_any t xs) ≡ t r) [
      | true ↦ λ h g. let same : x ≡ r = cc in or_none (t x) (list_any t xs) (none_passes t m xs only (others m x xs h q.0)) ∙ ap t same
      | false ↦ λ h g. ap (λ b. b || list_any t xs) (only x h) ∙ found_only t m xs r only q.1 g
    ] refl e

pub none_only : (t : Test) (m : LeaseNo) (rows : List Row) → ((x : Row) → has_no m x ≡ false → t x ≡ false) → find (has_no m) rows ≡ None → list_any t rows ≡ false
none_only t m rows only e = no_passes t m rows only (found (has_no m) rows ∙ ap is_some e)

pub no_lease : (m : LeaseNo) (s : Session) (f : Field) (k : LeaseKind) (r : Row) → has_no m r ≡ false → is_lease m s f k r ≡ false
no_lease m s f k r e = ap (λ b. ((b && (r.session.0 == s.0)) && same_field r.field f) && same_kind r.kind k) e
