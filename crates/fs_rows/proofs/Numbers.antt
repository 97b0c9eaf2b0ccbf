-- Numbers of leases that a server gave.
use Rattle.std.proofs.Common.{◌≡◌, ◌==◌, ◌&&◌, ◌||◌, ◌+◌, ◌≤◌, ℕ, Bool, false, List, [], ◌∷◌, refl, ap, sym, ◌∙◌, map, inl, inr, arith}
use Rattle.std.specs.List.{filter, list_any}
use Rattle.std.proofs.lemmas.Bool.Decides.{nat_tests}
use Rattle.fs_ident.specs.declared.actor.LeaseNo.{LeaseNo}
use Rattle.fs_ident.specs.In.{In}
use Rattle.fs_ident.proofs.Standing.{In-filter, In-put, In-map}
use Rattle.fs_field.specs.declared.row.Row.{Row}
use Rattle.fs_field.specs.Table.{has_no, no_before, with_row, renewed_row}
use Rattle.fs_field.proofs.Leases.{SameLease, renewed_same}
use Rattle.fs_rows.specs.Given.{AreGiven}

pub given_filter : (me given : ℕ) (test : Row → Bool) (rows : List Row) → AreGiven me given rows → AreGiven me given (filter test rows)
given_filter me given test rows h row i e = h row (In-filter test row rows i) e

pub given_map : (me given : ℕ) (f : Row → Row) → ((r : Row) → SameLease r (f r)) → (rows : List Row) → AreGiven me given rows → AreGiven me given (map f rows)
given_map me given f same rows h row i e =
    let q : (x : Row) × (In x rows × (row ≡ f x)) = In-map f row rows i in
    let n : row.no ≡ q.0.no = ap (λ (z : Row). z.no) q.1.1 ∙ (same q.0).number in
    let c : row.no.count ≡ q.0.no.count = ap (λ (m : LeaseNo). m.count) n in
    let here : q.0.no.server ≡ me = ap (λ (m : LeaseNo). m.server) (sym n) ∙ e in
    let bound : q.0.no.count ≤ given = h q.0 q.1.0 here in
    omega arith

pub given_renewed : (me given : ℕ) (n : LeaseNo) (u : ℕ) (rows : List Row) → AreGiven me given rows → AreGiven me given (map (renewed_row n u) rows)
given_renewed me given n u rows h = given_map me given (renewed_row n u) (renewed_same n u) rows h

-- the next number is given
pub given_next : (me given : ℕ) (row : Row) (rows : List Row) → row.no.count ≡ given + 1 → AreGiven me given rows → AreGiven me (given + 1) (with_row row rows)
given_next me given row rows c h x i e =
    elim (In-put (λ r. no_before row.no r.no) x row rows i) [
      | inl q ↦ let same : x.no.count ≡ row.no.count = ap (λ (z : Row). z.no.count) q in omega arith
      | inr j ↦ let bound : x.no.count ≤ given = h x j e in omega arith
    ]

other_number : (me given server count : ℕ) → (server ≡ me → count ≤ given) → ((server == me) && (count == (given + 1))) ≡ false
other_number me given server count h = grind (arith, nat_tests)

-- no row has the next number
pub given_new : (me given : ℕ) (rows : List Row) → AreGiven me given rows → list_any (has_no (record { server = me; count = given + 1 })) rows ≡ false
given_new me given [] h = refl
given_new me given (r ∷ rs) h =
    ap (λ b. b || list_any (has_no (record { server = me; count = given + 1 })) rs) (other_number me given r.no.server r.no.count (h r (inl refl)))
    ∙ given_new me given rs (λ row i e. h row (inr i) e)
