-- When two numbers of leases are one.
use Rattle.std.proofs.Common.{◌≡◌, ◌==◌, ℕ, true, ap, ◌∙◌, arith}
use Rattle.std.specs.Cmp.{nat_eq_equiv}
use Rattle.std.proofs.lemmas.Bool.{eqb-true}
use Rattle.std.proofs.lemmas.Bool.Decides.{nat_tests}
use Rattle.fs_ident.specs.declared.actor.LeaseNo.{LeaseNo}
use Rattle.fs_ident.proofs.Booleans.{both, joined}
use Rattle.fs_field.specs.Table.{same_no}

pub same_no_self : (n : LeaseNo) → same_no n n ≡ true
same_no_self n = joined _ _ (nat_eq_equiv.refl n.server) (nat_eq_equiv.refl n.count)

pub same_no_symm : (a b : LeaseNo) → same_no a b ≡ same_no b a
same_no_symm a b = grind (arith, nat_tests)

pub same_no_is : (a b : LeaseNo) → same_no a b ≡ true → a ≡ b
same_no_is a b h =
    let q : ((a.server == b.server) ≡ true) × ((a.count == b.count) ≡ true) = both (a.server == b.server) (a.count == b.count) h in
    let s : a.server ≡ b.server = eqb-true a.server b.server q.0 in
    let t : a.count ≡ b.count = eqb-true a.count b.count q.1 in
    ap (λ (n : ℕ). let x : LeaseNo = record { server = n; count = a.count } in x) s ∙ ap (λ (n : ℕ). let x : LeaseNo = record { server = b.server; count = n } in x) t
