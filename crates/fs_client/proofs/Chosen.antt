-- Steps of the loops over leases.
use Rattle.std.proofs.Common.{◌≡◌, ℕ, ◌+◌, ◌<◌, ◌&&◌, ◌||◌, Bool, true, false, not, arith, List, [], ◌∷◌, refl, cond, length, get_or, drop, map, ap, sym, append-nil, ◌++◌, ◌≤◌, ◌∙◌}
use Rattle.std.specs.List.{filter, list_all}
use Rattle.std.specs.Prelude.{nat_lt}
use Rattle.std.proofs.lemmas.Bool.Decides.{nat_tests}
use Rattle.fs_ident.proofs.Booleans.{both, joined}
use Rattle.std.proofs.lemmas.List.{drop_more, drop_all}
use Rattle.fs_view.specs.declared.view_lease.ViewLease.{ViewLease}
use Rattle.fs_ident.specs.declared.actor.LeaseNo.{LeaseNo}
use Rattle.fs_view.specs.declared.view_lease.Standing.{Standing}
use Rattle.fs_view.specs.declared.view_lease.Standing.TheVariants.{Held, Pinned, Leaving}
use Rattle.fs_view.specs.ViewLease.{is_leaving, is_live, until_of}
use Rattle.fs_client.specs.Turns.{ends_by, pair_of}

pub chosen_step : (test : ViewLease → Bool) (ks : List ViewLease) (i : ℕ) (d : ViewLease) → i < length ks → map pair_of (filter test (drop i ks)) ≡ cond (test (get_or ks i d)) (pair_of (get_or ks i d) ∷ map pair_of (filter test (drop (i + 1) ks))) (map pair_of (filter test (drop (i + 1) ks)))
chosen_step test ks i d h = rw (drop_more ks i d h) (split test (get_or ks i d) (drop (i + 1) ks))
  where
    split : (test : ViewLease → Bool) (k : ViewLease) (ks : List ViewLease) → map pair_of (filter test (k ∷ ks)) ≡ cond (test k) (pair_of k ∷ map pair_of (filter test ks)) (map pair_of (filter test ks))
    split test k ks = elim (test k) as (λ b. map pair_of (cond b (k ∷ filter test ks) (filter test ks)) ≡ cond b (pair_of k ∷ map pair_of (filter test ks)) (map pair_of (filter test ks))) [ true ↦ refl | false ↦ refl ]

-- the last pair is there
pub chosen_end : (test : ViewLease → Bool) (ks : List ViewLease) (i : ℕ) (pairs all : List (List ℕ × LeaseNo)) → length ks ≤ i → pairs ++ map pair_of (filter test (drop i ks)) ≡ all → pairs ≡ all
chosen_end test ks i pairs all h e = sym (append-nil pairs) ∙ (ap (λ rest. pairs ++ map pair_of (filter test rest)) (sym (drop_all i ks h)) ∙ e)

-- ## Where no lease ends soon

later : (soon : ℕ) (s : Standing) → (is_leaving s || nat_lt soon (until_of s)) ≡ true → ends_by soon s ≡ false
later soon (Held l) h = grind (arith, nat_tests)
later soon (Pinned u) h = grind (arith, nat_tests)
later soon (Leaving l) h = refl

none_ending : (soon : ℕ) (ks : List ViewLease) → list_all (λ (k : ViewLease). is_leaving k.standing || nat_lt soon (until_of k.standing)) ks ≡ true → filter (λ (k : ViewLease). not k.recalled && ends_by soon k.standing) ks ≡ []
none_ending soon [] h = refl
none_ending soon (k ∷ ks) h =
    let q = both (is_leaving k.standing || nat_lt soon (until_of k.standing)) _ h in
    let ending : List ViewLease → List ViewLease = filter (λ (j : ViewLease). not j.recalled && ends_by soon j.standing) in
    ap (λ b. cond (not k.recalled && b) (k ∷ ending ks) (ending ks)) (later soon k.standing q.0)
    ∙ ap (λ b. cond b (k ∷ ending ks) (ending ks)) (never (not k.recalled)) ∙ none_ending soon ks q.1
  where
    never : (b : Bool) → (b && false) ≡ false
    never true = refl
    never false = refl

still_later : (soon : ℕ) (test : ViewLease → Bool) (ks : List ViewLease) → list_all (λ (k : ViewLease). is_leaving k.standing || nat_lt soon (until_of k.standing)) ks ≡ true → list_all (λ (k : ViewLease). is_leaving k.standing || nat_lt soon (until_of k.standing)) (filter test ks) ≡ true
still_later soon test [] h = refl
still_later soon test (k ∷ ks) h =
    let q = both (is_leaving k.standing || nat_lt soon (until_of k.standing)) _ h in
    elim (test k) as (λ b. list_all (λ (j : ViewLease). is_leaving j.standing || nat_lt soon (until_of j.standing)) (cond b (k ∷ filter test ks) (filter test ks)) ≡ true) [
      | true ↦ joined (is_leaving k.standing || nat_lt soon (until_of k.standing)) _ q.0 (still_later soon test ks q.1)
      | false ↦ still_later soon test ks q.1
    ]

pub none_ends : (now soon : ℕ) (ks : List ViewLease) → list_all (λ (k : ViewLease). is_leaving k.standing || nat_lt soon (until_of k.standing)) ks ≡ true → map pair_of (filter (λ (k : ViewLease). not k.recalled && ends_by soon k.standing) (filter (is_live now) ks)) ≡ []
none_ends now soon ks h = ap (map pair_of) (none_ending soon (filter (is_live now) ks) (still_later soon (is_live now) ks h))
