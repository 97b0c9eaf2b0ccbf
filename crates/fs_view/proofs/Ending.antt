-- A lower bound of the ends of leases.
use Rattle.std.proofs.Common.{◌≡◌, ℕ, ◌-◌, ◌==◌, ◌<◌, ◌+◌, ◌&&◌, ◌||◌, Bool, true, false, not, List, [], ◌∷◌, ◌++◌, refl, ap, cond, arith, length, get_or, map, take, drop, zero, suc, ◌≤◌, sym, ◌∙◌}
use Rattle.std.specs.Prelude.{nat_le, nat_lt}
use Rattle.std.specs.List.{filter, list_all, remove}
use Rattle.std.proofs.lemmas.List.{take_more}
use Rattle.std.proofs.lemmas.List.Folds.{list_all-append}
use Rattle.std.proofs.lemmas.Bool.Decides.{nat_tests}
use Rattle.fs_ident.proofs.Booleans.{both, joined}
use Rattle.fs_ident.specs.declared.actor.LeaseNo.{LeaseNo}
use Rattle.fs_lease.specs.Lease.{InUse}
use Rattle.fs_view.specs.declared.change.Change.{Change}
use Rattle.fs_view.specs.declared.change.Change.TheVariants.{Pin, Unpin, Recall, Leave, Renew}
use Rattle.fs_view.specs.declared.view_lease.ViewLease.{ViewLease}
use Rattle.fs_view.specs.declared.view_lease.Standing.{Standing}
use Rattle.fs_view.specs.declared.view_lease.Standing.TheVariants.{Held, Pinned, Leaving}
use Rattle.fs_view.specs.Change.{changed}
use Rattle.fs_view.specs.Index.{ends_from, end_no_sooner, least_with, lesser, lesser_end}
use Rattle.fs_view.specs.ViewLease.{has_ended, has_number, is_leaving, leaving, until_of, pinned, renewed, unpinned}
use Rattle.fs_view.specs.View.{at_number}

-- ## Where none is over

not_over : (now least : ℕ) (s : Standing) → nat_lt now least ≡ true → ends_from least s ≡ true → has_ended now s ≡ false
not_over now least (Held l) h e = grind (arith, nat_tests)
not_over now least (Pinned u) h e = refl
not_over now least (Leaving l) h e = refl

pub before_least : (now least : ℕ) → now < least → nat_lt now least ≡ true
before_least now least h = grind (arith, nat_tests)

pub none_over : (now least : ℕ) (ks : List ViewLease) → nat_lt now least ≡ true → end_no_sooner least ks ≡ true → filter (λ k. not (has_ended now k.standing)) ks ≡ ks
none_over now least [] h e = refl
none_over now least (k ∷ ks) h e =
    let q = both (ends_from least k.standing) (end_no_sooner least ks) e in
    let live : List ViewLease → List ViewLease = filter (λ (j : ViewLease). not (has_ended now j.standing)) in
    ap (λ b. cond (not b) (k ∷ live ks) (live ks)) (not_over now least k.standing h q.0) ∙ ap (λ rest. k ∷ rest) (none_over now least ks h q.1)

-- ## A lesser bound

lesser_first : (a b : ℕ) → nat_le (lesser a b) a ≡ true
lesser_first a b = elim (nat_lt a b) as (λ c. nat_lt a b ≡ c → nat_le (cond c a b) a ≡ true) [
  | true ↦ λ t. grind (arith, nat_tests)
  | false ↦ λ t. grind (arith, nat_tests)
] refl

lesser_second : (a b : ℕ) → nat_le (lesser a b) b ≡ true
lesser_second a b = elim (nat_lt a b) as (λ c. nat_lt a b ≡ c → nat_le (cond c a b) b ≡ true) [
  | true ↦ λ t. grind (arith, nat_tests)
  | false ↦ λ t. grind (arith, nat_tests)
] refl

le_trans : (a b c : ℕ) → nat_le a b ≡ true → nat_le b c ≡ true → nat_le a c ≡ true
le_trans a b c h k = grind (arith, nat_tests)

sooner : (a b : ℕ) (s : Standing) → nat_le a b ≡ true → ends_from b s ≡ true → ends_from a s ≡ true
sooner a b (Held l) h e = le_trans a b l.until h e
sooner a b (Pinned u) h e = le_trans a b u.lease.until h e
sooner a b (Leaving l) h e = refl

pub no_sooner : (a b : ℕ) (ks : List ViewLease) → nat_le a b ≡ true → end_no_sooner b ks ≡ true → end_no_sooner a ks ≡ true
no_sooner a b [] h e = refl
no_sooner a b (k ∷ ks) h e = let q = both (ends_from b k.standing) (end_no_sooner b ks) e in joined (ends_from a k.standing) (end_no_sooner a ks) (sooner a b k.standing h q.0) (no_sooner a b ks h q.1)

-- ## Leases that come and go

pub ends_more : (least until : ℕ) (ks : List ViewLease) (k : ViewLease) → end_no_sooner least ks ≡ true → ends_from until k.standing ≡ true → end_no_sooner (lesser least until) (ks ++ k ∷ []) ≡ true
ends_more least until ks k h e =
    list_all-append (λ (j : ViewLease). ends_from (lesser least until) j.standing) ks (k ∷ [])
    ∙ joined (end_no_sooner (lesser least until) ks) (ends_from (lesser least until) k.standing && true)
    (no_sooner (lesser least until) least ks (lesser_first least until) h)
    (joined (ends_from (lesser least until) k.standing) true (sooner (lesser least until) until k.standing (lesser_second least until) e) refl)

pub ends_fewer : (least : ℕ) (test : ViewLease → Bool) (ks : List ViewLease) → end_no_sooner least ks ≡ true → end_no_sooner least (filter test ks) ≡ true
ends_fewer least test [] h = refl
ends_fewer least test (k ∷ ks) h =
    let q = both (ends_from least k.standing) (end_no_sooner least ks) h in
    elim (test k) as (λ b. end_no_sooner least (cond b (k ∷ filter test ks) (filter test ks)) ≡ true) [
      | true ↦ joined (ends_from least k.standing) (end_no_sooner least (filter test ks)) q.0 (ends_fewer least test ks q.1)
      | false ↦ ends_fewer least test ks q.1
    ]

pub ends_kept : (least : ℕ) (g : ViewLease → ViewLease) (ks : List ViewLease) → ((k : ViewLease) → ends_from least k.standing ≡ true → ends_from least (g k).standing ≡ true) → end_no_sooner least ks ≡ true → end_no_sooner least (map g ks) ≡ true
ends_kept least g [] same h = refl
ends_kept least g (k ∷ ks) same h =
    let q = both (ends_from least k.standing) (end_no_sooner least ks) h in
    joined (ends_from least (g k).standing) (end_no_sooner least (map g ks)) (same k q.0) (ends_kept least g ks same q.1)

-- ## A lease that changes

unpinned_ends : (least : ℕ) (b : Bool) (u : InUse) → ends_from least (cond b (Held u.lease) (Pinned (record u { entries = u.entries - 1 }))) ≡ nat_le least u.lease.until
unpinned_ends least true u = refl
unpinned_ends least false u = refl

one_pinned : (least : ℕ) (s : Standing) → ends_from least s ≡ true → ends_from least (pinned s) ≡ true
one_pinned least (Held l) h = h
one_pinned least (Pinned u) h = h
one_pinned least (Leaving l) h = h

one_unpinned : (least : ℕ) (s : Standing) → ends_from least s ≡ true → ends_from least (unpinned s) ≡ true
one_unpinned least (Held l) h = h
one_unpinned least (Pinned u) h = unpinned_ends least (u.entries == 1) u ∙ h
one_unpinned least (Leaving l) h = h

one_left : (least : ℕ) (s : Standing) → ends_from least s ≡ true → ends_from least (leaving s) ≡ true
one_left least (Held l) h = refl
one_left least (Pinned u) h = h
one_left least (Leaving l) h = h

one_renewed : (least until : ℕ) (s : Standing) → nat_le least until ≡ true → ends_from least (renewed until s) ≡ true
one_renewed least until (Held l) h = h
one_renewed least until (Pinned u) h = h
one_renewed least until (Leaving l) h = refl

one_changed : (c : Change) (least : ℕ) (k : ViewLease) → ends_from (least_with c least) k.standing ≡ true → ends_from (least_with c least) (changed c k).standing ≡ true
one_changed Pin least k h = one_pinned least k.standing h
one_changed Unpin least k h = one_unpinned least k.standing h
one_changed Recall least k h = h
one_changed Leave least k h = one_left least k.standing h
one_changed (Renew until) least k h = one_renewed (lesser least until) until k.standing (lesser_second least until)

itself : (n : ℕ) → nat_le n n ≡ true
itself n = grind (arith, nat_tests)

bound_with : (c : Change) (least : ℕ) → nat_le (least_with c least) least ≡ true
bound_with Pin least = itself least
bound_with Unpin least = itself least
bound_with Recall least = itself least
bound_with Leave least = itself least
bound_with (Renew until) least = lesser_first least until

by_test : (c : Change) (least : ℕ) (b : Bool) (k : ViewLease) → ends_from (least_with c least) k.standing ≡ true → ends_from (least_with c least) (cond b (changed c k) k).standing ≡ true
by_test c least true k h = one_changed c least k h
by_test c least false k h = h

pub ends_changed : (c : Change) (n : LeaseNo) (least : ℕ) (ks : List ViewLease) → end_no_sooner least ks ≡ true → end_no_sooner (least_with c least) (at_number n (changed c) ks) ≡ true
ends_changed c n least ks h =
    ends_kept (least_with c least) (λ k. cond (has_number n k) (changed c k) k) ks (λ k e. by_test c least (has_number n k) k e)
    (no_sooner (least_with c least) least ks (bound_with c least) h)

-- ## The least end

own_end : (least : ℕ) (s : Standing) → ends_from (lesser_end least s) s ≡ true
own_end least (Held l) = lesser_second least l.until
own_end least (Pinned u) = lesser_second least u.lease.until
own_end least (Leaving l) = refl

end_first : (least : ℕ) (s : Standing) → nat_le (lesser_end least s) least ≡ true
end_first least (Held l) = lesser_first least l.until
end_first least (Pinned u) = lesser_first least u.lease.until
end_first least (Leaving l) = itself least

pub least_step : (ks : List ViewLease) (i : ℕ) (k : ViewLease) (least next : ℕ) → i < length ks → k ≡ get_or ks i k → next ≡ lesser_end least k.standing → end_no_sooner least (take i ks) ≡ true → end_no_sooner next (take (i + 1) ks) ≡ true
least_step ks i k least next h e n l =
    ap (λ m. end_no_sooner m (take (i + 1) ks)) n
    ∙ ap (end_no_sooner (lesser_end least k.standing)) (take_more ks i k h ∙ ap (λ (x : ViewLease). take i ks ++ x ∷ []) (sym e))
    ∙ list_all-append (λ (j : ViewLease). ends_from (lesser_end least k.standing) j.standing) (take i ks) (k ∷ [])
    ∙ joined (end_no_sooner (lesser_end least k.standing) (take i ks)) (ends_from (lesser_end least k.standing) k.standing && true)
    (no_sooner (lesser_end least k.standing) least (take i ks) (end_first least k.standing) l)
    (joined (ends_from (lesser_end least k.standing) k.standing) true (own_end least k.standing) refl)

-- ## Where none ends by a reading

not_by : (soon least : ℕ) (s : Standing) → nat_le least soon ≡ false → ends_from least s ≡ true → (is_leaving s || nat_lt soon (until_of s)) ≡ true
not_by soon least (Held l) h e = grind (arith, nat_tests)
not_by soon least (Pinned u) h e = grind (arith, nat_tests)
not_by soon least (Leaving l) h e = refl

pub none_by : (soon least : ℕ) (ks : List ViewLease) → nat_le least soon ≡ false → end_no_sooner least ks ≡ true → list_all (λ (k : ViewLease). is_leaving k.standing || nat_lt soon (until_of k.standing)) ks ≡ true
none_by soon least [] h e = refl
none_by soon least (k ∷ ks) h e =
    let q = both (ends_from least k.standing) (end_no_sooner least ks) e in
    joined (is_leaving k.standing || nat_lt soon (until_of k.standing)) _ (not_by soon least k.standing h q.0) (none_by soon least ks h q.1)

-- ## Those that are over go, one after another

pub same_there : (ks : List ViewLease) (at : ℕ) (x y : ViewLease) → at < length ks → x ≡ get_or ks at x → y ≡ get_or ks at y → x ≡ y
same_there [] at x y h e f = absurd (omega (arith, h))
same_there (k ∷ ks) zero x y h e f = e ∙ sym f
same_there (k ∷ ks) (suc at) x y h e f = same_there ks at x y (omega (arith, h)) e f

pub within_removed : (ks : List ViewLease) (at : ℕ) → at < length ks → at ≤ length (remove ks at)
within_removed [] at h = absurd (omega (arith, h))
within_removed (k ∷ ks) zero h = omega arith
within_removed (k ∷ ks) (suc at) h = let r = within_removed ks at (omega (arith, h)) in omega (arith, r)

pub passed : (test : ViewLease → Bool) (ks : List ViewLease) (at : ℕ) (x : ViewLease) → at < length ks → x ≡ get_or ks at x → test x ≡ false → take at (remove ks at) ++ filter test (drop at (remove ks at)) ≡ take at ks ++ filter test (drop at ks)
passed test [] at x h e t = absurd (omega (arith, h))
passed test (k ∷ ks) zero x h e t = sym (ap (λ b. cond b (k ∷ filter test ks) (filter test ks)) (ap test (sym e) ∙ t))
passed test (k ∷ ks) (suc at) x h e t = ap (λ rest. k ∷ rest) (passed test ks at x (omega (arith, h)) e t)
