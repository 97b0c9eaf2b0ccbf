-- Leases that are used can be pinned.
use Rattle.std.proofs.Common.{◌≡◌, ℕ, ◌+◌, ◌&&◌, ◌||◌, Bool, true, false, not, List, [], ◌∷◌, ◌⊎◌, refl, ap, cond, suc, length, sym, ◌∙◌, arith, inl, inr}
use Rattle.std.specs.Prelude.{Option, Some, None, nat_le, option_map}
use Rattle.std.specs.Option.{option_map_or, option_and_then}
use Rattle.std.specs.List.{find, list_any, list_all, filter_map, cons_option}
use Rattle.std.proofs.lemmas.Bool.Decides.{nat_tests}
use Rattle.std.proofs.lemmas.Bool.{not-true}
use Rattle.fs_ident.proofs.Booleans.{both, joined}
use Rattle.fs_ident.specs.In.{In}
use Rattle.fs_ident.specs.declared.actor.LeaseNo.{LeaseNo}
use Rattle.fs_field.specs.declared.asked.Need.{Need}
use Rattle.fs_field.specs.declared.asked.Need.TheVariants as need
use Rattle.fs_field.specs.declared.field.Field.{Field}
use Rattle.fs_field.specs.declared.field.Field.TheVariants.{Life}
use Rattle.fs_field.specs.declared.lease_kind.LeaseKind.{LeaseKind}
use Rattle.fs_field.specs.declared.lease_kind.LeaseKind.TheVariants.{Exclusive}
use Rattle.fs_field.specs.declared.used.Use.{Use}
use Rattle.fs_field.specs.Table.{same_no}
use Rattle.fs_field.proofs.SameNo.{same_no_symm, same_no_self}
use Rattle.fs_model.specs.declared.op.Op.{Op}
use Rattle.fs_view.specs.declared.view_lease.ViewLease.{ViewLease}
use Rattle.fs_view.specs.declared.view_lease.Standing.{Standing}
use Rattle.fs_view.specs.declared.view_lease.Standing.TheVariants.{Held, Pinned, Leaving}
use Rattle.fs_view.specs.ViewLease.{number_of, has_number, entries_of, pinned, takes_pin, use_of, use_in, serves, is_better}
use Rattle.fs_view.specs.View.{View, are_distinct, stands, is_in_hand, pinned_at, can_pin_all, taken, taken_fresh, taken_from, item_use, uses_in, walk_in}
use Rattle.fs_view.specs.Laws.{have_room}
use Rattle.fs_view.proofs.Changed.{pinned_number}
use Rattle.fs_view.proofs.Offering.{fresh_taken}

-- ## A pin changes no number, and takes no lease out of hand

abbrev pub with_pin : LeaseNo → ViewLease → ViewLease
with_pin number k = cond (has_number number k) (record k { standing = pinned k.standing }) k

pinned_hand : (s : Standing) → is_in_hand (pinned s) ≡ is_in_hand s
pinned_hand (Held l) = refl
pinned_hand (Pinned u) = refl
pinned_hand (Leaving l) = refl

number_by : (b : Bool) (k : ViewLease) → number_of (cond b (record k { standing = pinned k.standing }) k).standing ≡ number_of k.standing
number_by true k = pinned_number k.standing
number_by false k = refl

hand_by : (b : Bool) (k : ViewLease) → is_in_hand (cond b (record k { standing = pinned k.standing }) k).standing ≡ is_in_hand k.standing
hand_by true k = pinned_hand k.standing
hand_by false k = refl

mapped : (b : Bool) (u : LeaseNo) (k : ViewLease) (o : Option ViewLease) → option_map (with_pin u) (cond b (Some k) o) ≡ cond b (Some (with_pin u k)) (option_map (with_pin u) o)
mapped true u k o = refl
mapped false u k o = refl

pub find_pinned : (n u : LeaseNo) (ks : List ViewLease) → find (has_number n) (pinned_at u ks) ≡ option_map (with_pin u) (find (has_number n) ks)
find_pinned n u [] = refl
find_pinned n u (k ∷ ks) =
    ap (λ (x : LeaseNo). cond (same_no x n) (Some (with_pin u k)) (find (has_number n) (pinned_at u ks))) (number_by (has_number u k) k)
    ∙ (ap (cond (has_number n k) (Some (with_pin u k))) (find_pinned n u ks) ∙ sym (mapped (has_number n k) u k (find (has_number n) ks)))

hand_mapped : (u : LeaseNo) (o : Option ViewLease) → option_map_or (λ (k : ViewLease). is_in_hand k.standing) (option_map (with_pin u) o) false ≡ option_map_or (λ (k : ViewLease). is_in_hand k.standing) o false
hand_mapped u None = refl
hand_mapped u (Some k) = hand_by (has_number u k) k

hand_stays : (n u : LeaseNo) (ks : List ViewLease) → stands is_in_hand n (pinned_at u ks) ≡ stands is_in_hand n ks
hand_stays n u ks = ap (λ (o : Option ViewLease). option_map_or (λ (k : ViewLease). is_in_hand k.standing) o false) (find_pinned n u ks) ∙ hand_mapped u (find (has_number n) ks)

-- ## Room

room_by : (b : Bool) (n : ℕ) (k : ViewLease) → nat_le (entries_of k.standing + suc n) 0xffff_ffff_ffff_ffff ≡ true → nat_le (entries_of (cond b (record k { standing = pinned k.standing }) k).standing + n) 0xffff_ffff_ffff_ffff ≡ true
room_by false n k h = less (entries_of k.standing) n h
  where
    less : (e n : ℕ) → nat_le (e + suc n) 0xffff_ffff_ffff_ffff ≡ true → nat_le (e + n) 0xffff_ffff_ffff_ffff ≡ true
    less e n h = grind (arith, nat_tests)
room_by true n k h = pinned_room k.standing n h
  where
    pinned_room : (s : Standing) (n : ℕ) → nat_le (entries_of s + suc n) 0xffff_ffff_ffff_ffff ≡ true → nat_le (entries_of (pinned s) + n) 0xffff_ffff_ffff_ffff ≡ true
    pinned_room (Held l) n h = grind (arith, nat_tests)
    pinned_room (Pinned u) n h = grind (arith, nat_tests)
    pinned_room (Leaving l) n h = grind (arith, nat_tests)

room_stays : (n : ℕ) (u : LeaseNo) (ks : List ViewLease) → have_room (suc n) ks ≡ true → have_room n (pinned_at u ks) ≡ true
room_stays n u [] h = refl
room_stays n u (k ∷ ks) h =
    let q : (nat_le (entries_of k.standing + suc n) 0xffff_ffff_ffff_ffff ≡ true) × (have_room (suc n) ks ≡ true) = both _ (have_room (suc n) ks) h in
    joined _ _ (room_by (has_number u k) n k q.0) (room_stays n u ks q.1)

takes : (s : Standing) (n : ℕ) → is_in_hand s ≡ true → nat_le (entries_of s + suc n) 0xffff_ffff_ffff_ffff ≡ true → takes_pin s ≡ true
takes (Held l) n i h = refl
takes (Pinned u) n i h = grind (arith, nat_tests)
takes (Leaving l) n i h = absurd (cc)

hand_takes : (number : LeaseNo) (n : ℕ) (ks : List ViewLease) → stands is_in_hand number ks ≡ true → have_room (suc n) ks ≡ true → stands takes_pin number ks ≡ true
hand_takes number n [] i h = absurd (cc)
hand_takes number n (k ∷ ks) i h =
    let q : (nat_le (entries_of k.standing + suc n) 0xffff_ffff_ffff_ffff ≡ true) × (have_room (suc n) ks ≡ true) = both _ (have_room (suc n) ks) h in
    elim (has_number number k) as (λ b. option_map_or (λ (j : ViewLease). is_in_hand j.standing) (cond b (Some k) (find (has_number number) ks)) false ≡ true → option_map_or (λ (j : ViewLease). takes_pin j.standing) (cond b (Some k) (find (has_number number) ks)) false ≡ true) [
      | true ↦ λ g. takes k.standing n g q.0
      | false ↦ λ g. hand_takes number n ks g q.1
    ] i

-- each of the uses is of a lease in hand
abbrev AreInHand : List Use → List ViewLease → Type 0
AreInHand uses ks = list_all (λ (u : Use). stands is_in_hand u.no ks) uses ≡ true

in_hand_still : (number : LeaseNo) (uses : List Use) (ks : List ViewLease) → AreInHand uses ks → AreInHand uses (pinned_at number ks)
in_hand_still number [] ks h = refl
in_hand_still number (u ∷ us) ks h =
    let q : (stands is_in_hand u.no ks ≡ true) × AreInHand us ks = both _ _ h in
    joined _ _ (hand_stays u.no number ks ∙ q.0) (in_hand_still number us ks q.1)

all_pin : (uses : List Use) (ks : List ViewLease) → AreInHand uses ks → have_room (length uses) ks ≡ true → can_pin_all uses ks ≡ true
all_pin [] ks i h = refl
all_pin (u ∷ us) ks i h =
    let q : (stands is_in_hand u.no ks ≡ true) × AreInHand us ks = both _ _ i in
    joined _ _ (hand_takes u.no (length us) ks q.0 h) (all_pin us (pinned_at u.no ks) (in_hand_still u.no us ks q.1) (room_stays (length us) u.no ks h))

-- ## The leases that are used are in hand

any_there : (n : LeaseNo) (k : ViewLease) (ks : List ViewLease) → In k ks → same_no (number_of k.standing) n ≡ true → list_any (has_number n) ks ≡ true
any_there n k [] i h = absurd i
any_there n k (j ∷ ks) i h = elim i [
  | inl e ↦ ap (λ b. b || list_any (has_number n) ks) (ap (λ (x : ViewLease). has_number n x) (sym e) ∙ h)
  | inr r ↦ ap (λ b. has_number n j || b) (any_there n k ks r h) ∙ grind (arith, nat_tests)
]

pub stands_there : (test : Standing → Bool) (k : ViewLease) (ks : List ViewLease) → In k ks → are_distinct ks ≡ true → test k.standing ≡ true → stands test (number_of k.standing) ks ≡ true
stands_there test k [] i d h = absurd i
stands_there test k (j ∷ ks) i d h =
    let q : (not (list_any (has_number (number_of j.standing)) ks) ≡ true) × (are_distinct ks ≡ true) = both _ (are_distinct ks) d in
    elim i [
      | inl e ↦
          let here : has_number (number_of k.standing) j ≡ true = ap (λ (x : ViewLease). has_number (number_of k.standing) x) (sym e) ∙ same_no_self (number_of k.standing) in
          ap (λ b. option_map_or (λ (x : ViewLease). test x.standing) (cond b (Some j) (find (has_number (number_of k.standing)) ks)) false) here ∙ (ap (λ (x : ViewLease). test x.standing) (sym e) ∙ h)
      | inr r ↦
          elim (has_number (number_of k.standing) j) as (λ b. has_number (number_of k.standing) j ≡ b → option_map_or (λ (x : ViewLease). test x.standing) (cond b (Some j) (find (has_number (number_of k.standing)) ks)) false ≡ true) [
            | true ↦ λ t.
                let any : list_any (has_number (number_of j.standing)) ks ≡ true = any_there (number_of j.standing) k ks r (same_no_symm (number_of k.standing) (number_of j.standing) ∙ t) in
                let none : list_any (has_number (number_of j.standing)) ks ≡ false = not-true _ q.0 in
                absurd (cc)
            | false ↦ λ t. stands_there test k ks r q.1 h
          ] refl
    ]

pub found_in : (test : ViewLease → Bool) (ks : List ViewLease) (k : ViewLease) → find test ks ≡ Some k → In k ks
found_in test [] k h = absurd (cc)
found_in test (j ∷ ks) k h =
    elim (test j) as (λ b. cond b (Some j) (find test ks) ≡ Some k → In k (j ∷ ks)) [
      | true ↦ λ g. let e : k ≡ j = cc in inl e
      | false ↦ λ g. inr (found_in test ks k g)
    ] h

taken_in : (now : ℕ) (field : Field) (kind : LeaseKind) (best : Option ViewLease) (ks : List ViewLease) (k : ViewLease) → taken_from now field kind best ks ≡ Some k → (best ≡ Some k) ⊎ In k ks
taken_in now field kind best [] k h = inl h
taken_in now field kind best (j ∷ ks) k h =
    elim (serves now field kind j.standing && is_better j best) as (λ b. taken_from now field kind (cond b (Some j) best) ks ≡ Some k → (best ≡ Some k) ⊎ In k (j ∷ ks)) [
      | true ↦ λ g. elim (taken_in now field kind (Some j) ks k g) [
        | inl e ↦ let f : k ≡ j = cc in inr (inl f)
        | inr r ↦ inr (inr r)
      ]
      | false ↦ λ g. elim (taken_in now field kind best ks k g) [ inl e ↦ inl e | inr r ↦ inr (inr r) ]
    ] h

-- what is used is of a lease of the list, in hand
pub used_by : (s : Standing) (u : Use) → use_in s ≡ Some u → (is_in_hand s ≡ true) × (u.no ≡ number_of s)
used_by (Held l) u e = let q : use_of l ≡ u = cc in (refl, sym (ap (λ (x : Use). x.no) q))
used_by (Pinned p) u e = let q : use_of p.lease ≡ u = cc in (refl, sym (ap (λ (x : Use). x.no) q))
used_by (Leaving l) u e = absurd (cc)

hand_from : (ks : List ViewLease) (o : Option ViewLease) (u : Use) → ((k : ViewLease) → o ≡ Some k → In k ks) → are_distinct ks ≡ true → option_and_then (λ (k : ViewLease). use_in k.standing) o ≡ Some u → stands is_in_hand u.no ks ≡ true
hand_from ks None u within d e = absurd (cc)
hand_from ks (Some k) u within d e =
    let q : (is_in_hand k.standing ≡ true) × (u.no ≡ number_of k.standing) = used_by k.standing u e in
    ap (λ (n : LeaseNo). stands is_in_hand n ks) q.1 ∙ stands_there is_in_hand k ks (within k refl) d q.0

pub from_none : (now : ℕ) (field : Field) (kind : LeaseKind) (ks : List ViewLease) (k : ViewLease) → taken_from now field kind None ks ≡ Some k → In k ks
from_none now field kind ks k h = elim (taken_in now field kind None ks k h) [ inl e ↦ absurd (cc) | inr r ↦ r ]

taken_there : (v : View) (now : ℕ) (field : Field) (kind : LeaseKind) (k : ViewLease) → taken v now field kind ≡ Some k → In k v.leases
unfolding taken
taken_there v now field kind k h = from_none now field kind v.leases k h

item_in_hand : (v : View) (now : ℕ) (n : Need) (u : Use) → are_distinct v.leases ≡ true → item_use v now n ≡ Some u → stands is_in_hand u.no v.leases ≡ true
item_in_hand v now (need.Lease field kind) u d e = hand_from v.leases (taken v now field kind) u (λ k h. taken_there v now field kind k h) d e
item_in_hand v now (need.Fresh dir) u d e = hand_from v.leases (taken_fresh v now dir) u (λ k h. let q = fresh_taken v now dir k h in taken_there v now (Life q.0) Exclusive k q.1) d e

with_more : (v : View) (o : Option Use) (us : List Use) → ((u : Use) → o ≡ Some u → stands is_in_hand u.no v.leases ≡ true) → AreInHand us v.leases → AreInHand (cons_option o us) v.leases
with_more v None us one rest = rest
with_more v (Some u) us one rest = joined _ _ (one u refl) rest

all_in_hand : (v : View) (now : ℕ) (items : List Need) → are_distinct v.leases ≡ true → AreInHand (filter_map (item_use v now) items) v.leases
all_in_hand v now [] d = refl
all_in_hand v now (n ∷ ns) d = with_more v (item_use v now n) (filter_map (item_use v now) ns) (λ u e. item_in_hand v now n u d e) (all_in_hand v now ns d)

pub pins_fit : (v : View) (now : ℕ) (o : Op) → are_distinct v.leases ≡ true → have_room (length (uses_in v now o)) v.leases ≡ true → can_pin_all (uses_in v now o) v.leases ≡ true
pins_fit v now o d h = all_pin (uses_in v now o) v.leases (all_in_hand v now (walk_in v now o).items d) h
