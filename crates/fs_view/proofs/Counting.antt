-- Pins that are counted, and pins after leases lapsed.
use Rattle.std.proofs.Common.{◌≡◌, ℕ, ◌+◌, ◌&&◌, Bool, true, false, not, List, [], ◌∷◌, ◌++◌, ◌⊎◌, refl, ap, cond, arith, sym, ◌∙◌, inl, inr, zero-add, add_assoc, add-zero}
use Rattle.std.specs.Prelude.{Option, Some, None, nat_lt, option_map}
use Rattle.std.specs.Option.{option_map_or, option_and_then}
use Rattle.std.specs.List.{find, filter, filter_map, list_all, cons_option}
use Rattle.std.proofs.lemmas.Bool.Decides.{nat_tests}
use Rattle.fs_ident.proofs.Booleans.{both, joined}
use Rattle.fs_ident.specs.In.{In}
use Rattle.fs_ident.specs.declared.actor.LeaseNo.{LeaseNo}
use Rattle.fs_field.specs.declared.asked.Need.{Need}
use Rattle.fs_field.specs.declared.asked.Need.TheVariants as need
use Rattle.fs_field.specs.declared.effect.Effect.{Effect}
use Rattle.fs_field.specs.declared.field.Field.{Field}
use Rattle.fs_field.specs.declared.field.Field.TheVariants.{Life}
use Rattle.fs_field.specs.declared.lease_kind.LeaseKind.{LeaseKind}
use Rattle.fs_field.specs.declared.lease_kind.LeaseKind.TheVariants.{Exclusive}
use Rattle.fs_field.specs.declared.used.Use.{Use}
use Rattle.fs_field.specs.Table.{is_parent, same_no}
use Rattle.fs_field.proofs.SameNo.{same_no_is, same_no_symm}
use Rattle.fs_view.specs.declared.view_lease.ViewLease.{ViewLease}
use Rattle.fs_view.specs.declared.view_lease.Standing.{Standing}
use Rattle.fs_view.specs.declared.view_lease.Standing.TheVariants.{Held, Pinned, Leaving}
use Rattle.fs_view.specs.ViewLease.{number_of, has_number, has_ended, is_better, pinned, serves, takes_pin, use_in, is_live}
use Rattle.fs_view.specs.Pins.{takes_after, times_in, can_pin_after}
use Rattle.fs_view.specs.View.{View, are_distinct, can_pin_all, lapsed_at, pinned_all, pinned_at, stands, taken, taken_fresh, taken_from, item_use}
use Rattle.fs_view.proofs.Offering.{fresh_taken}
use Rattle.fs_view.proofs.Pins.{with_pin, find_pinned, stands_there, found_in, from_none, used_by}

-- ## A pin is one entry more

takes_now : (s : Standing) → takes_pin s ≡ takes_after 0 s
takes_now (Held l) = refl
takes_now (Pinned u) = ap (λ n. nat_lt n 0xffff_ffff_ffff_ffff) (sym (add-zero u.entries))
takes_now (Leaving l) = refl

takes_more : (m : ℕ) (s : Standing) → takes_after m (pinned s) ≡ takes_after (1 + m) s
takes_more m (Held l) = refl
takes_more m (Pinned u) = ap (λ n. nat_lt n 0xffff_ffff_ffff_ffff) (add_assoc u.entries 1 m)
takes_more m (Leaving l) = refl

found_has : (test : ViewLease → Bool) (ks : List ViewLease) (k : ViewLease) → find test ks ≡ Some k → test k ≡ true
found_has test [] k h = absurd (cc)
found_has test (j ∷ ks) k h =
    elim (test j) as (λ b. test j ≡ b → cond b (Some j) (find test ks) ≡ Some k → test k ≡ true) [
      | true ↦ λ e g. let q : j ≡ k = cc in ap test (sym q) ∙ e
      | false ↦ λ e g. found_has test ks k g
    ] refl h

pinned_takes : (m : ℕ) (b : Bool) (k : ViewLease) → takes_after m (cond b (record k { standing = pinned k.standing }) k).standing ≡ takes_after (cond b 1 0 + m) k.standing
pinned_takes m true k = takes_more m k.standing
pinned_takes m false k = ap (λ n. takes_after n k.standing) (sym (zero-add m))

after_found : (m : ℕ) (number other : LeaseNo) (ks : List ViewLease) (o : Option ViewLease) → find (has_number number) ks ≡ o
    → option_map_or (λ (k : ViewLease). takes_after m k.standing) (option_map (with_pin other) o) false ≡ option_map_or (λ (k : ViewLease). takes_after (cond (same_no other number) 1 0 + m) k.standing) o false
after_found m number other ks None e = refl
after_found m number other ks (Some k) e =
    let is : number_of k.standing ≡ number = same_no_is (number_of k.standing) number (found_has (has_number number) ks k e) in
    pinned_takes m (has_number other k) k ∙ ap (λ b. takes_after (cond b 1 0 + m) k.standing) (ap (λ (n : LeaseNo). same_no n other) is ∙ same_no_symm number other)

one_pin : (m : ℕ) (number other : LeaseNo) (ks : List ViewLease) → stands (takes_after m) number (pinned_at other ks) ≡ stands (takes_after (cond (same_no other number) 1 0 + m)) number ks
one_pin m number other ks = ap (λ (o : Option ViewLease). option_map_or (λ (k : ViewLease). takes_after m k.standing) o false) (find_pinned number other ks) ∙ after_found m number other ks (find (has_number number) ks) refl

all_pins : (m : ℕ) (number : LeaseNo) (before : List Use) (ks : List ViewLease) → stands (takes_after m) number (pinned_all before ks) ≡ stands (takes_after (times_in number before + m)) number ks
all_pins m number [] ks = ap (λ n. stands (takes_after n) number ks) (sym (zero-add m))
all_pins m number (u ∷ us) ks =
    all_pins m number us (pinned_at u.no ks) ∙ (one_pin (times_in number us + m) number u.no ks ∙ ap (λ n. stands (takes_after n) number ks) (sym (add_assoc (cond (same_no u.no number) 1 0) (times_in number us) m)))

takes_stands : (number : LeaseNo) (ks : List ViewLease) → stands takes_pin number ks ≡ stands (takes_after 0) number ks
takes_stands number ks = elim (find (has_number number) ks) as (λ o. option_map_or (λ (k : ViewLease). takes_pin k.standing) o false ≡ option_map_or (λ (k : ViewLease). takes_after 0 k.standing) o false) [ None ↦ refl | Some k ↦ takes_now k.standing ]

pinned_last : (before : List Use) (u : Use) (ks : List ViewLease) → pinned_at u.no (pinned_all before ks) ≡ pinned_all (before ++ u ∷ []) ks
pinned_last [] u ks = refl
pinned_last (w ∷ ws) u ks = pinned_last ws u (pinned_at w.no ks)

counted : (before uses : List Use) (ks : List ViewLease) → can_pin_all uses (pinned_all before ks) ≡ can_pin_after before uses ks
counted before [] ks = refl
counted before (u ∷ us) ks =
    let here : stands takes_pin u.no (pinned_all before ks) ≡ stands (takes_after (times_in u.no before)) u.no ks = takes_stands u.no (pinned_all before ks) ∙ (all_pins 0 u.no before ks ∙ ap (λ n. stands (takes_after n) u.no ks) (add-zero (times_in u.no before))) in
    ap (λ b. b && can_pin_all us (pinned_at u.no (pinned_all before ks))) here
    ∙ ap (λ b. stands (takes_after (times_in u.no before)) u.no ks && b) (ap (can_pin_all us) (pinned_last before u ks) ∙ counted (before ++ u ∷ []) us ks)

pub pins_counted : (uses : List Use) (ks : List ViewLease) → can_pin_after [] uses ks ≡ can_pin_all uses ks
pins_counted uses ks = sym (counted [] uses ks)

-- ## What is used at a reading is not over at it

served_lives : (now : ℕ) (field : Field) (kind : LeaseKind) (s : Standing) → serves now field kind s ≡ true → not (has_ended now s) ≡ true
served_lives now field kind (Held l) h = grind (arith, nat_tests)
served_lives now field kind (Pinned u) h = refl
served_lives now field kind (Leaving l) h = refl

taken_serves : (now : ℕ) (field : Field) (kind : LeaseKind) (best : Option ViewLease) (ks : List ViewLease) (k : ViewLease) → taken_from now field kind best ks ≡ Some k → (best ≡ Some k) ⊎ (serves now field kind k.standing ≡ true)
taken_serves now field kind best [] k h = inl h
taken_serves now field kind best (j ∷ ks) k h =
    elim (serves now field kind j.standing && is_better j best) as (λ b. (serves now field kind j.standing && is_better j best) ≡ b → taken_from now field kind (cond b (Some j) best) ks ≡ Some k → (best ≡ Some k) ⊎ (serves now field kind k.standing ≡ true)) [
      | true ↦ λ e g. elim (taken_serves now field kind (Some j) ks k g) [
        | inl f ↦ let q : j ≡ k = cc in inr (ap (λ (x : ViewLease). serves now field kind x.standing) (sym q) ∙ (both (serves now field kind j.standing) (is_better j best) e).0)
        | inr r ↦ inr r
      ]
      | false ↦ λ e g. taken_serves now field kind best ks k g
    ] refl h

none_serves : (now : ℕ) (field : Field) (kind : LeaseKind) (ks : List ViewLease) (k : ViewLease) → taken_from now field kind None ks ≡ Some k → serves now field kind k.standing ≡ true
none_serves now field kind ks k h = elim (taken_serves now field kind None ks k h) [ inl e ↦ absurd (cc) | inr r ↦ r ]

abbrev lives_at : ℕ → Standing → Bool
lives_at now s = not (has_ended now s)

live_from : (now : ℕ) (ks : List ViewLease) (o : Option ViewLease) (u : Use) → ((k : ViewLease) → o ≡ Some k → In k ks × (lives_at now k.standing ≡ true)) → are_distinct ks ≡ true → option_and_then (λ (k : ViewLease). use_in k.standing) o ≡ Some u → stands (lives_at now) u.no ks ≡ true
live_from now ks None u within d e = absurd (cc)
live_from now ks (Some k) u within d e =
    ap (λ (n : LeaseNo). stands (lives_at now) n ks) (used_by k.standing u e).1 ∙ stands_there (lives_at now) k ks (within k refl).0 d (within k refl).1

taken_lives : (v : View) (now : ℕ) (field : Field) (kind : LeaseKind) (k : ViewLease) → taken v now field kind ≡ Some k → In k v.leases × (lives_at now k.standing ≡ true)
unfolding taken
taken_lives v now field kind k h = (from_none now field kind v.leases k h, served_lives now field kind k.standing (none_serves now field kind v.leases k h))

item_lives : (v : View) (now : ℕ) (n : Need) (u : Use) → are_distinct v.leases ≡ true → item_use v now n ≡ Some u → stands (lives_at now) u.no v.leases ≡ true
item_lives v now (need.Lease field kind) u d e = live_from now v.leases (taken v now field kind) u (λ k h. taken_lives v now field kind k h) d e
item_lives v now (need.Fresh dir) u d e = live_from now v.leases (taken_fresh v now dir) u (λ k h. let q = fresh_taken v now dir k h in taken_lives v now (Life q.0) Exclusive k q.1) d e

abbrev AreLive : ℕ → List Use → List ViewLease → Type 0
AreLive now uses ks = list_all (λ (u : Use). stands (lives_at now) u.no ks) uses ≡ true

with_more : (now : ℕ) (v : View) (o : Option Use) (us : List Use) → ((u : Use) → o ≡ Some u → stands (lives_at now) u.no v.leases ≡ true) → AreLive now us v.leases → AreLive now (cons_option o us) v.leases
with_more now v None us one rest = rest
with_more now v (Some u) us one rest = joined _ _ (one u refl) rest

all_live : (v : View) (now : ℕ) (items : List Need) → are_distinct v.leases ≡ true → AreLive now (filter_map (item_use v now) items) v.leases
all_live v now [] d = refl
all_live v now (n ∷ ns) d = with_more now v (item_use v now n) (filter_map (item_use v now) ns) (λ u e. item_lives v now n u d e) (all_live v now ns d)

-- ## Pins pass over what has ended

find_live : (now : ℕ) (number : LeaseNo) (ks : List ViewLease) → stands (lives_at now) number ks ≡ true → find (has_number number) (filter (is_live now) ks) ≡ find (has_number number) ks
find_live now number [] h = refl
find_live now number (k ∷ ks) h =
    elim (has_number number k) as (λ b. has_number number k ≡ b → option_map_or (λ (j : ViewLease). lives_at now j.standing) (cond b (Some k) (find (has_number number) ks)) false ≡ true → find (has_number number) (cond (is_live now k) (k ∷ filter (is_live now) ks) (filter (is_live now) ks)) ≡ cond b (Some k) (find (has_number number) ks)) [
      | true ↦ λ e g.
          ap (λ b. find (has_number number) (cond b (k ∷ filter (is_live now) ks) (filter (is_live now) ks))) g
          ∙ ap (λ b. cond b (Some k) (find (has_number number) (filter (is_live now) ks))) e
      | false ↦ λ e g.
          elim (is_live now k) as (λ b. find (has_number number) (cond b (k ∷ filter (is_live now) ks) (filter (is_live now) ks)) ≡ find (has_number number) ks) [
            | true ↦ ap (λ b. cond b (Some k) (find (has_number number) (filter (is_live now) ks))) e ∙ find_live now number ks g
            | false ↦ find_live now number ks g
          ]
    ] refl h

after_lapse : (now : ℕ) (before uses : List Use) (ks : List ViewLease) → AreLive now uses ks → can_pin_after before uses (filter (is_live now) ks) ≡ can_pin_after before uses ks
after_lapse now before [] ks h = refl
after_lapse now before (u ∷ us) ks h =
    let q : (stands (lives_at now) u.no ks ≡ true) × AreLive now us ks = both _ _ h in
    ap (λ (o : Option ViewLease). option_map_or (λ (k : ViewLease). takes_after (times_in u.no before) k.standing) o false && can_pin_after (before ++ u ∷ []) us (filter (is_live now) ks)) (find_live now u.no ks q.0)
    ∙ ap (λ b. stands (takes_after (times_in u.no before)) u.no ks && b) (after_lapse now (before ++ u ∷ []) us ks q.1)

pub pins_pass : (now : ℕ) (v : View) (items : List Need) → are_distinct v.leases ≡ true → can_pin_all (filter_map (item_use v now) items) (lapsed_at now v).leases ≡ can_pin_all (filter_map (item_use v now) items) v.leases
pins_pass now v items d =
    sym (pins_counted (filter_map (item_use v now) items) (filter (is_live now) v.leases))
    ∙ (after_lapse now [] (filter_map (item_use v now) items) v.leases (all_live v now items d) ∙ pins_counted (filter_map (item_use v now) items) v.leases)
