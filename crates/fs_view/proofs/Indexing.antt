-- The numbers on each field, as leases come, change and go.
use Rattle.std.proofs.Common.{◌≡◌, ◌==◌, ◌<◌, ℕ, ◌-◌, ◌&&◌, Bool, true, false, not, List, [], ◌∷◌, ◌++◌, refl, ap, cond, length, get_or, map, sym, ◌∙◌, subst, inl, inr, append-nil}
use Rattle.std.specs.Prelude.{Option, Some, None}
use Rattle.std.specs.List.{find, filter, list_any, position, remove}
use Rattle.fs_ident.specs.In.{In}
use Rattle.fs_ident.specs.declared.actor.LeaseNo.{LeaseNo}
use Rattle.fs_field.specs.declared.field.Field.{Field}
use Rattle.fs_field.specs.Field.{same_field}
use Rattle.fs_field.specs.Table.{same_no}
use Rattle.fs_lease.specs.Lease.{InUse, Lease}
use Rattle.fs_view.specs.declared.change.Change.{Change}
use Rattle.fs_view.specs.declared.change.Change.TheVariants.{Pin, Unpin, Recall, Leave, Renew}
use Rattle.fs_view.specs.declared.index.FieldIndex.{FieldIndex}
use Rattle.fs_view.specs.declared.view_lease.ViewLease.{ViewLease}
use Rattle.fs_view.specs.declared.view_lease.Standing.{Standing}
use Rattle.fs_view.specs.declared.view_lease.Standing.TheVariants.{Held, Pinned, Leaving}
use Rattle.fs_view.specs.Change.{changed}
use Rattle.fs_view.specs.Index.{and_number, but_number, is_on, numbers_at, numbers_on, IsAdded, IsChanged, IsIndexOf, IsNoted, IsTakenOff}
use Rattle.fs_view.specs.ViewLease.{has_number, is_held, is_pinned, leaving, number_of, pinned, renewed, unpinned}
use Rattle.fs_view.specs.View.{are_distinct, at_number}
use Rattle.fs_view.proofs.Changed.{same_number}
use Rattle.fs_view.proofs.Finding.{only_one}

abbrev numbers : List ViewLease → List LeaseNo
numbers ks = map (λ (k : ViewLease). number_of k.standing) ks

abbrev on : Field → List ViewLease → List ViewLease
on f ks = filter (λ (k : ViewLease). is_on f k.standing) ks

abbrev others : LeaseNo → List ViewLease → List ViewLease
others n ks = filter (λ k. not (has_number n k)) ks

-- ## One lease more

more_numbers : (f : Field) (ks : List ViewLease) (k : ViewLease) → numbers_on f (ks ++ k ∷ []) ≡ cond (is_on f k.standing) (and_number (number_of k.standing) (numbers_on f ks)) (numbers_on f ks)
more_numbers f [] k = elim (is_on f k.standing) as (λ b. numbers (cond b (k ∷ []) []) ≡ cond b (number_of k.standing ∷ []) []) [ true ↦ refl | false ↦ refl ]
more_numbers f (j ∷ ks) k =
    elim (is_on f j.standing) as (λ b. numbers (cond b (j ∷ on f (ks ++ k ∷ [])) (on f (ks ++ k ∷ []))) ≡ cond (is_on f k.standing) (and_number (number_of k.standing) (numbers (cond b (j ∷ on f ks) (on f ks)))) (numbers (cond b (j ∷ on f ks) (on f ks)))) [
      | true ↦ ap (λ ns. number_of j.standing ∷ ns) (more_numbers f ks k) ∙ out (is_on f k.standing)
      | false ↦ more_numbers f ks k
    ]
  where
    out : (b : Bool) → number_of j.standing ∷ cond b (and_number (number_of k.standing) (numbers_on f ks)) (numbers_on f ks) ≡ cond b (number_of j.standing ∷ and_number (number_of k.standing) (numbers_on f ks)) (number_of j.standing ∷ numbers_on f ks)
    out true = refl
    out false = refl

noted : (old new : FieldIndex) (ks : List ViewLease) (k : ViewLease) (field : Field) → ((f : Field) → is_on f k.standing ≡ same_field field f) → IsNoted (number_of k.standing) field old new → IsIndexOf old ks → IsIndexOf new (ks ++ k ∷ [])
noted old new ks k field same n h w f =
    let q = n w in
    q.1 f
    ∙ ap (λ ns. cond (same_field field f) (and_number (number_of k.standing) ns) ns) (h q.0 f)
    ∙ ap (λ b. cond b (and_number (number_of k.standing) (numbers_on f ks)) (numbers_on f ks)) (sym (same f))
    ∙ sym (more_numbers f ks k)

pub added : (old new : FieldIndex) (ks : List ViewLease) (k : ViewLease) (s : Standing) → k.standing ≡ s → IsAdded s old new → IsIndexOf old ks → IsIndexOf new (ks ++ k ∷ [])
added old new ks k (Held l) e a h = noted old new ks k l.field (λ f. ap (is_on f) e) (subst (λ n. IsNoted n l.field old new) (sym (ap number_of e)) a) h
added old new ks k (Pinned u) e a h = noted old new ks k u.lease.field (λ f. ap (is_on f) e) (subst (λ n. IsNoted n u.lease.field old new) (sym (ap number_of e)) a) h
added old new ks k (Leaving l) e a h = λ w f.
    ap (λ (i : FieldIndex). numbers_at i.fields f) a ∙ h (ap (λ (i : FieldIndex). i.whole) (sym a) ∙ w) f
    ∙ sym (more_numbers f ks k ∙ ap (λ b. cond b (and_number (number_of k.standing) (numbers_on f ks)) (numbers_on f ks)) (ap (is_on f) e))

-- ## Leases that change

kept_numbers : (f : Field) (g : ViewLease → ViewLease) (ks : List ViewLease) → ((k : ViewLease) → In k ks → is_on f (g k).standing ≡ is_on f k.standing) → ((k : ViewLease) → number_of (g k).standing ≡ number_of k.standing) → numbers_on f (map g ks) ≡ numbers_on f ks
kept_numbers f g [] same number = refl
kept_numbers f g (k ∷ ks) same number =
    ap (λ b. numbers (cond b (g k ∷ on f (map g ks)) (on f (map g ks)))) (same k (inl refl))
    ∙ elim (is_on f k.standing) as (λ b. numbers (cond b (g k ∷ on f (map g ks)) (on f (map g ks))) ≡ numbers (cond b (k ∷ on f ks) (on f ks))) [
      | true ↦ ap (λ n. n ∷ numbers_on f (map g ks)) (number k) ∙ ap (λ ns. number_of k.standing ∷ ns) (kept_numbers f g ks (λ j i. same j (inr i)) number)
      | false ↦ kept_numbers f g ks (λ j i. same j (inr i)) number
    ]

pub index_kept : (index : FieldIndex) (g : ViewLease → ViewLease) (ks : List ViewLease) → ((f : Field) (k : ViewLease) → In k ks → is_on f (g k).standing ≡ is_on f k.standing) → ((k : ViewLease) → number_of (g k).standing ≡ number_of k.standing) → IsIndexOf index ks → IsIndexOf index (map g ks)
index_kept index g ks same number h w f = h w f ∙ sym (kept_numbers f g ks (same f) number)

-- ## Leases that go

but_others : (n : LeaseNo) (f : Field) (ks : List ViewLease) → numbers_on f (others n ks) ≡ but_number n (numbers_on f ks)
but_others n f [] = refl
but_others n f (k ∷ ks) =
    elim (has_number n k) as (λ b. has_number n k ≡ b → numbers_on f (cond (not b) (k ∷ others n ks) (others n ks)) ≡ but_number n (numbers (cond (is_on f k.standing) (k ∷ on f ks) (on f ks)))) [
      | true ↦ λ t. but_others n f ks ∙ elim (is_on f k.standing) as (λ b. but_number n (numbers_on f ks) ≡ but_number n (numbers (cond b (k ∷ on f ks) (on f ks)))) [
        | true ↦ sym (ap (λ b. cond (not b) (number_of k.standing ∷ but_number n (numbers_on f ks)) (but_number n (numbers_on f ks))) t)
        | false ↦ refl
      ]
      | false ↦ λ t. elim (is_on f k.standing) as (λ b. numbers (cond b (k ∷ on f (others n ks)) (on f (others n ks))) ≡ but_number n (numbers (cond b (k ∷ on f ks) (on f ks)))) [
        | true ↦ ap (λ ns. number_of k.standing ∷ ns) (but_others n f ks) ∙ sym (ap (λ b. cond (not b) (number_of k.standing ∷ but_number n (numbers_on f ks)) (but_number n (numbers_on f ks))) t)
        | false ↦ but_others n f ks
      ]
    ] refl

-- where none on the field has the number
none_but : (n : LeaseNo) (f : Field) (ks : List ViewLease) → ((k : ViewLease) → In k ks → is_on f k.standing ≡ true → has_number n k ≡ false) → but_number n (numbers_on f ks) ≡ numbers_on f ks
none_but n f [] h = refl
none_but n f (k ∷ ks) h =
    elim (is_on f k.standing) as (λ b. is_on f k.standing ≡ b → but_number n (numbers (cond b (k ∷ on f ks) (on f ks))) ≡ numbers (cond b (k ∷ on f ks) (on f ks))) [
      | true ↦ λ t. ap (λ b. cond (not b) (number_of k.standing ∷ but_number n (numbers_on f ks)) (but_number n (numbers_on f ks))) (h k (inl refl) t) ∙ ap (λ ns. number_of k.standing ∷ ns) (none_but n f ks (λ j i. h j (inr i)))
      | false ↦ λ t. none_but n f ks (λ j i. h j (inr i))
    ] refl

-- no other lease has the number of one that is not on the field
off_field : (x : ViewLease) (f : Field) (ks : List ViewLease) → are_distinct ks ≡ true → In x ks → is_on f x.standing ≡ false → (k : ViewLease) → In k ks → is_on f k.standing ≡ true → has_number (number_of x.standing) k ≡ false
off_field x f ks d i off k j t = elim (has_number (number_of x.standing) k) as (λ b. has_number (number_of x.standing) k ≡ b → b ≡ false) [
  | true ↦ λ e. let wrong : true ≡ false = sym t ∙ ap (λ (y : ViewLease). is_on f y.standing) (only_one k x ks d j i e) ∙ off in absurd (cc wrong)
  | false ↦ λ e. refl
] refl

-- what stands at each field once a held lease's number is taken off its own
off_at : (old new : FieldIndex) (x : ViewLease) (l : Lease) (ks : List ViewLease) → are_distinct ks ≡ true → In x ks → x.standing ≡ Held l → IsTakenOff (Held l) old new → IsIndexOf old ks → new.whole ≡ true → (f : Field) → numbers_at new.fields f ≡ but_number (number_of x.standing) (numbers_on f ks)
off_at old new x l ks d i e t h w f =
    t.1 f
    ∙ ap (λ ns. cond (same_field l.field f) (but_number l.no ns) ns) (h (sym t.0 ∙ w) f)
    ∙ ap (λ (n : LeaseNo). cond (same_field l.field f) (but_number n (numbers_on f ks)) (numbers_on f ks)) (sym (ap number_of e))
    ∙ elim (same_field l.field f) as (λ b. same_field l.field f ≡ b → cond b (but_number (number_of x.standing) (numbers_on f ks)) (numbers_on f ks) ≡ but_number (number_of x.standing) (numbers_on f ks)) [
      | true ↦ λ s. refl
      | false ↦ λ s. sym (none_but (number_of x.standing) f ks (off_field x f ks d i (ap (is_on f) e ∙ s)))
    ] refl

-- the lease that is taken away was on its field, or on none
pub index_gone : (old new : FieldIndex) (x : ViewLease) (s : Standing) (ks : List ViewLease) → x.standing ≡ s → is_pinned s ≡ false → are_distinct ks ≡ true → In x ks → IsTakenOff s old new → IsIndexOf old ks → IsIndexOf new (others (number_of x.standing) ks)
index_gone old new x (Held l) ks e p d i t h w f = off_at old new x l ks d i e t h w f ∙ sym (but_others (number_of x.standing) f ks)
index_gone old new x (Pinned u) ks e p d i t h w f = absurd (cc p)
index_gone old new x (Leaving l) ks e p d i t h w f =
    let w' : old.whole ≡ true = ap (λ (j : FieldIndex). j.whole) (sym t) ∙ w in
    ap (λ (j : FieldIndex). numbers_at j.fields f) t ∙ h w' f
    ∙ sym (but_others (number_of x.standing) f ks ∙ none_but (number_of x.standing) f ks (off_field x f ks d i (ap (is_on f) e)))

-- ## A lease that changes

unpinned_on : (f : Field) (b : Bool) (u : InUse) → is_on f (cond b (Held u.lease) (Pinned (record u { entries = u.entries - 1 }))) ≡ same_field u.lease.field f
unpinned_on f true u = refl
unpinned_on f false u = refl

pin_on : (f : Field) (s : Standing) → is_on f (pinned s) ≡ is_on f s
pin_on f (Held l) = refl
pin_on f (Pinned u) = refl
pin_on f (Leaving l) = refl

unpin_on : (f : Field) (s : Standing) → is_on f (unpinned s) ≡ is_on f s
unpin_on f (Held l) = refl
unpin_on f (Pinned u) = unpinned_on f (u.entries == 1) u
unpin_on f (Leaving l) = refl

renewed_on : (f : Field) (until : ℕ) (s : Standing) → is_on f (renewed until s) ≡ is_on f s
renewed_on f until (Held l) = refl
renewed_on f until (Pinned u) = refl
renewed_on f until (Leaving l) = refl

by_test : (g : ViewLease → ViewLease) (b : Bool) (f : Field) (k : ViewLease) → is_on f (g k).standing ≡ is_on f k.standing → is_on f (cond b (g k) k).standing ≡ is_on f k.standing
by_test g true f k e = e
by_test g false f k e = refl

number_by : (g : ViewLease → ViewLease) (b : Bool) (k : ViewLease) → number_of (g k).standing ≡ number_of k.standing → number_of (cond b (g k) k).standing ≡ number_of k.standing
number_by g true k e = e
number_by g false k e = refl

-- a change at a number that leaves each lease on its field
still_on : (index : FieldIndex) (n : LeaseNo) (c : Change) (ks : List ViewLease) → ((f : Field) (k : ViewLease) → is_on f (changed c k).standing ≡ is_on f k.standing) → IsIndexOf index ks → IsIndexOf index (at_number n (changed c) ks)
still_on index n c ks same h = index_kept index (λ k. cond (has_number n k) (changed c k) k) ks (λ f k i. by_test (changed c) (has_number n k) f k (same f k)) (λ k. number_by (changed c) (has_number n k) k (same_number c k)) h

-- a held lease that goes back is on no field any more
left_numbers : (n : LeaseNo) (f : Field) (ks : List ViewLease) → ((k : ViewLease) → In k ks → has_number n k ≡ true → is_held k.standing ≡ true) → numbers_on f (at_number n (changed Leave) ks) ≡ but_number n (numbers_on f ks)
left_numbers n f [] h = refl
left_numbers n f (k ∷ ks) h =
    elim (has_number n k) as (λ b. has_number n k ≡ b → numbers_on f (cond b (changed Leave k) k ∷ at_number n (changed Leave) ks) ≡ but_number n (numbers (cond (is_on f k.standing) (k ∷ on f ks) (on f ks)))) [
      | true ↦ λ t.
          ap (λ b. numbers (cond b (changed Leave k ∷ on f (at_number n (changed Leave) ks)) (on f (at_number n (changed Leave) ks)))) (gone k.standing (h k (inl refl) t))
          ∙ left_numbers n f ks (λ j i. h j (inr i))
          ∙ elim (is_on f k.standing) as (λ b. but_number n (numbers_on f ks) ≡ but_number n (numbers (cond b (k ∷ on f ks) (on f ks)))) [
            | true ↦ sym (ap (λ b. cond (not b) (number_of k.standing ∷ but_number n (numbers_on f ks)) (but_number n (numbers_on f ks))) t)
            | false ↦ refl
          ]
      | false ↦ λ t. elim (is_on f k.standing) as (λ b. numbers (cond b (k ∷ on f (at_number n (changed Leave) ks)) (on f (at_number n (changed Leave) ks))) ≡ but_number n (numbers (cond b (k ∷ on f ks) (on f ks)))) [
        | true ↦ ap (λ ns. number_of k.standing ∷ ns) (left_numbers n f ks (λ j i. h j (inr i))) ∙ sym (ap (λ b. cond (not b) (number_of k.standing ∷ but_number n (numbers_on f ks)) (but_number n (numbers_on f ks))) t)
        | false ↦ left_numbers n f ks (λ j i. h j (inr i))
      ]
    ] refl
  where
    gone : (s : Standing) → is_held s ≡ true → is_on f (leaving s) ≡ false
    gone (Held l) e = refl
    gone (Pinned u) e = absurd (cc e)
    gone (Leaving l) e = refl

-- one that does not go back now stays as it is
not_left : (index : FieldIndex) (x : ViewLease) (ks : List ViewLease) → are_distinct ks ≡ true → In x ks → leaving x.standing ≡ x.standing → IsIndexOf index ks → IsIndexOf index (at_number (number_of x.standing) (changed Leave) ks)
not_left index x ks d i e h = index_kept index (λ k. cond (has_number (number_of x.standing) k) (changed Leave k) k) ks same (λ k. number_by (changed Leave) (has_number (number_of x.standing) k) k (same_number Leave k)) h
  where
    same : (f : Field) (k : ViewLease) → In k ks → is_on f (cond (has_number (number_of x.standing) k) (changed Leave k) k).standing ≡ is_on f k.standing
    same f k j = elim (has_number (number_of x.standing) k) as (λ b. has_number (number_of x.standing) k ≡ b → is_on f (cond b (changed Leave k) k).standing ≡ is_on f k.standing) [
      | true ↦ λ t. let is = only_one k x ks d j i t in ap (λ (y : ViewLease). is_on f (leaving y.standing)) is ∙ ap (is_on f) e ∙ ap (λ (y : ViewLease). is_on f y.standing) (sym is)
      | false ↦ λ t. refl
    ] refl

held_there : (x : ViewLease) (l : Lease) (ks : List ViewLease) → are_distinct ks ≡ true → In x ks → x.standing ≡ Held l → (k : ViewLease) → In k ks → has_number (number_of x.standing) k ≡ true → is_held k.standing ≡ true
held_there x l ks d i e k j t = ap (λ (y : ViewLease). is_held y.standing) (only_one k x ks d j i t) ∙ ap is_held e

left_by : (old new : FieldIndex) (x : ViewLease) (s : Standing) (ks : List ViewLease) → x.standing ≡ s → are_distinct ks ≡ true → In x ks → IsTakenOff s old new → IsIndexOf old ks → IsIndexOf new (at_number (number_of x.standing) (changed Leave) ks)
left_by old new x (Held l) ks e d i t h = λ w f. off_at old new x l ks d i e t h w f ∙ sym (left_numbers (number_of x.standing) f ks (held_there x l ks d i e))
left_by old new x (Pinned u) ks e d i t h = subst (λ j. IsIndexOf j (at_number (number_of x.standing) (changed Leave) ks)) (sym t) (not_left old x ks d i (ap leaving e ∙ sym e) h)
left_by old new x (Leaving l) ks e d i t h = subst (λ j. IsIndexOf j (at_number (number_of x.standing) (changed Leave) ks)) (sym t) (not_left old x ks d i (ap leaving e ∙ sym e) h)

pub index_changed : (old new : FieldIndex) (c : Change) (x : ViewLease) (ks : List ViewLease) → are_distinct ks ≡ true → In x ks → IsChanged c x.standing old new → IsIndexOf old ks → IsIndexOf new (at_number (number_of x.standing) (changed c) ks)
index_changed old new Pin x ks d i t h = subst (λ j. IsIndexOf j (at_number (number_of x.standing) (changed Pin) ks)) (sym t) (still_on old (number_of x.standing) Pin ks (λ f k. pin_on f k.standing) h)
index_changed old new Unpin x ks d i t h = subst (λ j. IsIndexOf j (at_number (number_of x.standing) (changed Unpin) ks)) (sym t) (still_on old (number_of x.standing) Unpin ks (λ f k. unpin_on f k.standing) h)
index_changed old new Recall x ks d i t h = subst (λ j. IsIndexOf j (at_number (number_of x.standing) (changed Recall) ks)) (sym t) (still_on old (number_of x.standing) Recall ks (λ f k. refl) h)
index_changed old new Leave x ks d i t h = left_by old new x x.standing ks refl d i t h
index_changed old new (Renew until) x ks d i t h = subst (λ j. IsIndexOf j (at_number (number_of x.standing) (changed (Renew until)) ks)) (sym t) (still_on old (number_of x.standing) (Renew until) ks (λ f k. renewed_on f until k.standing) h)
