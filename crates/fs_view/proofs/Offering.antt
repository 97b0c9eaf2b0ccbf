-- Identifiers for new files: the leases that offer them, and the best on their lives.
use Rattle.std.proofs.Common.{◌≡◌, ◌∙◌, ℕ, Bool, true, false, not, List, refl, ap, sym, subst}
use Rattle.std.specs.Prelude.{Option, Some, None, ◌&&◌, nat_lt, option_map}
use Rattle.std.specs.Option.{option_and_then}
use Rattle.std.specs.List.{find}
use Rattle.fs_ident.specs.In.{In}
use Rattle.fs_ident.proofs.Booleans.{both, first}
use Rattle.fs_ident.proofs.Passing.{found}
use Rattle.fs_ident.proofs.Same.{same_is, same_self}
use Rattle.fs_ident.proofs.Standing.{none_any, none_pass}
use Rattle.fs_field.specs.declared.effect.Effect.{Effect}
use Rattle.fs_field.specs.declared.field.Field.{Field}
use Rattle.fs_field.specs.declared.field.Field.TheVariants.{Life, Child, Names, Info, Own, SelfW, Other}
use Rattle.fs_field.specs.declared.lease_kind.LeaseKind.{LeaseKind}
use Rattle.fs_field.specs.declared.lease_kind.LeaseKind.TheVariants.{Exclusive}
use Rattle.fs_field.specs.Field.{file_of, same_field}
use Rattle.fs_field.specs.Table.{is_parent}
use Rattle.fs_lease.specs.Lease.{Lease}
use Rattle.fs_view.specs.declared.view_lease.ViewLease.{ViewLease}
use Rattle.fs_view.specs.declared.view_lease.Standing.{Standing}
use Rattle.fs_view.specs.declared.view_lease.Standing.TheVariants.{Held, Pinned, Leaving}
use Rattle.fs_view.specs.ViewLease.{field_in, file_in, is_enough, is_life, is_pending, is_unused, makes_known, offers, serves}
use Rattle.fs_view.specs.Laws.{IsOffered, IsUsedByBest, NoneIsOffered}
use Rattle.fs_view.specs.View.{View, fresh, offered, taken, taken_fresh}
use Rattle.fs_view.proofs.Best.{none_taken, taken_best}
use Rattle.fs_view.proofs.ByField.{same_field_is}

-- ## Of one lease

-- a field is the life of its own file where it is a life
own_life : (f : Field) → same_field f (Life (file_of f)) ≡ is_life f
own_life (Life a) = same_self a
own_life (Child a n) = refl
own_life (Names a) = refl
own_life (Info a) = refl
own_life (Own a) = refl
own_life (SelfW a m) = refl
own_life (Other a m) = refl

life_is : (f : Field) → is_life f ≡ true → f ≡ Life (file_of f)
life_is f h = same_field_is f (Life (file_of f)) (own_life f ∙ h)

-- what serves for that life is on it
on_it : (now : ℕ) (l : Lease) → makes_known now (Life (file_of l.field)) Exclusive l ≡ true → l.field ≡ Life (file_of l.field)
on_it now l h = same_field_is l.field (Life (file_of l.field)) (first _ _ (first _ _ h))

-- as its field tells
abbrev pub unused_on : ℕ → List (List Effect) → Standing → Option Field → Bool
unused_on now log s None = false
unused_on now log s (Some f) = is_life f && (serves now f Exclusive s && not (is_pending (file_of f) log))

known_alone : (now : ℕ) (log : List (List Effect)) (l : Lease) (s : Standing) (b : Bool) → is_life l.field ≡ b → serves now l.field Exclusive s ≡ makes_known now l.field Exclusive l
    → (makes_known now (Life (file_of l.field)) Exclusive l && not (is_pending (file_of l.field) log)) ≡ (b && (serves now l.field Exclusive s && not (is_pending (file_of l.field) log)))
known_alone now log l s true e same =
    ap (λ f. makes_known now f Exclusive l && not (is_pending (file_of l.field) log)) (sym (life_is l.field e))
    ∙ ap (λ b. b && not (is_pending (file_of l.field) log)) (sym same)
known_alone now log l s false e same = ap (λ b. ((b && is_enough l.kind Exclusive) && nat_lt now l.until) && not (is_pending (file_of l.field) log)) (own_life l.field ∙ e)

pub unused_by : (now : ℕ) (log : List (List Effect)) (s : Standing) → is_unused now log s ≡ unused_on now log s (field_in s)
unused_by now log (Held l) = known_alone now log l (Held l) (is_life l.field) refl refl
unused_by now log (Pinned u) = known_alone now log u.lease (Pinned u) (is_life u.lease.field) refl refl
unused_by now log (Leaving l) = refl

-- it serves, and no entry makes its file
pub unused_parts : (now : ℕ) (log : List (List Effect)) (s : Standing) → is_unused now log s ≡ true → (serves now (Life (file_in s)) Exclusive s ≡ true) × (is_pending (file_in s) log ≡ false)
unused_parts now log s h = let q = both (serves now (Life (file_in s)) Exclusive s) (not (is_pending (file_in s) log)) h in (q.0, failed (is_pending (file_in s) log) q.1)
  where
    failed : (b : Bool) → not b ≡ true → b ≡ false
    failed true e = absurd (cc)
    failed false e = refl

-- its field is the life of that file
pub serving_field : (now : ℕ) (s : Standing) → serves now (Life (file_in s)) Exclusive s ≡ true → field_in s ≡ Some (Life (file_in s))
serving_field now (Held l) h = ap Some (on_it now l h)
serving_field now (Pinned u) h = ap Some (on_it now u.lease h)
serving_field now (Leaving l) h = absurd (cc)

-- ## Of a view

-- the lease that offers an identifier
pub record IsTheOffer (v : View) (now : ℕ) (dir : List ℕ) (k : ViewLease) : Type 0 where
  pub among : In k v.leases
  pub below : is_parent dir k.below ≡ true
  pub serving : serves now (Life (file_in k.standing)) Exclusive k.standing ≡ true
  pub unmade : is_pending (file_in k.standing) v.pending ≡ false

pub the_offer : (v : View) (now : ℕ) (dir : List ℕ) (k : ViewLease) → offered v now dir ≡ Some k → IsTheOffer v now dir k
unfolding offered
the_offer v now dir k h =
    let q = found (offers now dir v.pending) v.leases k h in
    let b = both (is_parent dir k.below) (is_unused now v.pending k.standing) q.1 in
    let u = unused_parts now v.pending k.standing b.1 in
    record { among = q.0; below = b.0; serving = u.0; unmade = u.1 }

parent_is : (dir : List ℕ) (o : Option (List ℕ)) → is_parent dir o ≡ true → o ≡ Some dir
parent_is dir None h = absurd (cc)
parent_is dir (Some other) h = ap Some (same_is other dir h)

is_parent_of : (dir : List ℕ) (o : Option (List ℕ)) → o ≡ Some dir → is_parent dir o ≡ true
is_parent_of dir o e = ap (is_parent dir) e ∙ same_self dir

-- an identifier that is there is offered
pub offered_is : (v : View) (now : ℕ) (dir id : List ℕ) → fresh v now dir ≡ Some id → IsOffered v now dir id
offered_is v now dir id h = by (offered v now dir) refl h
  where
    by : (o : Option ViewLease) → offered v now dir ≡ o → option_map (λ (k : ViewLease). file_in k.standing) o ≡ Some id → IsOffered v now dir id
    by None e g = absurd (cc)
    by (Some k) e g =
        let q : IsTheOffer v now dir k = the_offer v now dir k e in
        let file : file_in k.standing ≡ id = cc in
        record {
          lease = k;
          among = q.among;
          below = parent_is dir k.below q.below;
          file = file;
          serving = subst (λ i. serves now (Life i) Exclusive k.standing ≡ true) file q.serving;
          unmade = subst (λ i. is_pending i v.pending ≡ false) file q.unmade;
        }

pub none_offered : (v : View) (now : ℕ) (dir : List ℕ) → fresh v now dir ≡ None → NoneIsOffered v now dir
unfolding offered
none_offered v now dir h k i below serving =
    let all : find (offers now dir v.pending) v.leases ≡ None = absent (offered v now dir) h in
    let fails : offers now dir v.pending k ≡ false = none_pass (offers now dir v.pending) v.leases all k i in
    made (is_pending (file_in k.standing) v.pending)
    (sym (ap (λ b. b && (serves now (Life (file_in k.standing)) Exclusive k.standing && not (is_pending (file_in k.standing) v.pending))) (is_parent_of dir k.below below)
    ∙ ap (λ b. b && not (is_pending (file_in k.standing) v.pending)) serving) ∙ fails)
  where
    absent : (o : Option ViewLease) → option_map (λ (k : ViewLease). file_in k.standing) o ≡ None → o ≡ None
    absent None e = refl
    absent (Some x) e = absurd (cc)

    made : (b : Bool) → not b ≡ false → b ≡ true
    made true e = refl
    made false e = absurd (cc)

-- and the best lease on its life is used
pub used_by_best : (v : View) (now : ℕ) (dir id : List ℕ) → fresh v now dir ≡ Some id → IsUsedByBest v now dir id
used_by_best v now dir id h = by (taken v now (Life id) Exclusive) refl
  where
    by : (o : Option ViewLease) → taken v now (Life id) Exclusive ≡ o → IsUsedByBest v now dir id
    by (Some k) e = record { lease = k; taken = ap (option_and_then (λ (id : List ℕ). taken v now (Life id) Exclusive)) h ∙ e; best = taken_best v now (Life id) Exclusive k e }
    by None e =
        let q : IsOffered v now dir id = offered_is v now dir id h in
        let none = none_any (λ (k : ViewLease). serves now (Life id) Exclusive k.standing) v.leases (none_taken v now (Life id) Exclusive e) q.lease q.among in
        let wrong : true ≡ false = sym q.serving ∙ none in
        absurd (cc)

-- the lease that is used, by the field of the one that offers
abbrev by_field : View → ℕ → Option ViewLease → Option ViewLease
by_field v now o = option_and_then (λ (k : ViewLease). option_and_then (λ (f : Field). taken v now f Exclusive) (field_in k.standing)) o

taken_by_field : (v : View) (now : ℕ) (dir : List ℕ) → taken_fresh v now dir ≡ by_field v now (offered v now dir)
taken_by_field v now dir = by (offered v now dir) refl
  where
    by : (o : Option ViewLease) → offered v now dir ≡ o → option_and_then (λ (id : List ℕ). taken v now (Life id) Exclusive) (option_map (λ (k : ViewLease). file_in k.standing) o) ≡ by_field v now o
    by None e = refl
    by (Some k) e = let q : IsTheOffer v now dir k = the_offer v now dir k e in sym (ap (option_and_then (λ (f : Field). taken v now f Exclusive)) (serving_field now k.standing q.serving))

pub taken_for_none : (v : View) (now : ℕ) (dir : List ℕ) → None ≡ offered v now dir → None ≡ taken_fresh v now dir
taken_for_none v now dir h = ap (by_field v now) h ∙ sym (taken_by_field v now dir)

pub taken_off_field : (v : View) (now : ℕ) (dir : List ℕ) (k : ViewLease) → Some k ≡ offered v now dir → None ≡ field_in k.standing → None ≡ taken_fresh v now dir
taken_off_field v now dir k h e = ap (option_and_then (λ (f : Field). taken v now f Exclusive)) e ∙ ap (by_field v now) h ∙ sym (taken_by_field v now dir)

pub taken_on_field : (v : View) (now : ℕ) (dir : List ℕ) (k : ViewLease) (f : Field) → Some k ≡ offered v now dir → Some f ≡ field_in k.standing → taken v now f Exclusive ≡ taken_fresh v now dir
taken_on_field v now dir k f h e = ap (option_and_then (λ (f : Field). taken v now f Exclusive)) e ∙ ap (by_field v now) h ∙ sym (taken_by_field v now dir)

-- what is used is taken on a life
pub fresh_taken : (v : View) (now : ℕ) (dir : List ℕ) (k : ViewLease) → taken_fresh v now dir ≡ Some k → (id : List ℕ) × (taken v now (Life id) Exclusive ≡ Some k)
fresh_taken v now dir k h = by (fresh v now dir) h
  where
    by : (o : Option (List ℕ)) → option_and_then (λ (id : List ℕ). taken v now (Life id) Exclusive) o ≡ Some k → (id : List ℕ) × (taken v now (Life id) Exclusive ≡ Some k)
    by None e = absurd (cc)
    by (Some id) e = (id, e)
