-- What a view's answer stands on.
use Rattle.std.proofs.Common.{◌≡◌, ℕ, ◌&&◌, ◌⊎◌, Bool, true, false, List, [], ◌∷◌, refl, sym, ap, ◌∙◌, subst, inl, inr, cond}
use Rattle.std.specs.Prelude.{Option, Some, None, is_some, nat_lt, option_map}
use Rattle.std.specs.Option.{option_and_then}
use Rattle.std.specs.List.{filter_map, cons_option}
use Rattle.fs_ident.specs.In.{In}
use Rattle.fs_ident.proofs.Booleans.{both}
use Rattle.fs_field.specs.declared.asked.Need.{Need}
use Rattle.fs_field.specs.declared.asked.Need.TheVariants as need
use Rattle.fs_field.specs.declared.field.Field.{Field}
use Rattle.fs_field.specs.declared.field.Field.TheVariants.{Life}
use Rattle.fs_field.specs.declared.lease_kind.LeaseKind.{LeaseKind}
use Rattle.fs_field.specs.declared.lease_kind.LeaseKind.TheVariants.{Exclusive}
use Rattle.fs_field.specs.declared.used.Use.{Use}
use Rattle.fs_field.specs.Field.{same_field}
use Rattle.fs_field.specs.Table.{is_parent}
use Rattle.fs_lease.specs.Lease.{Lease as Term}
use Rattle.fs_model.specs.declared.op.Op.{Op}
use Rattle.fs_view.specs.declared.view_lease.ViewLease.{ViewLease}
use Rattle.fs_view.specs.declared.view_lease.Standing.{Standing}
use Rattle.fs_view.specs.declared.view_lease.Standing.TheVariants.{Held, Pinned, Leaving}
use Rattle.fs_view.specs.ViewLease.{file_in, lease_of, use_of, use_in, serves, makes_known, is_enough, is_better, is_pending}
use Rattle.fs_view.specs.Laws.{IsUsedByBest}
use Rattle.fs_view.specs.Script.{Script, answer, ask, give}
use Rattle.fs_view.specs.View.{View, taken, taken_from, known_by, offered, fresh, given_by, item_use, uses_in, walk_in, value_after_log}
use Rattle.fs_view.specs.Walk.{Known, Given, walk_along, behind, is_there}
use Rattle.fs_view.proofs.Offering.{IsTheOffer, the_offer, used_by_best}
use Rattle.fs_serial.proofs.Admission.Rowed.{same_field_is}

-- ## Lists

pub In-filter_map : {X Y : Type 0} (f : X → Option Y) (x : X) (y : Y) (xs : List X) → In x xs → f x ≡ Some y → In y (filter_map f xs)
In-filter_map f x y [] i e = absurd i
In-filter_map f x y (z ∷ xs) (inl q) e = subst (λ o. In y (cons_option o (filter_map f xs))) (sym (ap f (sym q) ∙ e)) (inl refl)
In-filter_map f x y (z ∷ xs) (inr i) e = behind_it (f z) (In-filter_map f x y xs i e)
  where
    behind_it : (o : Option _) → In y (filter_map f xs) → In y (cons_option o (filter_map f xs))
    behind_it None j = j
    behind_it (Some w) j = inr j

pub from-filter_map : {X Y : Type 0} (f : X → Option Y) (y : Y) (xs : List X) → In y (filter_map f xs) → (x : X) × In x xs × (f x ≡ Some y)
from-filter_map f y [] i = absurd i
from-filter_map f y (z ∷ xs) i = split (f z) refl i (from-filter_map f y xs)
  where
    split : (o : Option _) → f z ≡ o → In y (cons_option o (filter_map f xs)) → (In y (filter_map f xs) → (x : _) × In x xs × (f x ≡ Some y)) → (x : _) × In x (z ∷ xs) × (f x ≡ Some y)
    split None e j rec = let q = rec j in (q.0, inr q.1, q.2)
    split (Some w) e (inl h) rec = (z, inl refl, e ∙ ap Some (sym h))
    split (Some w) e (inr j) rec = let q = rec j in (q.0, inr q.1, q.2)

-- ## Walks that come to a reply

there_behind : (known : Known) (given : Given) (need : Need) (b : Bool) (w : _) → is_there known given need ≡ b → is_some (behind need b w).reply ≡ true → (is_some w.reply ≡ true → (n : Need) → In n w.items → is_there known given n ≡ true) → (n : Need) → In n (behind need b w).items → is_there known given n ≡ true
there_behind known given need true w e h rec n (inl q) = ap (is_there known given) q ∙ e
there_behind known given need true w e h rec n (inr i) = rec h n i
there_behind known given need false w e h rec n i = absurd (cc)

-- all that it asked for was there
pub all_there : (known : Known) (given : Given) (s : Script) → is_some (walk_along known given s).reply ≡ true → (n : Need) → In n (walk_along known given s).items → is_there known given n ≡ true
all_there known given (answer r) h n i = absurd i
all_there known given (ask field kind go) h n i = there_behind known given (need.Lease field kind) (is_some (known field kind)) (walk_along known given (go (known field kind))) refl h (all_there known given (go (known field kind))) n i
all_there known given (give dir go) h n i = there_behind known given (need.Fresh dir) (given dir) (walk_along known given go) refl h (all_there known given go) n i

-- ## Leases that are taken

taken_among : (now : ℕ) (field : Field) (kind : LeaseKind) (best : Option ViewLease) (ks : List ViewLease) (x : ViewLease) → taken_from now field kind best ks ≡ Some x → (best ≡ Some x) ⊎ (In x ks × (serves now field kind x.standing ≡ true))
taken_among now field kind best [] x h = inl h
taken_among now field kind best (k ∷ ks) x h = split (serves now field kind k.standing && is_better k best) refl (taken_among now field kind (cond (serves now field kind k.standing && is_better k best) (Some k) best) ks x h)
  where
    split : (b : Bool) → (serves now field kind k.standing && is_better k best) ≡ b → ((cond b (Some k) best ≡ Some x) ⊎ (In x ks × (serves now field kind x.standing ≡ true))) → (best ≡ Some x) ⊎ (((x ≡ k) ⊎ In x ks) × (serves now field kind x.standing ≡ true))
    split true t (inl e) = let same : k ≡ x = cc in inr (inl (sym same), ap (λ (y : ViewLease). serves now field kind y.standing) (sym same) ∙ (both (serves now field kind k.standing) (is_better k best) t).0)
    split false t (inl e) = inl e
    split b t (inr q) = inr (inr q.0, q.1)

pub record IsServing (now : ℕ) (field : Field) (kind : LeaseKind) (s : Standing) : Type 0 where
  pub lease : Term
  pub is : lease_of s ≡ Some lease
  pub on : lease.field ≡ field
  pub enough : is_enough lease.kind kind ≡ true
  pub live : nat_lt now lease.until ≡ true

known_of : (now : ℕ) (field : Field) (kind : LeaseKind) (l : Term) → makes_known now field kind l ≡ true → (l.field ≡ field) × (is_enough l.kind kind ≡ true) × (nat_lt now l.until ≡ true)
known_of now field kind l h =
    let p = both (same_field l.field field && is_enough l.kind kind) (nat_lt now l.until) h in
    let q = both (same_field l.field field) (is_enough l.kind kind) p.0 in
    (same_field_is l.field field q.0, q.1, p.1)

serving : (now : ℕ) (field : Field) (kind : LeaseKind) (s : Standing) → serves now field kind s ≡ true → IsServing now field kind s
serving now field kind (Held l) h = let q = known_of now field kind l h in record { lease = l; is = refl; on = q.0; enough = q.1; live = q.2 }
serving now field kind (Pinned u) h = let q = known_of now field kind u.lease h in record { lease = u.lease; is = refl; on = q.0; enough = q.1; live = q.2 }
serving now field kind (Leaving l) h = absurd (cc)

-- a field that is known is known by a lease
pub record IsKnown (v : View) (now : ℕ) (field : Field) (kind : LeaseKind) : Type 0 where
  pub kept : ViewLease
  pub among : In kept v.leases
  pub serving : IsServing now field kind kept.standing
  pub used : item_use v now (need.Lease field kind) ≡ Some (use_of serving.lease)
  pub value : known_by v now field kind ≡ Some (value_after_log v.session field kept.base v.pending)

known_there : (v : View) (now : ℕ) (field : Field) (kind : LeaseKind) (o : Option ViewLease) → taken v now field kind ≡ o → is_some (known_by v now field kind) ≡ true → IsKnown v now field kind
unfolding known_by taken
known_there v now field kind None e h = absurd (let q : false ≡ true = ap (λ o. is_some (option_map (λ (k : ViewLease). value_after_log v.session field k.base v.pending) o)) (sym e) ∙ h in cc)
known_there v now field kind (Some x) e h =
    let q = in_leases e in
    let s = serving now field kind x.standing q.1 in
    record {
      kept = x;
      among = q.0;
      serving = s;
      used = ap (λ o. option_and_then (λ (k : ViewLease). use_in k.standing) o) e ∙ ap (λ o. option_map use_of o) s.is;
      value = ap (λ o. option_map (λ (k : ViewLease). value_after_log v.session field k.base v.pending) o) e;
    }
  where
    in_leases : taken v now field kind ≡ Some x → In x v.leases × (serves now field kind x.standing ≡ true)
    in_leases e = elim (taken_among now field kind None v.leases x e) as (λ _. In x v.leases × (serves now field kind x.standing ≡ true)) [ inl p ↦ absurd (cc) | inr p ↦ p ]

pub known_by_lease : (v : View) (now : ℕ) (field : Field) (kind : LeaseKind) → is_some (known_by v now field kind) ≡ true → IsKnown v now field kind
known_by_lease v now field kind h = known_there v now field kind (taken v now field kind) refl h

-- ## Identifiers that are offered

-- the first lease that offers one, and the best on the life of that file
pub record IsOffered (v : View) (now : ℕ) (dir : List ℕ) : Type 0 where
  pub kept : ViewLease
  pub among : In kept v.leases
  pub serving : IsServing now (Life (file_in kept.standing)) Exclusive kept.standing
  pub below : is_parent dir kept.below ≡ true
  pub unmade : is_pending (file_in kept.standing) v.pending ≡ false
  pub fresh : fresh v now dir ≡ Some (file_in kept.standing)
  pub best : ViewLease
  pub listed : In best v.leases
  pub taken : IsServing now (Life (file_in kept.standing)) Exclusive best.standing
  pub used : item_use v now (need.Fresh dir) ≡ Some (use_of taken.lease)

offered_there : (v : View) (now : ℕ) (dir : List ℕ) (o : Option ViewLease) → offered v now dir ≡ o → is_some o ≡ true → IsOffered v now dir
offered_there v now dir None e h = absurd (cc)
offered_there v now dir (Some x) e h =
    let q : IsTheOffer v now dir x = the_offer v now dir x e in
    let is : fresh v now dir ≡ Some (file_in x.standing) = ap (option_map (λ (k : ViewLease). file_in k.standing)) e in
    let b : IsUsedByBest v now dir (file_in x.standing) = used_by_best v now dir (file_in x.standing) is in
    let s = serving now (Life (file_in x.standing)) Exclusive b.lease.standing b.best.serving in
    record {
      kept = x;
      among = q.among;
      serving = serving now (Life (file_in x.standing)) Exclusive x.standing q.serving;
      below = q.below;
      unmade = q.unmade;
      fresh = is;
      best = b.lease;
      listed = b.best.among;
      taken = s;
      used = ap (λ o. option_and_then (λ (k : ViewLease). use_in k.standing) o) b.taken ∙ ap (λ o. option_map use_of o) s.is;
    }

pub offered_by_lease : (v : View) (now : ℕ) (dir : List ℕ) → given_by v now dir ≡ true → IsOffered v now dir
offered_by_lease v now dir h = offered_there v now dir (offered v now dir) refl h

-- ## Uses

-- an item that is there has its use among the uses
pub used_there : (v : View) (now : ℕ) (o : Op) (n : Need) (u : Use) → In n (walk_in v now o).items → item_use v now n ≡ Some u → In u (uses_in v now o)
used_there v now o n u i e = In-filter_map (item_use v now) n u (walk_in v now o).items i e

-- ## Where a use comes from

pub record IsUseOf (v : View) (now : ℕ) (u : Use) : Type 0 where
  pub kept : ViewLease
  pub among : In kept v.leases
  pub lease : Term
  pub is : lease_of kept.standing ≡ Some lease
  pub used : use_of lease ≡ u
  pub live : nat_lt now lease.until ≡ true

pub use_from : (v : View) (now : ℕ) (o : Op) (u : Use) → is_some (walk_in v now o).reply ≡ true → In u (uses_in v now o) → IsUseOf v now u
use_from v now o u h i =
    let q = from-filter_map (item_use v now) u (walk_in v now o).items i in
    of_item q.0 (all_there (known_by v now) (given_by v now) _ h q.0 q.1) q.2
  where
    of_item : (n : Need) → is_there (known_by v now) (given_by v now) n ≡ true → item_use v now n ≡ Some u → IsUseOf v now u
    of_item (need.Lease field kind) t e = let k = known_by_lease v now field kind t in record { kept = k.kept; among = k.among; lease = k.serving.lease; is = k.serving.is; used = cc (k.used, e); live = k.serving.live }
    of_item (need.Fresh dir) t e = let k = offered_by_lease v now dir t in record { kept = k.best; among = k.listed; lease = k.taken.lease; is = k.taken.is; used = cc (k.used, e); live = k.taken.live }
