-- The parcels among the messages between servers.
use Rattle.std.proofs.Common.{◌≡◌, ◌⊎◌, ◌+◌, ℕ, Bool, List, [], ◌∷◌, ◌++◌, refl, ap, sym, ◌∙◌, subst, inl, inr, append-nil, append_assoc, arith}
use Rattle.std.specs.Prelude.{IfSome, Option, Some, None}
use Rattle.std.specs.List.{cons_option, filter_map, find}
use Rattle.fs_ident.specs.In.{In}
use Rattle.fs_ident.proofs.Passing.{found}
use Rattle.fs_record.specs.declared.parcel.Parcel.{Parcel}
use Rattle.fs_serial.specs.Cluster.{InFlight, parcel_in, parcels_of, without_first}
use Rattle.fs_serial.proofs.Lists.Counted.{total, total_without}
use Rattle.fs_serial.proofs.Lists.SetAt.{In_either, In_without}

-- ## What is picked out of a list

first_picked : {X : Type 0} (o : Option X) (x : X) (xs : List X) → o ≡ Some x → In x (cons_option o xs)
first_picked None x xs e = absurd (cc)
first_picked (Some y) x xs e = let same : x ≡ y = cc in inl same

later_picked : {X : Type 0} (o : Option X) (x : X) (xs : List X) → In x xs → In x (cons_option o xs)
later_picked None x xs i = i
later_picked (Some y) x xs i = inr i

which_picked : {X : Type 0} (o : Option X) (x : X) (xs : List X) → In x (cons_option o xs) → (o ≡ Some x) ⊎ In x xs
which_picked None x xs i = inr i
which_picked (Some y) x xs (inl e) = inl (ap Some (sym e))
which_picked (Some y) x xs (inr i) = inr i

pub In_picked : {X Y : Type 0} (f : X → Option Y) (x : X) (y : Y) (xs : List X) → In x xs → f x ≡ Some y → In y (filter_map f xs)
In_picked f x y [] i e = absurd i
In_picked f x y (z ∷ xs) (inl q) e = first_picked (f z) y (filter_map f xs) (ap f (sym q) ∙ e)
In_picked f x y (z ∷ xs) (inr i) e = later_picked (f z) y (filter_map f xs) (In_picked f x y xs i e)

pub picked_of : {X Y : Type 0} (f : X → Option Y) (y : Y) (xs : List X) → In y (filter_map f xs) → (x : X) × (In x xs × (f x ≡ Some y))
picked_of f y [] i = absurd i
picked_of {X = X} f y (z ∷ xs) i = elim (which_picked (f z) y (filter_map f xs) i) as (λ _. (x : X) × (In x (z ∷ xs) × (f x ≡ Some y))) [
  | inl e ↦ (z, (inl refl, e))
  | inr j ↦ let q = picked_of f y xs j in (q.0, (inr q.1.0, q.1.1))
]

front_picked : {X : Type 0} (o : Option X) (xs ys : List X) → cons_option o (xs ++ ys) ≡ cons_option o xs ++ ys
front_picked None xs ys = refl
front_picked (Some x) xs ys = refl

pub picked_more : {X : Type 0} (xs : List X) (o : Option X) (ys : List X) → (xs ++ cons_option o []) ++ ys ≡ xs ++ cons_option o ys
picked_more xs None ys = ap (λ zs. zs ++ ys) (append-nil xs)
picked_more xs (Some x) ys = append_assoc xs (x ∷ []) ys

-- ## What is said of the parcel that a message brings, if it brings one

pub if_some : {X : Type 0} (P Q : X → Type 0) → ((x : X) → P x → Q x) → (o : Option X) → IfSome o P → IfSome o Q
if_some P Q h None p = tt
if_some P Q h (Some x) p = h x p

pub at_some : {X : Type 0} (P : X → Type 0) (o : Option X) (x : X) → o ≡ Some x → IfSome o P → P x
at_some P o x e h = subst (λ q. IfSome q P) e h

-- ## A parcel is among them just where its message is on its way

pub In_parcels : (p : Parcel) (f : InFlight) (fs : List InFlight) → In f fs → parcel_in f.message ≡ Some p → In p (parcels_of fs)
In_parcels p f fs i e = In_picked (λ (g : InFlight). parcel_in g.message) f p fs i e

pub parcel_flies : (p : Parcel) (fs : List InFlight) → In p (parcels_of fs) → (f : InFlight) × (In f fs × (parcel_in f.message ≡ Some p))
parcel_flies p fs i = picked_of (λ (g : InFlight). parcel_in g.message) p fs i

pub parcels-append : (fs gs : List InFlight) → parcels_of (fs ++ gs) ≡ parcels_of fs ++ parcels_of gs
parcels-append [] gs = refl
parcels-append (f ∷ fs) gs = ap (cons_option (parcel_in f.message)) (parcels-append fs gs) ∙ front_picked (parcel_in f.message) (parcels_of fs) (parcels_of gs)

-- ## Sums over them

abbrev amount : (Parcel → ℕ) → Option Parcel → ℕ
amount g None = 0
amount g (Some p) = g p

amount_first : (g : Parcel → ℕ) (o : Option Parcel) (ps : List Parcel) → total g (cons_option o ps) ≡ amount g o + total g ps
amount_first g None ps = omega arith
amount_first g (Some p) ps = refl

total_parcels : (g : Parcel → ℕ) (fs : List InFlight)
    → total g (parcels_of fs) ≡ total (λ (f : InFlight). amount g (parcel_in f.message)) fs
total_parcels g [] = refl
total_parcels g (f ∷ fs) = amount_first g (parcel_in f.message) (parcels_of fs) ∙ ap (λ n. amount g (parcel_in f.message) + n) (total_parcels g fs)

-- ## Without the first message of a kind

pub taken_less : (is : InFlight → Bool) (fs : List InFlight) (x : Parcel) → In x (parcels_of (without_first is fs)) → In x (parcels_of fs)
taken_less is fs x i = let q = parcel_flies x (without_first is fs) i in In_parcels x q.0 fs (In_without is fs q.0 q.1.0) q.1.1

-- which brings a parcel
module _ (is : InFlight → Bool) (fs : List InFlight) (f : InFlight) (way : find is fs ≡ Some f) (p : Parcel) (of : parcel_in f.message ≡ Some p) where
  pub taken_there : In p (parcels_of fs)
  taken_there = In_parcels p f fs (found is fs f way).0 of

  pub taken_either : (x : Parcel) → In x (parcels_of fs) → (x ≡ p) ⊎ In x (parcels_of (without_first is fs))
  taken_either x i =
      let q = parcel_flies x fs i in
      elim (In_either is fs f q.0 way q.1.0) as (λ _. (x ≡ p) ⊎ In x (parcels_of (without_first is fs))) [
        | inl e ↦ let both : Some x ≡ Some p = sym q.1.1 ∙ ap (λ (g : InFlight). parcel_in g.message) e ∙ of in let same : x ≡ p = cc in inl same
        | inr j ↦ inr (In_parcels x q.0 (without_first is fs) j q.1.1)
      ]

  pub taken_total : (g : Parcel → ℕ) → total g (parcels_of fs) ≡ g p + total g (parcels_of (without_first is fs))
  taken_total g =
      total_parcels g fs
      ∙ total_without (λ (h : InFlight). amount g (parcel_in h.message)) is fs f way
      ∙ ap (λ o. amount g o + total (λ (h : InFlight). amount g (parcel_in h.message)) (without_first is fs)) of
      ∙ ap (λ n. g p + n) (sym (total_parcels g (without_first is fs)))
