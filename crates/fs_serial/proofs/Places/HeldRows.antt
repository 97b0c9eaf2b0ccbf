-- The rows of all: those that some server or some parcel has.
use Rattle.std.proofs.Common.{◌≡◌, ◌⊎◌, ◌≤◌, ℕ, true, false, List, [], ◌∷◌, refl, ap, sym, ◌∙◌, subst, inl, inr, arith}
use Rattle.std.specs.Ordering.{nat_cmp, is_lt, ordering_then}
use Rattle.std.proofs.lemmas.Bool.Decides.{nat_tests}
use Rattle.fs_ident.specs.In.{In}
use Rattle.fs_ident.specs.declared.actor.LeaseNo.{LeaseNo}
use Rattle.fs_ident.proofs.Booleans.{both as both_hold}
use Rattle.fs_ident.proofs.Passing.{all-In}
use Rattle.fs_field.specs.Table.{is_ordered, no_before}
use Rattle.fs_field.specs.declared.row.Row.{Row}
use Rattle.fs_moderows.proofs.Moves.{came_or_was}
use Rattle.fs_parcel.proofs.Both.{leads, later}
use Rattle.fs_record.specs.declared.parcel.Parcel.{Parcel}
use Rattle.fs_rows.specs.Granted.{with_rows}
use Rattle.fs_server.specs.declared.state.Server.{Server}
use Rattle.fs_serial.specs.Joined.{rows_of_all, with_rows_in, with_rows_of}
use Rattle.fs_serial.proofs.Places.PutRows.{In-puts_here, In-puts_still}
use Rattle.fs_serial.proofs.Lists.Times.{all_ordered, times_in}

-- ## Who has a row

abbrev pub IsAtServer : List Server → Row → Type 0
IsAtServer servers r = (s : Server) × In s servers × In r s.rows

abbrev pub IsInParcel : List Parcel → Row → Type 0
IsInParcel parcels r = (p : Parcel) × In p parcels × In r p.rows

abbrev pub HasRow : List Server → List Parcel → Row → Type 0
HasRow servers parcels r = IsAtServer servers r ⊎ IsInParcel parcels r

server_kept : (servers : List Server) (rows : List Row) (r : Row) → In r rows → In r (with_rows_of servers rows)
server_kept [] rows r i = i
server_kept (s ∷ ss) rows r i = server_kept ss (with_rows s.rows rows) r (In-puts_still r s.rows rows i)

server_has : (servers : List Server) (rows : List Row) (r : Row) (s : Server) → In s servers → In r s.rows → In r (with_rows_of servers rows)
server_has [] rows r s i j = absurd i
server_has (t ∷ ts) rows r s (inl e) j = server_kept ts (with_rows t.rows rows) r (In-puts_here r t.rows rows (subst (λ (x : Server). In r x.rows) e j))
server_has (t ∷ ts) rows r s (inr i) j = server_has ts (with_rows t.rows rows) r s i j

parcel_kept : (parcels : List Parcel) (rows : List Row) (r : Row) → In r rows → In r (with_rows_in parcels rows)
parcel_kept [] rows r i = i
parcel_kept (p ∷ ps) rows r i = parcel_kept ps (with_rows p.rows rows) r (In-puts_still r p.rows rows i)

parcel_has : (parcels : List Parcel) (rows : List Row) (r : Row) (p : Parcel) → In p parcels → In r p.rows → In r (with_rows_in parcels rows)
parcel_has [] rows r p i j = absurd i
parcel_has (q ∷ qs) rows r p (inl e) j = parcel_kept qs (with_rows q.rows rows) r (In-puts_here r q.rows rows (subst (λ (x : Parcel). In r x.rows) e j))
parcel_has (q ∷ qs) rows r p (inr i) j = parcel_has qs (with_rows q.rows rows) r p i j

pub row_of_all : (servers : List Server) (parcels : List Parcel) (r : Row) → HasRow servers parcels r → In r (rows_of_all servers parcels)
row_of_all servers parcels r (inl h) = parcel_kept parcels (with_rows_of servers []) r (server_has servers [] r h.0 h.1 h.2)
row_of_all servers parcels r (inr h) = parcel_has parcels (with_rows_of servers []) r h.0 h.1 h.2

of_server : (servers : List Server) (rows : List Row) (r : Row) → In r (with_rows_of servers rows) → IsAtServer servers r ⊎ In r rows
of_server [] rows r i = inr i
of_server (s ∷ ss) rows r i = elim (of_server ss (with_rows s.rows rows) r i) as (λ _. IsAtServer (s ∷ ss) r ⊎ In r rows) [
  | inl h ↦ inl (h.0, inr h.1, h.2)
  | inr j ↦ elim (came_or_was r s.rows rows j) as (λ _. IsAtServer (s ∷ ss) r ⊎ In r rows) [ inl l ↦ inl (s, inl refl, l) | inr l ↦ inr l ]
]

of_parcel : (parcels : List Parcel) (rows : List Row) (r : Row) → In r (with_rows_in parcels rows) → IsInParcel parcels r ⊎ In r rows
of_parcel [] rows r i = inr i
of_parcel (p ∷ ps) rows r i = elim (of_parcel ps (with_rows p.rows rows) r i) as (λ _. IsInParcel (p ∷ ps) r ⊎ In r rows) [
  | inl h ↦ inl (h.0, inr h.1, h.2)
  | inr j ↦ elim (came_or_was r p.rows rows j) as (λ _. IsInParcel (p ∷ ps) r ⊎ In r rows) [ inl l ↦ inl (p, inl refl, l) | inr l ↦ inr l ]
]

pub all_has_row : (servers : List Server) (parcels : List Parcel) (r : Row) → In r (rows_of_all servers parcels) → HasRow servers parcels r
all_has_row servers parcels r i = elim (of_parcel parcels (with_rows_of servers []) r i) as (λ _. HasRow servers parcels r) [
  | inl h ↦ inr h
  | inr j ↦ elim (of_server servers [] r j) as (λ _. HasRow servers parcels r) [ inl h ↦ inl h | inr z ↦ absurd z ]
]

-- ## Lists in order with the same rows

never_first : (a b : ℕ) → is_lt (ordering_then (nat_cmp a a) (nat_cmp b b)) ≡ false
never_first a b = grind (arith, nat_tests)

-- the first of both is one
one_first : (x y : Row) (xs ys : List Row) → leads x xs ≡ true → leads y ys ≡ true → (x ≡ y) ⊎ In x ys → (y ≡ x) ⊎ In y xs → x ≡ y
one_first x y xs ys p q (inl e) j = e
one_first x y xs ys p q (inr i) (inl e) = sym e
one_first x y xs ys p q (inr i) (inr j) =
    let wrong : true ≡ false = sym (all-In (λ s. no_before y.no s.no) ys q x i) ∙ later x.no.server x.no.count y.no.server y.no.count (all-In (λ s. no_before x.no s.no) xs p y j) in
    absurd (cc)

-- what is behind the first in one list is behind it in the other
behind_too : (x y r : Row) (xs ys : List Row) → x ≡ y → leads x xs ≡ true → In r xs → (r ≡ y) ⊎ In r ys → In r ys
behind_too x y r xs ys e p i (inr j) = j
behind_too x y r xs ys e p i (inl d) =
    let own : no_before x.no x.no ≡ true = ap (λ (z : Row). no_before x.no z.no) (e ∙ sym d) ∙ all-In (λ s. no_before x.no s.no) xs p r i in
    let wrong : true ≡ false = sym own ∙ never_first x.no.server x.no.count in
    absurd (cc)

pub one_order : (xs ys : List Row) → is_ordered xs ≡ true → is_ordered ys ≡ true → ((r : Row) → In r xs → In r ys) → ((r : Row) → In r ys → In r xs) → xs ≡ ys
one_order [] [] o p f g = refl
one_order [] (y ∷ ys) o p f g = absurd (g y (inl refl))
one_order (x ∷ xs) [] o p f g = absurd (f x (inl refl))
one_order (x ∷ xs) (y ∷ ys) o p f g =
    let a : (leads x xs ≡ true) × (is_ordered xs ≡ true) = both_hold (leads x xs) (is_ordered xs) o in
    let b : (leads y ys ≡ true) × (is_ordered ys ≡ true) = both_hold (leads y ys) (is_ordered ys) p in
    let e : x ≡ y = one_first x y xs ys a.0 b.0 (f x (inl refl)) (g y (inl refl)) in
    let rest : xs ≡ ys = one_order xs ys a.1 b.1 (λ r i. behind_too x y r xs ys e a.0 i (f r (inr i))) (λ r i. behind_too y x r ys xs (sym e) b.0 i (g r (inr i))) in
    ap (λ z. z ∷ xs) e ∙ ap (λ zs. y ∷ zs) rest

-- where the same rows are had, and no number is there twice, the rows of all are the same
pub same_rows : (servers later : List Server) (parcels now : List Parcel)
    → is_ordered (rows_of_all servers parcels) ≡ true → ((n : LeaseNo) → times_in n later now ≤ 1)
    → ((r : Row) → HasRow servers parcels r → HasRow later now r) → ((r : Row) → HasRow later now r → HasRow servers parcels r)
    → rows_of_all later now ≡ rows_of_all servers parcels
same_rows servers later parcels now o h f g = one_order (rows_of_all later now) (rows_of_all servers parcels) (all_ordered later now h) o
    (λ r i. row_of_all servers parcels r (g r (all_has_row later now r i)))
    (λ r i. row_of_all later now r (f r (all_has_row servers parcels r i)))
