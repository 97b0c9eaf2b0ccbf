-- The rows of all, where one server locks and unlocks rows of its own.
use Rattle.std.proofs.Common.{◌≡◌, ℕ, true, false, List, [], ◌∷◌, map, cond, refl, sym, ap, ◌∙◌, subst, inl, inr}
use Rattle.std.specs.Prelude.{None, Option, Some, slice_get, slice_set}
use Rattle.fs_ident.specs.In.{In}
use Rattle.fs_ident.specs.declared.actor.TxnNo.{TxnNo}
use Rattle.fs_ident.proofs.Standing.{In-front, In-map}
use Rattle.fs_field.specs.Field.{file_of}
use Rattle.fs_field.specs.Table.{has_no, is_lock_of, is_ordered, same_no, unlocked_row}
use Rattle.fs_field.specs.declared.row.Row.{Row}
use Rattle.fs_field.proofs.Order.{ordered_map}
use Rattle.fs_parcel.proofs.Both.{map_with_rows}
use Rattle.fs_rows.specs.Granted.{with_rows}
use Rattle.fs_server.specs.Server.{is_mine}
use Rattle.fs_server.specs.declared.state.Server.{Server}
use Rattle.fs_serial.specs.Cluster.{Cluster, parcels_of}
use Rattle.fs_serial.specs.Joined.{rows_of_all}
use Rattle.fs_serial.specs.Locks.{IsRelock, at_home}
use Rattle.fs_serial.specs.Places.{PlacesHold}
use Rattle.fs_serial.specs.Refusals.{rows_in}
use Rattle.fs_serial.proofs.Places.ClusterPlaces.{IsBetween, all_here, apart_of, between, own_home, rest_of, rows_joined, rows_of_servers}
use Rattle.fs_serial.proofs.Places.OtherPlaces.{IsApart, Rest}
use Rattle.fs_serial.proofs.Places.PutRows.{IsOther, puts_other}

-- what is the same of each is the same of all
pub map_alike : {X Y : Type 0} (f g : X → Y) (xs : List X) → ((x : X) → In x xs → f x ≡ g x) → map f xs ≡ map g xs
map_alike f g [] h = refl
map_alike f g (x ∷ xs) h = ap (λ y. y ∷ map f xs) (h x (inl refl)) ∙ ap (λ ys. g x ∷ ys) (map_alike f g xs (λ y i. h y (inr i)))

pub map_itself : {X : Type 0} (xs : List X) → map (λ x. x) xs ≡ xs
map_itself [] = refl
map_itself (x ∷ xs) = ap (λ ys. x ∷ ys) (map_itself xs)

module _ (s : Server) (f : Row → Row) where
  home_row : (r : Row) → is_mine s (file_of r.field) ≡ true → at_home s f r ≡ f r
  home_row r mine = ap (λ b. cond b (f r) r) mine

  other_row : (r : Row) → is_mine s (file_of r.field) ≡ false → at_home s f r ≡ r
  other_row r off = ap (λ b. cond b (f r) r) off

  same_number : IsRelock f → (r : Row) → (f r).no ≡ r.no
  same_number is r = ap (λ (x : Row). x.no) (is r).1

  pub home_relock : IsRelock f → IsRelock (at_home s f)
  home_relock is r =
      elim (is_mine s (file_of r.field)) as (λ b. (lock : Option TxnNo) × (cond b (f r) r ≡ record r { lock = lock })) [
        | true ↦ is r
        | false ↦ (r.lock, refl)
      ]

pub unlocked_relock : (txn : TxnNo) → IsRelock (unlocked_row txn)
unlocked_relock txn r =
    elim (is_lock_of txn r.lock) as (λ b. (lock : Option TxnNo) × (cond b (record r { lock = None }) r ≡ record r { lock = lock })) [
      | true ↦ (None, refl)
      | false ↦ (r.lock, refl)
    ]

module _ (k : ℕ) (c : Cluster) (s t : Server) (at : slice_get c.servers k ≡ Some s) (places : PlacesHold c)
    (f : Row → Row) (is : IsRelock f) (rows : t.rows ≡ map f s.rows) where
  b : IsBetween c.servers k s
  b = between c.servers k s at

  abbrev rest : Rest
  rest = rest_of b.front b.back (parcels_of c.in_flight)

  apart : IsApart rest s
  apart = apart_of c k s places b

  ordered : is_ordered t.rows ≡ true
  ordered = subst (λ rs. is_ordered rs ≡ true) (sym rows) (ordered_map f (same_number s f is) s.rows (own_home c k s places b).ordered)

  other : (x : Row) → In x (rows_of_servers b.front) → IsOther x t.rows
  other x i y j =
      let q = In-map f y s.rows (subst (In y) rows j) in
      ap (has_no x.no) q.1.1 ∙ ap (λ n. same_no n x.no) (same_number s f is q.0)
      ∙ puts_other rest.rows s.rows apart.ordered x (In-front x (rows_of_servers b.front) _ i) q.0 q.1.0

  pub rows_relocked : rows_of_all (slice_set c.servers k t) (parcels_of c.in_flight) ≡ map (at_home s f) (rows_in c)
  rows_relocked =
      ap (λ ss. rows_of_all ss (parcels_of c.in_flight)) (b.set t)
      ∙ rows_joined b.front b.back (parcels_of c.in_flight) t ordered other
      ∙ ap (with_rows rest.rows) (rows ∙ sym (map_alike (at_home s f) f s.rows (λ r i. home_row s f r (apart.own_rows r i))))
      ∙ ap (λ rs. with_rows rs (map (at_home s f) s.rows))
      (sym (map_alike (at_home s f) (λ r. r) rest.rows (λ r i. other_row s f r (apart.rows r i)) ∙ map_itself rest.rows))
      ∙ sym (map_with_rows (at_home s f) (same_number s (at_home s f) (home_relock s f is)) rest.rows s.rows)
      ∙ ap (λ (u : Server). map (at_home s f) u.rows) (sym (all_here c k s places b))
