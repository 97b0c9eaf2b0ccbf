-- Renewals and releases, one number after another.
use Rattle.std.proofs.Common.{◌≡◌, ℕ, not, ◌||◌, Bool, true, false, List, [], ◌∷◌, cond, map, refl, sym, ap, ◌∙◌, subst, inl, inr, arith}
use Rattle.std.specs.Prelude.{Option, Some, None}
use Rattle.std.specs.List.{filter, list_any}
use Rattle.fs_ident.specs.In.{In}
use Rattle.fs_ident.specs.declared.actor.LeaseNo.{LeaseNo}
use Rattle.fs_ident.specs.declared.actor.Session.{Session}
use Rattle.fs_ident.proofs.Standing.{In-map, any_In, In-mapped}
use Rattle.fs_field.specs.declared.row.Row.{Row}
use Rattle.fs_field.specs.Table.{has_no, renewed_row, same_no}
use Rattle.fs_field.proofs.Leases.{renewed_same}
use Rattle.fs_field.proofs.SameNo.{same_no_is}
use Rattle.fs_msg.specs.declared.item.Item.{Item}
use Rattle.fs_server.specs.Pairs.{end_told, ends_told, released_rows, renewed_rows}
use Rattle.fs_view.specs.ViewLease.{number_of}
use Rattle.fs_client.specs.Turns.{pair_of}
use Rattle.fs_serial.specs.Exchange.{IsReturned}
use Rattle.fs_serial.specs.Leases.{IsBacked}
use Rattle.fs_serial.specs.Settled.{Settled}
use Rattle.fs_serial.specs.Sight.{Sight}
use Rattle.fs_serial.specs.World.{Ends, GoesOn}
use Rattle.fs_serial.proofs.OneServer.LeaseChanges.{RowsChange, goes_still}
use Rattle.fs_serial.proofs.Grants.RowKinds.{ends_no_sooner, ends_then, row_goes, row_renewed, with_rows}

-- ## Renewals

pub rows_renewed : (skew greatest : ℕ) (s : Sight) (replied : Session → List Item) (ends : Session → Ends) (clients : Session → Settled) (until : ℕ) (ns : List LeaseNo) (rows : List Row) → GoesOn skew greatest (with_rows rows s) replied ends clients
    → GoesOn skew greatest (with_rows (renewed_rows until ns rows) s) replied ends clients
rows_renewed skew greatest s replied ends clients until [] rows h = h
rows_renewed skew greatest s replied ends clients until (n ∷ ns) rows h =
    rows_renewed skew greatest s replied ends clients until ns (map (renewed_row n until) rows)
    (goes_still skew greatest (with_rows rows s) (with_rows (map (renewed_row n until) rows) s) replied ends clients (row_renewed skew greatest (with_rows rows s) clients n until) h)

backed_then : (rows : List Row) (number n : LeaseNo) (until end : ℕ) → IsBacked rows number end → IsBacked (map (renewed_row n until) rows) number end
backed_then rows number n until end b =
    let last = b.lasts in
    let more = ends_no_sooner n until b.row in
    record { row = renewed_row n until b.row; stands = In-mapped (renewed_row n until) b.row rows b.stands; number = (renewed_same n until b.row).number ∙ b.number; lasts = omega arith }

pub backed_renewed : (until : ℕ) (ns : List LeaseNo) (rows : List Row) (number : LeaseNo) (end : ℕ) → IsBacked rows number end → IsBacked (renewed_rows until ns rows) number end
backed_renewed until [] rows number end b = b
backed_renewed until (n ∷ ns) rows number end b = backed_renewed until ns (map (renewed_row n until) rows) number end (backed_then rows number n until end b)

backed_now : (rows : List Row) (n : LeaseNo) (until : ℕ) → list_any (has_no n) rows ≡ true → IsBacked (map (renewed_row n until) rows) n until
backed_now rows n until h =
    let q = any_In (has_no n) rows h in
    record { row = renewed_row n until q.0; stands = In-mapped (renewed_row n until) q.0 rows q.1.0; number = (renewed_same n until q.0).number ∙ same_no_is q.0.no n q.1.1; lasts = ends_then n until q.0 q.1.1 }

any_then : (n m : LeaseNo) (until : ℕ) (rows : List Row) → list_any (has_no m) (map (renewed_row n until) rows) ≡ list_any (has_no m) rows
any_then n m until [] = refl
any_then n m until (r ∷ rs) = ap (λ x. same_no x m || list_any (has_no m) (map (renewed_row n until) rs)) (renewed_same n until r).number ∙ ap (λ b. has_no m r || b) (any_then n m until rs)

-- the rows that were renewed end no sooner than is told
pub told_backed : (until : ℕ) (ns : List LeaseNo) (rows : List Row) (n : LeaseNo) → In n ns → list_any (has_no n) rows ≡ true → IsBacked (renewed_rows until ns rows) n until
told_backed until [] rows n i h = absurd i
told_backed until (m ∷ ns) rows n (inl e) h = backed_renewed until ns (map (renewed_row m until) rows) n until (subst (λ x. IsBacked (map (renewed_row x until) rows) n until) e (backed_now rows n until h))
told_backed until (m ∷ ns) rows n (inr i) h = told_backed until ns (map (renewed_row m until) rows) n i (any_then m n until rows ∙ h)

told_of : (b : Bool) (until end : ℕ) → cond b (Some until) None ≡ Some end → (b ≡ true) × (until ≡ end)
told_of true until end h = (refl, cc)
told_of false until end h = absurd (cc)

pub ends_backed : (until : ℕ) (ns : List LeaseNo) (rows : List Row) (n : LeaseNo) (end : ℕ) → In (n, Some end) (ends_told until ns rows) → IsBacked (renewed_rows until ns rows) n end
ends_backed until ns rows n end i =
    let q = In-map (λ m. end_told until m rows) (n, Some end) ns i in
    let number : n ≡ q.0 = ap (λ (x : LeaseNo × Option ℕ). x.0) q.1.1 in
    let told : cond (list_any (has_no q.0) rows) (Some until) None ≡ Some end = sym (ap (λ (x : LeaseNo × Option ℕ). x.1) q.1.1) in
    let t = told_of (list_any (has_no q.0) rows) until end told in
    subst (λ u. IsBacked (renewed_rows until ns rows) n u) t.1 (subst (λ x. IsBacked (renewed_rows until ns rows) x until) (sym number) (told_backed until ns rows q.0 q.1.0 t.0))

-- ## Releases

pub rows_released : (skew greatest : ℕ) (s : Sight) (replied : Session → List Item) (ends : Session → Ends) (clients : Session → Settled) (by : Session) (ns : List LeaseNo) (rows : List Row) → ((n : LeaseNo) → In n ns → IsReturned (ends by).client.view.leases n) → GoesOn skew greatest (with_rows rows s) replied ends clients
    → GoesOn skew greatest (with_rows (released_rows ns rows) s) replied ends clients
rows_released skew greatest s replied ends clients by [] rows back h = h
rows_released skew greatest s replied ends clients by (n ∷ ns) rows back h =
    rows_released skew greatest s replied ends clients by ns (filter (λ r. not (has_no n r)) rows) (λ m i. back m (inr i))
    (goes_still skew greatest (with_rows rows s) (with_rows (filter (λ r. not (has_no n r)) rows) s) replied ends clients
    (row_gone rows n (back n (inl refl)) h) h)
  where
    row_gone : (rows : List Row) (n : LeaseNo) → IsReturned (ends by).client.view.leases n → GoesOn skew greatest (with_rows rows s) replied ends clients → RowsChange skew greatest (with_rows rows s) (with_rows (filter (λ r. not (has_no n r)) rows) s) clients
    row_gone rows n r h =
        let x : RowsChange skew greatest (with_rows rows s) (with_rows (filter (λ z. not (has_no (number_of r.kept.standing) z)) rows) s) clients = row_goes skew greatest (with_rows rows s) replied clients by (pair_of r.kept) h.all (h.carried.returns by r.kept r.among r.leaving) in
        subst (λ m. RowsChange skew greatest (with_rows rows s) (with_rows (filter (λ z. not (has_no m z)) rows) s) clients) r.number x
