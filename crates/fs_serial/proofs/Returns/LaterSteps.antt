-- No renewal and no release makes a row with an old number.
use Rattle.std.proofs.Common.{ℕ, not, List, [], ◌∷◌, map, sym, ap, ◌∙◌, arith}
use Rattle.std.specs.List.{filter}
use Rattle.fs_ident.specs.In.{In}
use Rattle.fs_ident.specs.declared.actor.LeaseNo.{LeaseNo}
use Rattle.fs_ident.proofs.Standing.{In-filter, In-map}
use Rattle.fs_field.specs.declared.row.Row.{Row}
use Rattle.fs_field.specs.Table.{has_no, renewed_row}
use Rattle.fs_field.proofs.Leases.{renewed_same}
use Rattle.fs_server.specs.Pairs.{released_rows, renewed_rows}
use Rattle.fs_serial.specs.Relies.{Stood}
use Rattle.fs_serial.proofs.OtherSessions.Older.{IsLater, later_among, stood_again, stood_here}

renewed_stood : (rows : List Row) (n : LeaseNo) (until : ℕ) (r : Row) → In r (map (renewed_row n until) rows) → Stood rows r
renewed_stood rows n until r i =
    let q = In-map (renewed_row n until) r rows i in
    let same = renewed_same n until q.0 in
    record {
      row = q.0;
      stood = q.1.0;
      number = sym (ap (λ (y : Row). y.no) q.1.1 ∙ same.number);
      session = sym (ap (λ (y : Row). y.session) q.1.1 ∙ same.session);
      field = sym (ap (λ (y : Row). y.field) q.1.1 ∙ same.field);
      kind = sym (ap (λ (y : Row). y.kind) q.1.1 ∙ same.kind);
    }

all_renewed : (until : ℕ) (ns : List LeaseNo) (rows : List Row) (r : Row) → In r (renewed_rows until ns rows) → Stood rows r
all_renewed until [] rows r i = stood_here rows r i
all_renewed until (n ∷ ns) rows r i =
    let q = all_renewed until ns (map (renewed_row n until) rows) r i in
    stood_again rows q.row r (renewed_stood rows n until q.row q.stood) q.number q.session q.field q.kind

pub renewed_later : (given : ℕ → ℕ) (until : ℕ) (ns : List LeaseNo) (rows : List Row) → IsLater given given rows (renewed_rows until ns rows)
renewed_later given until ns rows = later_among given given rows (renewed_rows until ns rows) (λ k. omega arith) (all_renewed until ns rows)

pub all_released : (ns : List LeaseNo) (rows : List Row) (r : Row) → In r (released_rows ns rows) → In r rows
all_released [] rows r i = i
all_released (n ∷ ns) rows r i = In-filter (λ x. not (has_no n x)) r rows (all_released ns (filter (λ x. not (has_no n x)) rows) r i)

pub released_later : (given : ℕ → ℕ) (ns : List LeaseNo) (rows : List Row) → IsLater given given rows (released_rows ns rows)
released_later given ns rows = later_among given given rows (released_rows ns rows) (λ k. omega arith) (λ r i. stood_here rows r (all_released ns rows r i))
