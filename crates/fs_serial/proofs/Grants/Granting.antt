-- The row of a lease that is given.
use Rattle.std.proofs.Common.{◌≡◌, ℕ, ◌||◌, Bool, true, List, map, refl, ap, ◌∙◌, inl, inr}
use Rattle.std.specs.Prelude.{Option}
use Rattle.std.specs.List.{filter}
use Rattle.fs_ident.specs.declared.actor.LeaseNo.{LeaseNo}
use Rattle.fs_ident.specs.declared.actor.Session.{Session}
use Rattle.fs_ident.proofs.Standing.{In-filter, In-map}
use Rattle.fs_field.specs.declared.asked.Asked.TheVariants.{Granted}
use Rattle.fs_field.specs.declared.field.Field.{Field}
use Rattle.fs_field.specs.declared.field.Field.TheVariants.{SelfW, Other}
use Rattle.fs_field.specs.declared.lease_kind.LeaseKind.{LeaseKind}
use Rattle.fs_field.specs.declared.row.Row.{Row}
use Rattle.fs_field.specs.Field.{tells_no_mode}
use Rattle.fs_field.specs.Table.{renewed_row, with_row}
use Rattle.fs_field.proofs.Leases.{NoPlainConflict-with_row}
use Rattle.fs_moderows.specs.Answer.{given_row}
use Rattle.fs_moderows.specs.Table.{is_of_mode}
use Rattle.fs_moderows.proofs.Tables.{TellsSame, renewed_tells, shape_self, shape_other}
use Rattle.fs_moderows.proofs.Free.{none_against, found_other}
use Rattle.fs_moderows.proofs.Promises.{self_kept, other_kept}
use Rattle.fs_record.specs.ValueOf.{selves_in}
use Rattle.fs_server.specs.Asks.{answer_to, kind_for, with_lease}
use Rattle.fs_server.specs.Plan.{is_shaped}
use Rattle.fs_server.specs.Server.{next_number, end_of}
use Rattle.fs_server.specs.declared.state.Server.{Server}
use Rattle.fs_server.proofs.Answered.{given_goes}
use Rattle.fs_serial.specs.Rows.{NoRowsConflict, PromisesKept, RowsShaped}
use Rattle.fs_serial.proofs.Grants.Leased.{In-with_row}
use Rattle.fs_serial.proofs.Grants.Promises.{promises_beside}

abbrev pub row_of : Server → Session → Field → LeaseKind → Option Bool → Row
row_of s by field kind promise = given_row (next_number s) by field (kind_for field kind) (end_of s) promise

-- ## Promises

-- what it promises is so, and all others still do
pub promises_granted : (s : Server) (by : Session) (field : Field) (kind : LeaseKind) (promise : Option Bool) → answer_to by field (kind_for field kind) s ≡ Granted promise → PromisesKept s.records s.rows → PromisesKept s.records (with_lease by field (kind_for field kind) promise s).rows
promises_granted s by (SelfW f m) kind promise ok kept = self_kept (selves_in s.records) s.rows (row_of s by (SelfW f m) kind promise) f m refl (none_against (selves_in s.records) s.rows by f m promise ok) kept
promises_granted s by (Other f m) kind promise ok kept = other_kept (selves_in s.records) s.rows (row_of s by (Other f m) kind promise) f m refl (found_other (selves_in s.records) s.rows by f m promise ok) kept
promises_granted s by field kind promise ok kept = promises_beside s.records (row_of s by field kind promise) s.rows refl kept

-- ## Shapes

pub shape_granted : (s : Server) (by : Session) (field : Field) (kind : LeaseKind) (promise : Option Bool) → answer_to by field (kind_for field kind) s ≡ Granted promise → is_shaped (given_row (next_number s) by field (kind_for field kind) (end_of s) promise) ≡ true
shape_granted s by (SelfW f m) kind promise ok = shape_self (selves_in s.records f) s.rows by f m promise ok
shape_granted s by (Other f m) kind promise ok = shape_other (selves_in s.records f) s.rows by f m promise ok
shape_granted s by field kind promise ok = refl

pub shapes_beside : (r : Row) (rows : List Row) → is_shaped r ≡ true → RowsShaped rows → RowsShaped (with_row r rows)
shapes_beside r rows new shaped x i = elim (In-with_row x r rows i) [
  | inl e ↦ ap is_shaped e ∙ new
  | inr j ↦ shaped x j
]

pub shapes_granted : (s : Server) (by : Session) (field : Field) (kind : LeaseKind) (promise : Option Bool) → answer_to by field (kind_for field kind) s ≡ Granted promise → RowsShaped s.rows → RowsShaped (with_lease by field (kind_for field kind) promise s).rows
shapes_granted s by field kind promise ok = shapes_beside (row_of s by field kind promise) s.rows (shape_granted s by field kind promise ok)

pub shapes_filtered : (keep : Row → Bool) (rows : List Row) → RowsShaped rows → RowsShaped (filter keep rows)
shapes_filtered keep rows shaped x i = shaped x (In-filter keep x rows i)

alike : (a b : Row) → TellsSame a b → is_shaped b ≡ is_shaped a
alike a b s =
    ap (λ f. tells_no_mode f || is_of_mode f b.kind b.promise) s.field
    ∙ ap (λ k. tells_no_mode a.field || is_of_mode a.field k b.promise) s.kind
    ∙ ap (λ p. tells_no_mode a.field || is_of_mode a.field a.kind p) s.promise

pub shapes_mapped : (f : Row → Row) → ((r : Row) → TellsSame r (f r)) → (rows : List Row) → RowsShaped rows → RowsShaped (map f rows)
shapes_mapped f same rows shaped x i =
    let q = In-map f x rows i in
    ap is_shaped q.1.1 ∙ alike q.0 (f q.0) (same q.0) ∙ shaped q.0 q.1.0

pub shapes_renewed : (n : LeaseNo) (until : ℕ) (rows : List Row) → RowsShaped rows → RowsShaped (map (renewed_row n until) rows)
shapes_renewed n until = shapes_mapped (renewed_row n until) (renewed_tells n until)

-- ## No conflict

pub apart_granted : (s : Server) (by : Session) (field : Field) (kind : LeaseKind) (promise : Option Bool) → answer_to by field (kind_for field kind) s ≡ Granted promise → NoRowsConflict s.rows → NoRowsConflict (with_lease by field (kind_for field kind) promise s).rows
apart_granted s by field kind promise ok = NoPlainConflict-with_row (row_of s by field kind promise) s.rows (given_goes by field kind promise s ok)
