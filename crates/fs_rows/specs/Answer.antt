-- How a question for a lease is answered.
use Rattle.std.specs.Prelude.{◌≡◌, ℕ, true, List, Option, Some, None, ◌⊎◌}
use Rattle.std.specs.List.{find}
use Rattle.fs_ident.specs.declared.actor.LeaseNo.{LeaseNo}
use Rattle.fs_ident.specs.declared.actor.TxnNo.{TxnNo}
use Rattle.fs_ident.specs.declared.actor.Session.{Session}
use Rattle.fs_field.specs.declared.asked.Asked.{Asked}
use Rattle.fs_field.specs.declared.asked.Asked.TheVariants.{Granted, Wait, Locked}
use Rattle.fs_field.specs.declared.field.Field.{Field}
use Rattle.fs_field.specs.declared.lease_kind.LeaseKind.{LeaseKind}
use Rattle.fs_field.specs.declared.row.Row.{Row}
use Rattle.fs_ident.specs.In.{In}
use Rattle.fs_field.specs.Conflict.{stands_against}
use Rattle.fs_field.specs.Table.{lock_on, no_before, with_row}

-- a transaction on the field goes before a row that stands against the lease
abbrev pub answer_by : Option TxnNo → Option Row → Asked
answer_by (Some txn) against = Locked txn
answer_by None (Some row) = Wait row.no
answer_by None None = Granted None

-- the answer to the session's question for a lease of this kind on the field
abbrev pub answer : List Row → Session → Field → LeaseKind → Asked
answer rows session field kind = answer_by (lock_on field rows) (find (stands_against session field kind) rows)

-- the row of a lease that is given
abbrev pub given_row : LeaseNo → Session → Field → LeaseKind → ℕ → Row
given_row number session field kind until =
    record { no = number; session = session; field = field; kind = kind; until = until; promise = None; lock = None }

-- the rows after the answer: one more where the lease is given
abbrev pub rows_after : Asked → Row → List Row → List Row
rows_after (Granted value) row rows = with_row row rows
rows_after (Wait blocker) row rows = rows
rows_after (Locked txn) row rows = rows

-- of the rows that stand against the lease one has this number, and each other a greater one
pub record IsLeastAgainst (rows : List Row) (session : Session) (field : Field) (kind : LeaseKind) (number : LeaseNo) : Type 0 where
  pub row : Row
  pub stands : In row rows
  pub against : stands_against session field kind row ≡ true
  pub same : row.no ≡ number
  pub least : (other : Row) → In other rows → stands_against session field kind other ≡ true
      → (other ≡ row) ⊎ (no_before number other.no ≡ true)
