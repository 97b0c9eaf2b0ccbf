-- What a table knows of all its rows, after a question.
use Rattle.std.proofs.Common.{◌≡◌, ℕ, ◌≤◌, Bool, true, false, List, refl, arith}
use Rattle.std.specs.Prelude.{Option, Result, Ok, Err, IfOk, OnErr, is_some}
use Rattle.fs_ident.specs.declared.actor.LeaseNo.{LeaseNo}
use Rattle.fs_ident.specs.declared.actor.Session.{Session}
use Rattle.fs_ident.specs.declared.memory.Memory.{Memory}
use Rattle.fs_ident.specs.In.{In}
use Rattle.fs_field.specs.declared.asked.Asked.{Asked}
use Rattle.fs_field.specs.declared.asked.Asked.TheVariants.{Granted, Wait, Locked}
use Rattle.fs_field.specs.declared.field.Field.{Field}
use Rattle.fs_field.specs.declared.lease_kind.LeaseKind.{LeaseKind}
use Rattle.fs_field.specs.declared.row.Row.{Row}
use Rattle.fs_rows.specs.Bounds.{AreBounds}
use Rattle.fs_rows.proofs.Knowing.{ends_put, locks_put}
use Rattle.fs_moderows.specs.Answer.{given_row, rows_after}

lowered : (least new : ℕ) (locked : Bool) (rows : List Row) → new ≤ least → AreBounds least locked rows → AreBounds new locked rows
lowered least new locked rows l b = record { ends = λ row i e. let a : least ≤ row.until = b.ends row i e in omega arith; locks = b.locks }

after : (asked : Asked) (number : LeaseNo) (session : Session) (field : Field) (kind : LeaseKind) (until least new : ℕ) (locked : Bool) (rows : List Row) → new ≤ least → new ≤ until → AreBounds least locked rows → AreBounds new locked (rows_after asked (given_row number session field kind until) rows)
after (Granted value) number session field kind until least new locked rows l u b = record {
  ends = ends_put least new (given_row number session field kind until value) rows l (λ e. u) b.ends;
  locks = locks_put locked locked (given_row number session field kind until value) rows (λ n. n) (λ n. refl) b.locks;
}
after (Wait blocker) number session field kind until least new locked rows l u b = lowered least new locked rows l b
after (Locked txn) number session field kind until least new locked rows l u b = lowered least new locked rows l b

-- whatever it was answered, where what is known is no more than the row's end
pub bounds_asked : (asked : Result Asked Memory) (number : LeaseNo) (session : Session) (field : Field) (kind : LeaseKind) (until least new : ℕ) (locked : Bool) (old rows : List Row)
    → IfOk asked (λ a. rows ≡ rows_after a (given_row number session field kind until) old) → OnErr asked (rows ≡ old) → new ≤ least → new ≤ until → AreBounds least locked old → AreBounds new locked rows
bounds_asked (Ok a) number session field kind until least new locked old rows p q l u b = rw p (after a number session field kind until least new locked old l u b)
bounds_asked (Err m) number session field kind until least new locked old rows p q l u b = rw q (lowered least new locked old l b)
