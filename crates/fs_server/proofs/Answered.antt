-- What the answer to a question tells of the rows.
use Rattle.std.proofs.Common.{◌≡◌, ◌==◌, not, Bool, true, false, cond, List, refl, sym, ◌∙◌}
use Rattle.std.specs.Prelude.{Option, Some, None}
use Rattle.std.specs.List.{find}
use Rattle.fs_ident.specs.In.{In}
use Rattle.fs_ident.specs.declared.actor.LeaseNo.{LeaseNo}
use Rattle.fs_ident.specs.declared.actor.Session.{Session}
use Rattle.fs_ident.specs.declared.actor.TxnNo.{TxnNo}
use Rattle.fs_ident.proofs.Passing.{found}
use Rattle.fs_field.specs.declared.asked.Asked.TheVariants.{Granted, Wait}
use Rattle.fs_field.specs.declared.field.Field.{Field}
use Rattle.fs_field.specs.declared.field.Field.TheVariants.{SelfW, Other}
use Rattle.fs_field.specs.declared.lease_kind.LeaseKind.{LeaseKind}
use Rattle.fs_field.specs.declared.lease_kind.LeaseKind.TheVariants.{Shared, Exclusive}
use Rattle.fs_field.specs.declared.row.Row.{Row}
use Rattle.fs_field.specs.Conflict.{meets, stands_against}
use Rattle.fs_field.specs.Table.{lock_on}
use Rattle.fs_record.specs.ValueOf.{selves_in}
use Rattle.fs_rows.specs.Answer.{answer_by}
use Rattle.fs_rows.proofs.Granting.{granted_goes}
use Rattle.fs_moderows.specs.Answer.{has_fixed_other, is_self_of_other, stands_against_self, unless_locked, waits_or}
use Rattle.fs_moderows.proofs.Free.{meets_never}
use Rattle.fs_moderows.proofs.Witnesses.{not_both}
use Rattle.fs_server.specs.Asks.{answer_to, kind_for}
use Rattle.fs_server.specs.declared.state.Server.{Server}

-- no row stands plainly against a lease that is given
pub given_goes : (by : Session) (field : Field) (kind : LeaseKind) (promise : Option Bool) (s : Server) → answer_to by field (kind_for field kind) s ≡ Granted promise → (x : Row) → In x s.rows → stands_against by field (kind_for field kind) x ≡ false
given_goes by (SelfW f m) kind promise s e x i = not_both (not (by.0 == x.session.0)) (meets (SelfW f m) Exclusive x.field x.kind) (λ other. meets_never (SelfW f m) Exclusive x.field x.kind refl)
given_goes by (Other f m) kind promise s e x i = not_both (not (by.0 == x.session.0)) (meets (Other f m) Shared x.field x.kind) (λ other. meets_never (Other f m) Shared x.field x.kind refl)
given_goes by field kind promise s e x i = granted_goes s.rows by field (kind_for field kind) promise e x i

-- ## Who waits

-- the lease with this number has its row
abbrev pub IsRowed : LeaseNo → List Row → Type 0
IsRowed number rows = (row : Row) × In row rows × (row.no ≡ number)

waits : (lock : Option TxnNo) (against : Option Row) (value : Option Bool) (test : Row → Bool) (rows : List Row) (blocker : LeaseNo) → find test rows ≡ against → unless_locked lock (waits_or against value) ≡ Wait blocker → IsRowed blocker rows
waits (Some txn) against value test rows blocker e h = absurd (cc)
waits None None value test rows blocker e h = absurd (cc)
waits None (Some row) value test rows blocker e h = let same : row.no ≡ blocker = cc in (row, (found test rows row e).0, same)

plain_waits : (lock : Option TxnNo) (against : Option Row) → answer_by lock against ≡ unless_locked lock (waits_or against None)
plain_waits (Some txn) against = refl
plain_waits None (Some row) = refl
plain_waits None None = refl

other_waits : (lock : Option TxnNo) (fixed : Bool) (against : Option Row) (test : Row → Bool) (rows : List Row) (blocker : LeaseNo) → find test rows ≡ against → unless_locked lock (cond fixed (Granted (Some true)) (waits_or against (Some false))) ≡ Wait blocker → IsRowed blocker rows
other_waits (Some txn) fixed against test rows blocker e h = absurd (cc)
other_waits None true against test rows blocker e h = absurd (cc)
other_waits None false against test rows blocker e h = waits None against (Some false) test rows blocker e h

-- whoever waits waits for a row that stands
pub blocker_rowed : (by : Session) (field : Field) (kind : LeaseKind) (s : Server) (blocker : LeaseNo) → answer_to by field kind s ≡ Wait blocker → IsRowed blocker s.rows
blocker_rowed by (SelfW f m) kind s blocker e =
    let test : Row → Bool = stands_against_self (selves_in s.records f) s.rows by f m in
    waits (lock_on (SelfW f m) s.rows) (find test s.rows) None test s.rows blocker refl e
blocker_rowed by (Other f m) kind s blocker e = other_waits (lock_on (Other f m) s.rows) (has_fixed_other (selves_in s.records f) s.rows f m by) (find (is_self_of_other f m by) s.rows) (is_self_of_other f m by) s.rows blocker refl e
blocker_rowed by field kind s blocker e = waits (lock_on field s.rows) (find (stands_against by field kind) s.rows) None (stands_against by field kind) s.rows blocker refl (sym (plain_waits (lock_on field s.rows) (find (stands_against by field kind) s.rows)) ∙ e)
