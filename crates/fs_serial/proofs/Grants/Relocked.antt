-- Rows that are locked and unlocked: their leases, ends and promises stay.
use Rattle.std.proofs.Common.{◌≡◌, ℕ, Bool, true, false, cond, map, refl, sym, ap, ◌∙◌, subst, inr, arith}
use Rattle.std.specs.Prelude.{Option, None, Some}
use Rattle.fs_ident.specs.declared.actor.LeaseNo.{LeaseNo}
use Rattle.fs_ident.specs.declared.actor.Session.{Session}
use Rattle.fs_ident.specs.declared.actor.TxnNo.{TxnNo}
use Rattle.fs_ident.proofs.Standing.{In-map, In-mapped}
use Rattle.fs_field.specs.declared.row.Row.{Row}
use Rattle.fs_field.specs.Table.{is_lock_of, is_unlocked, locked_row, unlocked_row}
use Rattle.fs_field.proofs.Leases.{NoPlainConflict-map, SameLease}
use Rattle.fs_moderows.proofs.Tables.{TellsSame, locked_tells, unlocked_tells}
use Rattle.fs_moderows.proofs.Promises.{fewer_kept}
use Rattle.fs_moderows.proofs.Witnesses.{covered_map}
use Rattle.fs_record.specs.ValueOf.{selves_in}
use Rattle.fs_serial.specs.Locks.{KeepsParts, LockKeepsParts, UnlockKeepsParts}
use Rattle.fs_serial.specs.Settled.{Settled}
use Rattle.fs_serial.specs.Sight.{Sight, IsGiven}
use Rattle.fs_serial.specs.World.{first_ends}
use Rattle.fs_serial.proofs.OneServer.LeaseChanges.{RowsChange, all_still}
use Rattle.fs_serial.proofs.Grants.Granting.{shapes_mapped}
use Rattle.fs_serial.proofs.Grants.RowKinds.{with_rows}

-- the row is of the same lease, and tells the same until the same end
pub record StaysBut (a b : Row) : Type 0 where
  pub tells : TellsSame a b
  pub until : b.until ≡ a.until

same_lease : (a b : Row) → StaysBut a b → SameLease a b
same_lease a b s = record { number = s.tells.number; session = s.tells.session; field = s.tells.field; kind = s.tells.kind }

-- whatever is done to rows but to their leases, ends and promises
pub row_relocked : (skew greatest : ℕ) (s : Sight) (clients : Session → Settled) (f : Row → Row) → ((r : Row) → StaysBut r (f r)) → RowsChange skew greatest s (with_rows (map f s.rows) s) clients
row_relocked skew greatest s clients f same =
    record {
      servers = λ h. record {
        apart = NoPlainConflict-map f (λ r. same_lease r (f r) (same r)) s.rows h.apart;
        promises = fewer_kept (selves_in s.records) (map f s.rows) s.rows (covered_map f (λ r. (same r).tells) s.rows) h.promises;
        serial = h.serial;
        reaped = h.reaped;
      };
      kept = λ k. record {
        shaped = shapes_mapped f (λ r. (same r).tells) s.rows k.shaped;
        counted = λ r i. let q = In-map f r s.rows i in let count : r.no.count ≡ q.0.no.count = ap (λ (x : Row). x.no.count) q.1.1 ∙ ap (λ (n : LeaseNo). n.count) (same q.0).tells.number in let c = k.counted q.0 q.1.0 in omega arith;
        given = λ r i. let q = In-map f r s.rows i in subst (λ n. IsGiven s.given n) (sym (ap (λ (x : Row). x.no) q.1.1 ∙ (same q.0).tells.number)) (k.given q.0 q.1.0);
        sound = k.sound;
        made = k.made;
      };
      records = refl;
      stored = refl;
      journal = refl;
      relied = λ x. record {
        given = λ k. omega arith;
        older = λ r i g.
            let q = In-map f r s.rows i in
            let t : TellsSame q.0 (f q.0) = (same q.0).tells in
            record { row = q.0; stood = q.1.0; number = sym (ap (λ (y : Row). y.no) q.1.1 ∙ t.number); session = sym (ap (λ (y : Row). y.session) q.1.1 ∙ t.session); field = sym (ap (λ (y : Row). y.field) q.1.1 ∙ t.field); kind = sym (ap (λ (y : Row). y.kind) q.1.1 ∙ t.kind) };
        kept = λ l h r i e late. let until = (same r).until in record { row = f r; stands = In-mapped f r s.rows i; number = (same r).tells.number; lasts = omega arith };
        values = λ r i g own. inr refl;
        dirs = λ file was. was;
        made = λ file was. was;
        gone = λ file was none. none;
        items = refl;
      };
    }

-- ## Locks

lock_by : (b : Bool) (lock : Option TxnNo) (r : Row) → (cond b (record r { lock = lock }) r).until ≡ r.until
lock_by true lock r = refl
lock_by false lock r = refl

pub locked_stays : (number : LeaseNo) (txn : TxnNo) (r : Row) → StaysBut r (locked_row number txn r)
locked_stays number txn r = record { tells = locked_tells number txn r; until = lock_by (is_unlocked number r) (Some txn) r }

pub unlocked_stays : (txn : TxnNo) (r : Row) → StaysBut r (unlocked_row txn r)
unlocked_stays txn r = record { tells = unlocked_tells txn r; until = lock_by (is_lock_of txn r.lock) None r }

kept_parts : (f : Row → Row) → ((r : Row) → StaysBut r (f r)) → KeepsParts f
kept_parts f same skew greatest s replied clients h = all_still skew greatest s (with_rows (map f s.rows) s) replied (first_ends 0) clients (row_relocked skew greatest s clients f same) h

pub lock_keeps_parts : LockKeepsParts
lock_keeps_parts number txn = kept_parts (locked_row number txn) (locked_stays number txn)

pub unlock_keeps_parts : UnlockKeepsParts
unlock_keeps_parts txn = kept_parts (unlocked_row txn) (unlocked_stays txn)
