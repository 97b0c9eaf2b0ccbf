-- How questions for leases on what sessions tell of modes are answered.
use Rattle.std.specs.Prelude.{◌≡◌, ℕ, Bool, true, false, not, ◌==◌, ◌&&◌, ◌⊎◌, List, Option, Some, None, if◌then◌else◌, option_map}
use Rattle.std.specs.List.{find, list_any}
use Rattle.fs_ident.specs.In.{In}
use Rattle.fs_ident.specs.Ident.{same}
use Rattle.fs_ident.specs.declared.actor.LeaseNo.{LeaseNo}
use Rattle.fs_ident.specs.declared.actor.TxnNo.{TxnNo}
use Rattle.fs_ident.specs.declared.actor.Session.{Session}
use Rattle.fs_modes.specs.declared.modes.Mode.{Mode}
use Rattle.fs_modes.specs.declared.modes.Modes.{Modes}
use Rattle.fs_modes.specs.Modes.{has}
use Rattle.fs_field.specs.declared.asked.Asked.{Asked}
use Rattle.fs_field.specs.declared.asked.Asked.TheVariants.{Granted, Wait, Locked}
use Rattle.fs_field.specs.declared.field.Field.{Field}
use Rattle.fs_field.specs.declared.field.Field.TheVariants.{SelfW, Other}
use Rattle.fs_field.specs.declared.lease_kind.LeaseKind.{LeaseKind}
use Rattle.fs_field.specs.declared.row.Row.{Row}
use Rattle.fs_field.specs.Conflict.{is_self, has_fixed, mode_meets}
use Rattle.fs_field.specs.Table.{lock_on, no_before, with_row}

-- the sessions with handles on a file, and the modes of each
abbrev pub Opens : Type 0
Opens = List (Session × Modes)

-- another session has the mode, and no row lets it change that
abbrev pub has_fixed_other : Opens → List Row → List ℕ → Mode → Session → Bool
has_fixed_other opens rows f m x = has_fixed (λ g. opens) rows f m x x

-- the row lets another session change what it tells of the mode on the file
abbrev pub is_self_of_other : List ℕ → Mode → Session → Row → Bool
is_self_of_other f m x row = is_self f m row.field && not (row.session.0 == x.0)

-- the row tells another session what others have of the mode on the file, and does not go with a lease that lets this
-- session change it
abbrev pub stands_against_self : Opens → List Row → Session → List ℕ → Mode → Row → Bool
stands_against_self opens rows y f m row =
    not (row.session.0 == y.0) && mode_meets (λ g. opens) rows row.session row.field row.promise y (SelfW f m)

-- a transaction on the field goes before all else
abbrev pub unless_locked : Option TxnNo → Asked → Asked
unless_locked (Some txn) asked = Locked txn
unless_locked None asked = asked

-- the lease is given with the value where no row stands against it
abbrev pub waits_or : Option Row → Option Bool → Asked
waits_or (Some row) value = Wait row.no
waits_or None value = Granted value

-- the answer to a session that would change what it tells of the mode on the file
abbrev pub answer_self : Opens → List Row → Session → List ℕ → Mode → Asked
answer_self opens rows y f m = unless_locked (lock_on (SelfW f m) rows) (waits_or (find (stands_against_self opens rows y f m) rows) None)

-- the answer to a session that would know whether others have the mode on the file
abbrev pub answer_other : Opens → List Row → Session → List ℕ → Mode → Asked
answer_other opens rows x f m =
    unless_locked (lock_on (Other f m) rows)
    (if has_fixed_other opens rows f m x then Granted (Some true) else waits_or (find (is_self_of_other f m x) rows) (Some false))

-- the row of a lease that is given with this value
abbrev pub given_row : LeaseNo → Session → Field → LeaseKind → ℕ → Option Bool → Row
given_row number session field kind until value = record {
  no = number;
  session = session;
  field = field;
  kind = kind;
  until = until;
  promise = value;
  lock = None;
}

-- the rows after the answer: one more where the lease is given, which promises the value
abbrev pub rows_after : Asked → (Option Bool → Row) → List Row → List Row
rows_after (Granted value) row_with rows = with_row (row_with value) rows
rows_after (Wait blocker) row_with rows = rows
rows_after (Locked txn) row_with rows = rows

-- the session has the mode
abbrev pub has_mode : Opens → Session → Mode → Bool
has_mode opens s m = list_any (λ e. (e.0.0 == s.0) && has e.1 m) opens

-- it was told that another has the mode
abbrev pub is_told_true : Option Bool → Bool
is_told_true (Some told) = told
is_told_true None = false

-- what was told of this field of the file would become untrue without the session's handles
abbrev pub rests_on : Opens → List Row → Session → List ℕ → Session → Field → Option Bool → Bool
rests_on opens rows s f x (Other g m) promise =
    (same g f && has_mode opens s m) && (is_told_true promise && not (has_fixed (λ h. opens) rows g m x s))
rests_on opens rows s f x field promise = false

-- the row keeps the session from losing its handles on the file
abbrev pub stands_against_reap : Opens → List Row → Session → List ℕ → Row → Bool
stands_against_reap opens rows s f row = not (row.session.0 == s.0) && rests_on opens rows s f row.session row.field row.promise

-- the first row that keeps the session from losing its handles on the file
abbrev pub reap_blocker : Opens → List Row → Session → List ℕ → Option LeaseNo
reap_blocker opens rows s f = option_map (λ (row : Row). row.no) (find (stands_against_reap opens rows s f) rows)

-- of the rows that pass one has this number, and each other a greater one
pub record IsLeast (test : Row → Bool) (rows : List Row) (number : LeaseNo) : Type 0 where
  pub row : Row
  pub stands : In row rows
  pub passes : test row ≡ true
  pub same : row.no ≡ number
  pub least : (other : Row) → In other rows → test other ≡ true → (other ≡ row) ⊎ (no_before number other.no ≡ true)
