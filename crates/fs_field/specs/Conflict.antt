-- Which leases cannot stand beside one another.
use Rattle.std.specs.Prelude.{◌≡◌, ℕ, Bool, true, false, not, ◌==◌, ◌&&◌, ◌||◌, List, Option, Some, None}
use Rattle.std.specs.List.{list_any}
use Rattle.fs_ident.specs.declared.actor.Session.{Session}
use Rattle.fs_modes.specs.declared.modes.Mode.{Mode}
use Rattle.fs_modes.specs.declared.modes.Modes.{Modes}
use Rattle.fs_modes.specs.Modes.{has}
use Rattle.fs_field.specs.declared.field.Field.{Field}
use Rattle.fs_field.specs.declared.field.Field.TheVariants.{Life, Child, Names, Info, SelfW, Other}
use Rattle.fs_field.specs.declared.lease_kind.LeaseKind.{LeaseKind}
use Rattle.fs_field.specs.declared.lease_kind.LeaseKind.TheVariants.{Shared, Exclusive}
use Rattle.fs_field.specs.declared.row.Row.{Row}
use Rattle.fs_ident.specs.Ident.{same}
use Rattle.fs_field.specs.Field.{same_mode}
use Rattle.fs_ident.specs.In.{In}

abbrev pub is_exclusive : LeaseKind → Bool
is_exclusive Shared = false
is_exclusive Exclusive = true

-- both are one life, child, names or info field
abbrev pub one_shared : Field → Field → Bool
one_shared (Life a) (Life b) = same a b
one_shared (Child a m) (Child b n) = same a b && same m n
one_shared (Names a) (Names b) = same a b
one_shared (Info a) (Info b) = same a b
one_shared f g = false

-- the names of a directory, and one of its children
abbrev pub names_over : Field → Field → Bool
names_over (Names d) (Child e n) = same d e
names_over f g = false

-- leases on these fields, of these kinds, do not go together, whoever has a handle
abbrev pub meets : Field → LeaseKind → Field → LeaseKind → Bool
meets f k g l = (one_shared f g && (is_exclusive k || is_exclusive l))
    || ((names_over f g && is_exclusive l) || (names_over g f && is_exclusive k))

-- the row keeps the session from such a lease, whoever has a handle
abbrev pub stands_against : Session → Field → LeaseKind → Row → Bool
stands_against s f k row = not (s.0 == row.session.0) && meets f k row.field row.kind

-- the two rows conflict by their sessions, fields and kinds alone
abbrev pub plain_conflict : Row → Row → Bool
plain_conflict a b = stands_against a.session a.field a.kind b

-- for each file the sessions with handles on it and the modes of each
abbrev pub Selves : Type 0
Selves = List ℕ → List (Session × Modes)

-- the field is what a session itself tells of the mode on the file
abbrev pub is_self : List ℕ → Mode → Field → Bool
is_self f m (SelfW g n) = same f g && same_mode m n
is_self f m field = false

-- no row lets the session change what it tells of the mode on the file
abbrev pub is_fixed : List Row → List ℕ → Mode → Session → Bool
is_fixed rows f m s = not (list_any (λ row. is_self f m row.field && (row.session.0 == s.0)) rows)

-- a third session, neither of these two, has the mode on the file and is fixed
abbrev pub has_fixed : Selves → List Row → List ℕ → Mode → Session → Session → Bool
has_fixed selves rows f m x y =
    list_any (λ e. ((not (e.0.0 == x.0) && not (e.0.0 == y.0)) && has e.1 m) && is_fixed rows f m e.0) (selves f)

-- what was told of the others can become untrue: that one has the mode, unless a fixed one has it, or that none has;
-- where nothing was told it is taken that none has
abbrev pub can_fail : Option Bool → Bool → Bool
can_fail (Some true) fixed = not fixed
can_fail (Some false) fixed = true
can_fail None fixed = true

-- the first lease tells what the others have, and the second lets one of them change it
abbrev pub mode_meets : Selves → List Row → Session → Field → Option Bool → Session → Field → Bool
mode_meets selves rows x (Other f m) promise y (SelfW g n) = (same f g && same_mode m n) && can_fail promise (has_fixed selves rows f m x y)
mode_meets selves rows x f promise y g = false

-- one of the two rows tells its session what others have of a mode, and the other lets its session change it
abbrev pub mode_conflict : Selves → List Row → Row → Row → Bool
mode_conflict selves rows a b =
    not (a.session.0 == b.session.0)
    && (mode_meets selves rows a.session a.field a.promise b.session b.field
    || mode_meets selves rows b.session b.field b.promise a.session a.field)

-- the two rows of a table conflict, plainly or over a mode
abbrev pub conflicts : Selves → List Row → Row → Row → Bool
conflicts selves rows a b = plain_conflict a b || mode_conflict selves rows a b

-- no two rows of the table conflict
abbrev pub NoConflict : Selves → List Row → Type 0
NoConflict selves rows = (a b : Row) → In a rows → In b rows → conflicts selves rows a b ≡ false

-- no two rows of the table conflict by their sessions, fields and kinds alone
abbrev pub NoPlainConflict : List Row → Type 0
NoPlainConflict rows = (a b : Row) → In a rows → In b rows → plain_conflict a b ≡ false
