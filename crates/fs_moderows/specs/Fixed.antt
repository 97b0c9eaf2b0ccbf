-- The sessions that have a mode and that no row lets change it, as they are found once for a question.
use Rattle.std.specs.Prelude.{◌≡◌, ℕ, Bool, true, false, not, ◌==◌, ◌&&◌, List, Option, Some, None}
use Rattle.fs_ident.specs.In.{In}
use Rattle.fs_ident.specs.Ident.{same}
use Rattle.fs_ident.specs.declared.actor.Session.{Session}
use Rattle.fs_modes.specs.declared.modes.Mode.{Mode}
use Rattle.fs_modes.specs.declared.modes.Mode.TheVariants.{AccR, AccW, AccD, DenyR, DenyW, DenyD}
use Rattle.fs_field.specs.declared.field.Field.{Field}
use Rattle.fs_field.specs.declared.field.Field.TheVariants.{Other}
use Rattle.fs_field.specs.declared.row.Row.{Row}
use Rattle.fs_field.specs.Conflict.{can_fail, has_fixed}
use Rattle.fs_field.specs.Field.{same_mode}
use Rattle.fs_moderows.specs.Answer.{Opens, is_told_true, stands_against_reap}
use Rattle.fs_moderows.specs.declared.fixed.Fixed.{Fixed}
use Rattle.fs_moderows.specs.declared.fixed.Fixed.TheVariants.{Nobody, One, Several}
use Rattle.fs_moderows.specs.declared.fixed.EachMode.{EachMode}

-- there is one other than this session
abbrev pub has_but : Fixed → Session → Bool
has_but Nobody x = false
has_but (One s) x = not (s.0 == x.0)
has_but Several x = true

-- they are those but for the session y
abbrev pub AreFixedBut : Opens → List Row → List ℕ → Mode → Session → Fixed → Type 0
AreFixedBut opens rows f m y fixed = (x : Session) → has_but fixed x ≡ has_fixed (λ g. opens) rows f m x y

-- the field is what others tell of the mode on the file
abbrev pub is_other : List ℕ → Mode → Field → Bool
is_other f m (Other g n) = same g f && same_mode n m
is_other f m field = false

-- the row tells another session what others have of the mode on the file
abbrev pub is_other_of_other : List ℕ → Mode → Session → Row → Bool
is_other_of_other f m y row = is_other f m row.field && not (row.session.0 == y.0)

-- the row keeps the session from changing what it tells of the mode on the file, where these are fixed
abbrev pub stands_by : Fixed → Session → List ℕ → Mode → Row → Bool
stands_by fixed y f m row = not (row.session.0 == y.0) && (is_other f m row.field && can_fail row.promise (has_but fixed row.session))

-- what was told of a mode rests on a session that has it where these are fixed; none are given where nothing does
abbrev pub rests_by : Option Fixed → Session → Option Bool → Bool
rests_by None x promise = false
rests_by (Some fixed) x promise = is_told_true promise && not (has_but fixed x)

-- what was found of the mode
abbrev pub of_mode : EachMode → Mode → Option Fixed
of_mode each AccR = each.acc_r
of_mode each AccW = each.acc_w
of_mode each AccD = each.acc_d
of_mode each DenyR = each.deny_r
of_mode each DenyW = each.deny_w
of_mode each DenyD = each.deny_d

-- what was told on the field of the file rests on a session, by what was found of each mode
abbrev pub rests_by_each : EachMode → List ℕ → Session → Field → Option Bool → Bool
rests_by_each each f x (Other g m) promise = same g f && rests_by (of_mode each m) x promise
rests_by_each each f x field promise = false

-- the row keeps the session from losing its handles on the file, by what was found of each mode
abbrev pub stands_by_each : EachMode → Session → List ℕ → Row → Bool
stands_by_each each s f row = not (row.session.0 == s.0) && rests_by_each each f row.session row.field row.promise

-- what was found tells of each row on the mode whether it keeps the session from losing its handles on the file
abbrev pub TellsOfMode : Opens → List Row → Session → List ℕ → Mode → Option Fixed → Type 0
TellsOfMode opens rows s f m found =
    (row : Row) → In row rows → is_other f m row.field ≡ true
    → stands_against_reap opens rows s f row ≡ (not (row.session.0 == s.0) && rests_by found row.session row.promise)
