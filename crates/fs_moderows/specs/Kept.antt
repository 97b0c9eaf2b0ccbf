-- Which promises are kept.
use Rattle.std.specs.Prelude.{◌≡◌, ℕ, Bool, true, false, not, ◌==◌, ◌&&◌, ◌||◌, List, Option, Some, None, if◌then◌else◌}
use Rattle.std.specs.List.{filter, list_any}
use Rattle.fs_ident.specs.In.{In}
use Rattle.fs_ident.specs.Ident.{same}
use Rattle.fs_ident.specs.declared.actor.Session.{Session}
use Rattle.fs_modes.specs.declared.modes.Mode.{Mode}
use Rattle.fs_modes.specs.Modes.{has}
use Rattle.fs_field.specs.declared.field.Field.{Field}
use Rattle.fs_field.specs.declared.field.Field.TheVariants.{Other}
use Rattle.fs_field.specs.declared.row.Row.{Row}
use Rattle.fs_field.specs.Conflict.{Selves, is_fixed, has_fixed}
use Rattle.fs_moderows.specs.Answer.{Opens, is_self_of_other, has_mode}

-- another session has the mode
abbrev pub others_have : Opens → Mode → Session → Bool
others_have opens m x = list_any (λ e. not (e.0.0 == x.0) && has e.1 m) opens

-- another session has the mode, or a row lets it turn it on
abbrev pub others_may_have : Opens → List Row → List ℕ → Mode → Session → Bool
others_may_have opens rows f m x = others_have opens m x || list_any (is_self_of_other f m x) rows

-- that another has the mode is kept by one that cannot change it, and that none has by there being none that has it or
-- can turn it on; where nothing was told it is taken that none has
abbrev pub holds_true : Option Bool → Bool → Bool → Bool
holds_true (Some true) fixed may = fixed
holds_true (Some false) fixed may = not may
holds_true None fixed may = not may

-- what the session was told of others on the field is so, and stays so where others change what they have by their rows
abbrev pub is_kept : Selves → List Row → Session → Field → Option Bool → Bool
is_kept selves rows x (Other f m) promise = holds_true promise (has_fixed selves rows f m x x) (others_may_have (selves f) rows f m x)
is_kept selves rows x field promise = true

-- the promise of each row is kept
abbrev pub KeptPromises : Selves → List Row → Type 0
KeptPromises selves rows = (row : Row) → In row rows → is_kept selves rows row.session row.field row.promise ≡ true

-- who has handles once the session lost its on the file
abbrev pub selves_without : List ℕ → Session → Selves → Selves
selves_without f s selves g = if same g f then filter (λ e. not (e.0.0 == s.0)) (selves g) else selves g

-- handles came or went, and every session that no row lets change whether it has a mode has it as before
abbrev pub ChangesByRows : List Row → Selves → Selves → Type 0
ChangesByRows rows before after =
    (f : List ℕ) (m : Mode) (s : Session) → is_fixed rows f m s ≡ true → has_mode (after f) s m ≡ has_mode (before f) s m
