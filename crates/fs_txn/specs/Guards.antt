-- What keeps others from decided effects until they are applied: locked rows of the transaction's session.
use Rattle.std.specs.Prelude.{◌≡◌, ◌||◌, not, ℕ, Bool, true, List, Some, is_some}
use Rattle.std.specs.FinMap.{get}
use Rattle.fs_ident.specs.In.{In}
use Rattle.fs_ident.specs.declared.actor.Session.{Session}
use Rattle.fs_field.specs.Conflict.{is_exclusive}
use Rattle.fs_field.specs.declared.effect.Effect.{Effect}
use Rattle.fs_field.specs.declared.effect.Effect.TheVariants.{SetChild, SetParent, RemoveNode}
use Rattle.fs_field.specs.declared.field.Field.{Field}
use Rattle.fs_field.specs.declared.field.Field.TheVariants.{Life, Child, Names, Own}
use Rattle.fs_field.specs.declared.lease_kind.LeaseKind.{LeaseKind}
use Rattle.fs_field.specs.declared.lease_kind.LeaseKind.TheVariants.{Shared, Exclusive}
use Rattle.fs_field.specs.declared.row.Row.{Row}
use Rattle.fs_model.specs.Namespace.{NodeMap}
use Rattle.fs_model.specs.Sound.{parent_of}

-- a lease of the second kind is enough where one of the first is wanted
abbrev pub is_enough : LeaseKind → LeaseKind → Bool
is_enough wanted kind = not (is_exclusive wanted) || is_exclusive kind

-- the session has a locked row on the field, of a kind that is enough
pub record HasLocked (rows : List Row) (by : Session) (on : Field) (wanted : LeaseKind) : Type 0 where
  pub row : Row
  pub stands : In row rows
  pub session : row.session ≡ by
  pub field : row.field ≡ on
  pub enough : is_enough wanted row.kind ≡ true
  pub lock : is_some row.lock ≡ true

-- the session has the name locked under which the file stands in what all hold together
pub record IsFixed (rows : List Row) (held : NodeMap) (by : Session) (file : List ℕ) : Type 0 where
  pub dir : List ℕ
  pub name : List ℕ
  pub place : parent_of (get held file) ≡ Some (dir, name)
  pub row : HasLocked rows by (Child dir name) Exclusive

-- a name goes: it and its directory's life are locked; a file gets its place: that and its life are; a file goes: its names, life
-- and handles are
abbrev pub IsGuarded : List Row → NodeMap → Session → Effect → Type 0
IsGuarded rows held by (SetChild dir name to) = HasLocked rows by (Child dir name) Exclusive × HasLocked rows by (Life dir) Shared
IsGuarded rows held by (SetParent file dir name) = IsFixed rows held by file × HasLocked rows by (Life file) Shared
IsGuarded rows held by (RemoveNode file) =
    HasLocked rows by (Names file) Shared × (HasLocked rows by (Life file) Exclusive × HasLocked rows by (Own file) Exclusive)
IsGuarded rows held by e = ⊥
