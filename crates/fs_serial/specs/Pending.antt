-- Parts about the entries of a log.
use Rattle.std.specs.Prelude.{◌≡◌, ◌≢◌, ℕ, ◌+◌, ◌<◌, true, List, [], ◌∷◌, Option, Some, None, ◌⊎◌}
use Rattle.fs_ident.specs.In.{In}
use Rattle.fs_ident.specs.declared.actor.Session.{Session}
use Rattle.fs_field.specs.declared.asked.Need.{Need}
use Rattle.fs_field.specs.declared.asked.Need.TheVariants as need
use Rattle.fs_field.specs.declared.field.Field.{Field}
use Rattle.fs_field.specs.Field.{file_of}
use Rattle.fs_field.specs.declared.field.Field.TheVariants.{Life}
use Rattle.fs_field.specs.declared.lease_kind.LeaseKind.{LeaseKind}
use Rattle.fs_field.specs.declared.lease_kind.LeaseKind.TheVariants.{Exclusive}
use Rattle.fs_field.specs.declared.row.Row.{Row}
use Rattle.fs_field.specs.declared.used.Use.{Use}
use Rattle.fs_field.specs.declared.value.Value.{Value}
use Rattle.fs_model.specs.Sound.{AsksAccess}
use Rattle.fs_model.specs.Step.{is_child}
use Rattle.fs_model.specs.declared.op.Op.{Op}
use Rattle.fs_model.specs.declared.op.Op.TheVariants as op
use Rattle.fs_model.specs.declared.reply.Reply.{Reply}
use Rattle.fs_model.specs.declared.reply.Reply.TheVariants as reply
use Rattle.fs_record.specs.Effects.{tells_its_effects}
use Rattle.fs_model.specs.Asking.{home_of}
use Rattle.fs_msg.specs.declared.entry.Entry.{Entry}
use Rattle.fs_view.specs.Gone.{known_with}
use Rattle.fs_view.specs.ViewLease.{is_enough}
use Rattle.fs_view.specs.View.{value_after_all}
use Rattle.fs_view.specs.Walk.{walk, always}
use Rattle.fs_serial.specs.Leases.{IsBacked}
use Rattle.fs_serial.specs.Settled.{Lease, effects_in}

-- ## Replies that stand

-- the row of the lease that was used
pub record Stands (rows : List Row) (by : Session) (u : Use) : Type 0 where
  pub row : Row
  pub stands : In row rows
  pub number : row.no ≡ u.no
  pub session : row.session ≡ by
  pub field : row.field ≡ u.field
  pub kind : row.kind ≡ u.kind

abbrev pub AllStand : List Row → Session → List Use → Type 0
AllStand rows by uses = (u : Use) → In u uses → Stands rows by u

-- one of the leases that were used is on the field, and is enough
pub record HasUse (uses : List Use) (on : Field) (wanted : LeaseKind) : Type 0 where
  pub used : Use
  pub among : In used uses
  pub field : used.field ≡ on
  pub enough : is_enough used.kind wanted ≡ true

abbrev pub IsCovered : List Use → Need → Type 0
IsCovered uses (need.Lease field kind) = HasUse uses field kind
IsCovered uses (need.Fresh dir) = ⊥

-- the reply is the one that the values give, and all that it stands on was covered by the leases that were used
pub record IsAnswer (values : Field → Value) (e : Entry) : Type 0 where
  pub reply : (walk (known_with values) always e.op).reply ≡ Some e.reply
  pub covered : (n : Need) → In n (walk (known_with values) always e.op).items → IsCovered e.uses n

-- what the session sees after the entry
abbrev pub values_after : Session → Entry → (Field → Value) → Field → Value
values_after by e values field = value_after_all by field (values field) (effects_in by e)

-- each entry answers what it gets, as far as the rows of its leases and of those before it stand
abbrev pub PendingStand : List Row → Session → (Field → Value) → List Entry → Type 0
PendingStand rows by values [] = Unit {0}
PendingStand rows by values (e ∷ es) = AllStand rows by e.uses → IsAnswer values e × PendingStand rows by (values_after by e values) es

-- ## Leases that entries use

-- a lease has the use's number, field and kind
pub record HasLease (leases : List Lease) (u : Use) : Type 0 where
  pub lease : Lease
  pub held : In lease leases
  pub number : lease.no ≡ u.no
  pub field : lease.field ≡ u.field
  pub kind : lease.kind ≡ u.kind

abbrev pub UsesHeld : List Lease → List Entry → Type 0
UsesHeld leases log = (e : Entry) → In e log → (u : Use) → In u e.uses → HasLease leases u

-- each use has its row, or has ended
abbrev pub UsesBacked : ℕ → ℕ → List Row → List Entry → Type 0
UsesBacked skew greatest rows log =
    (e : Entry) → In e log → (u : Use) → In u e.uses → greatest < u.until + skew → IsBacked rows u.no u.until

-- ## Entries

-- an exclusive lease on the life of that file is used, and its identifier is one for the directory
pub record NamesReserved (uses : List Use) (dir id : List ℕ) : Type 0 where
  pub used : HasUse uses (Life id) Exclusive
  pub child : is_child dir id ≡ true

-- a create is made exactly where it names an identifier, and that is a reserved one
abbrev pub NamesItsFile : List Use → Op → Reply → Type 0
NamesItsFile uses (op.Create dir name kind (Some id)) reply.Made = NamesReserved uses dir id
NamesItsFile uses (op.Create dir name kind None) reply.Made = ⊥
NamesItsFile uses (op.Create dir name kind (Some id)) r = ⊥
NamesItsFile uses o r = Unit {0}

-- the identifier that a create names
abbrev pub named_by : Op → Option (List ℕ)
named_by (op.Create dir name kind id) = id
named_by o = None

-- each lease that was used is on the file where the entry is handed in, or on the one that it makes
abbrev pub UsesAtHome : Op → List Use → Type 0
UsesAtHome o uses = (u : Use) → In u uses → (file_of u.field ≡ home_of o) ⊎ (named_by o ≡ Some (file_of u.field))

-- what may stand in a log
pub record IsEntry (e : Entry) : Type 0 where
  pub plain : tells_its_effects e.op ≡ true
  pub access : AsksAccess e.op
  pub named : NamesItsFile e.uses e.op e.reply
  pub home : UsesAtHome e.op e.uses

abbrev pub AreEntries : List Entry → Type 0
AreEntries log = (e : Entry) → In e log → IsEntry e

-- no two entries name one identifier
abbrev pub NamedOnce : List Entry → Type 0
NamedOnce [] = Unit {0}
NamedOnce (e ∷ es) = ((f : Entry) (id : List ℕ) → In f es → named_by e.op ≡ Some id → named_by f.op ≡ Some id → ⊥) × NamedOnce es

-- ## Refusals

-- the entry stands first, and a lease that it used has no row
pub record IsGone (rows : List Row) (entries : List Entry) (n : ℕ) : Type 0 where
  pub first : Entry
  pub rest : List Entry
  pub log : entries ≡ first ∷ rest
  pub number : first.n ≡ n
  pub used : Use
  pub among : In used first.uses
  pub gone : (r : Row) → In r rows → r.no ≢ used.no

abbrev pub RefusedGone : List Row → List Entry → Option ℕ → Type 0
RefusedGone rows log over = (n : ℕ) → over ≡ Some n → IsGone rows log n
