-- What laws say of walks.
use Rattle.std.specs.Prelude.{◌≡◌, ℕ, ◌+◌, nat_le, Bool, false, true, List, Some, None}
use Rattle.std.specs.FinMap.{get}
use Rattle.fs_field.specs.declared.asked.Need.{Need}
use Rattle.fs_field.specs.declared.asked.Need.TheVariants.{Lease, Fresh}
use Rattle.fs_ident.specs.In.{In}
use Rattle.fs_field.specs.declared.field.Field.{Field}
use Rattle.fs_field.specs.declared.field.Field.TheVariants.{Life}
use Rattle.fs_field.specs.declared.lease_kind.LeaseKind.{LeaseKind}
use Rattle.fs_field.specs.declared.lease_kind.LeaseKind.TheVariants.{Shared, Exclusive}
use Rattle.fs_field.specs.Conflict.{meets}
use Rattle.fs_model.specs.Namespace.{NodeMap}
use Rattle.fs_model.specs.Step.{is_child, step}
use Rattle.fs_ident.specs.declared.actor.Session.{Session}
use Rattle.fs_field.specs.Field.{file_of}
use Rattle.fs_record.specs.Effects.{effects_of}
use Rattle.fs_record.specs.ValueOf.{value_at}
use Rattle.fs_model.specs.declared.op.Op.{Op}
use Rattle.fs_model.specs.declared.op.Op.TheVariants as op
use Rattle.fs_model.specs.declared.reply.Reply.{Reply}
use Rattle.fs_model.specs.declared.reply.Reply.TheVariants as reply
use Rattle.std.specs.List.{list_all}
use Rattle.fs_view.specs.declared.view_lease.ViewLease.{ViewLease}
use Rattle.fs_view.specs.ViewLease.{entries_of, file_in, is_better_than, is_pending, serves}
use Rattle.fs_view.specs.View.{View, taken_fresh}
use Rattle.fs_view.specs.Walk.{Known, Given}

-- the other knowledge has the item too, with the same value
abbrev pub HasToo : Known → Known → Given → Need → Type 0
HasToo known other given (Lease field kind) = other field kind ≡ known field kind
HasToo known other given (Fresh dir) = given dir ≡ true

-- the other knowledge has all the items, with the same values
abbrev pub HasAll : Known → Known → Given → List Need → Type 0
HasAll known other given items = (need : Need) → In need items → HasToo known other given need

-- where a file was made, its identifier is named, of the directory, and of no file that lives
abbrev pub IsNewWhereMade : NodeMap → Op → Reply → Type 0
IsNewWhereMade m (op.Create dir name kind None) reply.Made = ⊥
IsNewWhereMade m (op.Create dir name kind (Some id)) reply.Made = (is_child dir id ≡ true) × (get m id ≡ None)
IsNewWhereMade m o r = Unit {0}

-- the reply as far as fields tell it: no field tells that a directory would come into itself
abbrev pub but_cycle : Reply → Reply
but_cycle reply.Cycle = reply.Renamed
but_cycle r = r

-- the item is exclusive, and a lease of the kind on the field does not go together with it
abbrev pub item_meets : Field → LeaseKind → Need → Bool
item_meets field kind (Lease other Shared) = false
item_meets field kind (Lease other Exclusive) = meets field kind other Exclusive
item_meets field kind (Fresh dir) = false

-- each lease can take so many entries more
abbrev pub have_room : ℕ → List ViewLease → Bool
have_room n leases = list_all (λ (k : ViewLease). nat_le (entries_of k.standing + n) 0xffff_ffff_ffff_ffff) leases

-- the lease serves, and no other that serves is better
pub record IsBestOf (leases : List ViewLease) (now : ℕ) (field : Field) (kind : LeaseKind) (k : ViewLease) : Type 0 where
  pub among : In k leases
  pub serving : serves now field kind k.standing ≡ true
  pub best : (other : ViewLease) → In other leases → serves now field kind other.standing ≡ true
      → is_better_than other.standing k.standing ≡ false

-- the lease that is used for the identifier is the best on the life of that file
pub record IsUsedByBest (v : View) (now : ℕ) (dir id : List ℕ) : Type 0 where
  pub lease : ViewLease
  pub taken : taken_fresh v now dir ≡ Some lease
  pub best : IsBestOf v.leases now (Life id) Exclusive lease

-- an exclusive lease on the file's life, for which the directory gave the identifier, serves, and no entry makes the file
pub record IsOffered (v : View) (now : ℕ) (dir id : List ℕ) : Type 0 where
  pub lease : ViewLease
  pub among : In lease v.leases
  pub below : lease.below ≡ Some dir
  pub file : file_in lease.standing ≡ id
  pub serving : serves now (Life id) Exclusive lease.standing ≡ true
  pub unmade : is_pending id v.pending ≡ false

-- an entry makes the file of each lease that would offer an identifier
abbrev pub NoneIsOffered : View → ℕ → List ℕ → Type 0
NoneIsOffered v now dir =
    (k : ViewLease) → In k v.leases → k.below ≡ Some dir
    → serves now (Life (file_in k.standing)) Exclusive k.standing ≡ true → is_pending (file_in k.standing) v.pending ≡ true

-- the two spaces have the same values of these items, as the session sees them
abbrev pub AgreeOn : NodeMap → NodeMap → Session → List Need → Type 0
AgreeOn m n by items =
    (field : Field) (kind : LeaseKind) → In (Lease field kind) items
    → value_at by field (get n (file_of field)) ≡ value_at by field (get m (file_of field))

-- the identifier that a create names is of no file that lives
abbrev pub IsUnborn : NodeMap → Op → Type 0
IsUnborn m (op.Create dir name kind (Some id)) = get m id ≡ None
IsUnborn m o = Unit {0}

-- the reply as far as needs tell it: that a directory would come into itself, ancestors alone tell
abbrev pub reply_told : Op → Reply → Reply
reply_told (op.Rename sdir sname ddir dname) r = but_cycle r
reply_told o r = r

-- the session's operation gets the same reply in both spaces, and has the same effects
pub record AreAnsweredAlike (m n : NodeMap) (by : Session) (o : Op) : Type 0 where
  pub reply : reply_told o (step m by o).reply ≡ reply_told o (step n by o).reply
  pub effects : effects_of by o (step m by o).reply ≡ effects_of by o (step n by o).reply
