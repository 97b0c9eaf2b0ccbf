-- One lease of a client: how it stands, what it serves for, and what becomes of it.
use Rattle.std.specs.Prelude.{ℕ, ◌+◌, ◌-◌, Bool, true, false, not, ◌&&◌, ◌||◌, ◌==◌, nat_lt, nat_le, List, Option, Some, None, if◌then◌else◌, option_map}
use Rattle.std.specs.List.{list_any}
use Rattle.fs_ident.specs.Ident.{same}
use Rattle.fs_ident.specs.declared.actor.LeaseNo.{LeaseNo}
use Rattle.fs_field.specs.declared.effect.Effect.{Effect}
use Rattle.fs_field.specs.declared.effect.Effect.TheVariants.{NewNode}
use Rattle.fs_field.specs.declared.field.Field.{Field}
use Rattle.fs_field.specs.declared.field.Field.TheVariants.{Life}
use Rattle.fs_field.specs.declared.lease_kind.LeaseKind.{LeaseKind}
use Rattle.fs_field.specs.declared.lease_kind.LeaseKind.TheVariants.{Exclusive}
use Rattle.fs_field.specs.declared.used.Use.{Use}
use Rattle.fs_field.specs.Conflict.{is_exclusive}
use Rattle.fs_field.specs.Field.{same_field, file_of}
use Rattle.fs_field.specs.Table.{same_no, no_before, is_parent}
use Rattle.fs_lease.specs.Lease.{Lease}
use Rattle.fs_view.specs.declared.view_lease.ViewLease.{ViewLease}
use Rattle.fs_view.specs.declared.view_lease.Standing.{Standing}
use Rattle.fs_view.specs.declared.view_lease.Standing.TheVariants.{Held, Pinned, Leaving}
use Rattle.fs_view.specs.declared.seen.Seen.{Seen}

-- ## Reading

-- the lease, unless it goes back
abbrev pub lease_of : Standing → Option Lease
lease_of (Held l) = Some l
lease_of (Pinned u) = Some u.lease
lease_of (Leaving l) = None

abbrev pub number_of : Standing → LeaseNo
number_of (Held l) = l.no
number_of (Pinned u) = u.lease.no
number_of (Leaving l) = l.no

abbrev pub has_number : LeaseNo → ViewLease → Bool
has_number number k = same_no (number_of k.standing) number

-- its end; one that goes back has none any more
abbrev pub until_of : Standing → ℕ
until_of (Held l) = l.until
until_of (Pinned u) = u.lease.until
until_of (Leaving l) = 0

abbrev pub field_in : Standing → Option Field
field_in s = option_map (λ (l : Lease). l.field) (lease_of s)

abbrev pub file_in : Standing → List ℕ
file_in (Held l) = file_of l.field
file_in (Pinned u) = file_of u.lease.field
file_in (Leaving l) = l.file

-- how many entries use it
abbrev pub entries_of : Standing → ℕ
entries_of (Held l) = 0
entries_of (Pinned u) = u.entries
entries_of (Leaving l) = 0

-- the lease as others see it
abbrev pub seen_of : ViewLease → Seen
seen_of k =
    record {
      no = number_of k.standing;
      file = file_in k.standing;
      until = option_map (λ (l : Lease). l.until) (lease_of k.standing);
      entries = entries_of k.standing;
      recalled = k.recalled;
    }

-- ## What it serves for

-- a lease of this kind, or an exclusive one
abbrev pub is_enough : LeaseKind → LeaseKind → Bool
is_enough had wanted = is_exclusive had || not (is_exclusive wanted)

-- the lease makes the field known at the reading
abbrev pub makes_known : ℕ → Field → LeaseKind → Lease → Bool
makes_known now field kind l = (same_field l.field field && is_enough l.kind kind) && nat_lt now l.until

-- it does so, and does not go back
abbrev pub serves : ℕ → Field → LeaseKind → Standing → Bool
serves now field kind (Held l) = makes_known now field kind l
serves now field kind (Pinned u) = makes_known now field kind u.lease
serves now field kind (Leaving l) = false

-- of two leases the one that ends later is taken, and of two that end together the one with the lesser number
abbrev pub is_better_than : Standing → Standing → Bool
is_better_than s other =
    nat_lt (until_of other) (until_of s)
    || ((until_of s == until_of other) && no_before (number_of s) (number_of other))

abbrev pub is_better : ViewLease → Option ViewLease → Bool
is_better k None = true
is_better k (Some other) = is_better_than k.standing other.standing

-- the lease as an entry names it
abbrev pub use_of : Lease → Use
use_of l = record { field = l.field; kind = l.kind; no = l.no; until = l.until }

abbrev pub use_in : Standing → Option Use
use_in s = option_map use_of (lease_of s)

-- ## Identifiers for new files

-- an effect makes the file
abbrev pub makes : List ℕ → Effect → Bool
makes file (NewNode new kind dir name) = same new file
makes file e = false

-- an entry of the log makes it
abbrev pub is_pending : List ℕ → List (List Effect) → Bool
is_pending file log = list_any (λ es. list_any (makes file) es) log

-- the field is the life of its file
abbrev pub is_life : Field → Bool
is_life (Life file) = true
is_life field = false

-- at the reading it is an exclusive lease on the life of its file, and no entry makes that file
abbrev pub is_unused : ℕ → List (List Effect) → Standing → Bool
is_unused now log s = serves now (Life (file_in s)) Exclusive s && not (is_pending (file_in s) log)

-- it is on an unused file whose identifier was given for the directory
abbrev pub offers : ℕ → List ℕ → List (List Effect) → ViewLease → Bool
offers now dir log k = is_parent dir k.below && is_unused now log k.standing

-- ## Steps

abbrev pub is_held : Standing → Bool
is_held (Held l) = true
is_held s = false

abbrev pub is_pinned : Standing → Bool
is_pinned (Pinned u) = true
is_pinned s = false

abbrev pub is_leaving : Standing → Bool
is_leaving (Leaving l) = true
is_leaving s = false

-- one entry more can use it
abbrev pub takes_pin : Standing → Bool
takes_pin (Held l) = true
takes_pin (Pinned u) = nat_lt u.entries 0xffff_ffff_ffff_ffff
takes_pin (Leaving l) = false

-- a lease that no entry uses is over at its end
abbrev pub has_ended : ℕ → Standing → Bool
has_ended now (Held l) = nat_le l.until now
has_ended now s = false

-- an entry uses the lease, or it goes back, or it is not over
abbrev pub is_live : ℕ → ViewLease → Bool
is_live now k = not (has_ended now k.standing)

-- one entry more uses it
abbrev pub pinned : Standing → Standing
pinned (Held l) = Pinned (record { lease = l; entries = 1 })
pinned (Pinned u) = Pinned (record u { entries = u.entries + 1 })
pinned (Leaving l) = Leaving l

-- one entry less uses it
abbrev pub unpinned : Standing → Standing
unpinned (Held l) = Held l
unpinned (Pinned u) = if u.entries == 1 then Held u.lease else Pinned (record u { entries = u.entries - 1 })
unpinned (Leaving l) = Leaving l

-- a lease that no entry uses goes back
abbrev pub leaving : Standing → Standing
leaving (Held l) = Leaving (record { no = l.no; file = file_of l.field })
leaving (Pinned u) = Pinned u
leaving (Leaving l) = Leaving l

-- it has another end
abbrev pub renewed : ℕ → Standing → Standing
renewed until (Held l) = Held (record l { until = until })
renewed until (Pinned u) = Pinned (record { lease = record u.lease { until = until }; entries = u.entries })
renewed until (Leaving l) = Leaving l

-- its server asked for it, unless it goes back already
abbrev pub recalled_as : Standing → Bool → Bool
recalled_as (Leaving l) recalled = recalled
recalled_as s recalled = true
