-- A lease of which one entry less makes use.
use Rattle.std.specs.Prelude.{◌-◌, ◌==◌, if◌then◌else◌}
use Rattle.fs_lease.specs.Lease.{InUse}
use Rattle.fs_lease.specs.declared.pinned.Unpinned.{Unpinned}
use Rattle.fs_lease.specs.declared.pinned.Unpinned.TheVariants.{Still, Free}

-- with the last entry it is free
abbrev pub one_entry_less : InUse → Unpinned
one_entry_less p = if p.entries == 1 then Free p.lease else Still (record p { entries = p.entries - 1 })
