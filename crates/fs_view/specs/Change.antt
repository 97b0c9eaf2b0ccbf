-- What becomes of a lease in place.
use Rattle.std.specs.Prelude.{Bool, true}
use Rattle.fs_view.specs.declared.change.Change.{Change}
use Rattle.fs_view.specs.declared.change.Change.TheVariants.{Pin, Unpin, Recall, Leave, Renew}
use Rattle.fs_view.specs.declared.view_lease.ViewLease.{ViewLease}
use Rattle.fs_view.specs.declared.view_lease.Standing.{Standing}
use Rattle.fs_view.specs.ViewLease.{takes_pin, pinned, unpinned, leaving, renewed, recalled_as}

abbrev pub changed : Change → ViewLease → ViewLease
changed Pin k = record k { standing = pinned k.standing }
changed Unpin k = record k { standing = unpinned k.standing }
changed Recall k = record k { recalled = recalled_as k.standing k.recalled }
changed Leave k = record k { standing = leaving k.standing }
changed (Renew until) k = record k { standing = renewed until k.standing }

-- the change can be made: there is a greatest number of entries
abbrev pub fits : Change → Standing → Bool
fits Pin s = takes_pin s
fits change s = true
