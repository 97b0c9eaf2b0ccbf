-- Leases that several entries more are to use.
use Rattle.std.specs.Prelude.{ℕ, ◌+◌, Bool, true, false, ◌&&◌, nat_lt, List, [], ◌∷◌, ◌++◌, if◌then◌else◌}
use Rattle.fs_ident.specs.declared.actor.LeaseNo.{LeaseNo}
use Rattle.fs_field.specs.declared.used.Use.{Use}
use Rattle.fs_field.specs.Table.{same_no}
use Rattle.fs_view.specs.declared.view_lease.ViewLease.{ViewLease}
use Rattle.fs_view.specs.declared.view_lease.Standing.{Standing}
use Rattle.fs_view.specs.declared.view_lease.Standing.TheVariants.{Held, Pinned, Leaving}
use Rattle.fs_view.specs.View.{stands}

-- how many of the uses are of the lease
abbrev pub times_in : LeaseNo → List Use → ℕ
times_in number [] = 0
times_in number (u ∷ us) = (if same_no u.no number then 1 else 0) + times_in number us

-- one entry more can use it when so many more do
abbrev pub takes_after : ℕ → Standing → Bool
takes_after more (Held l) = nat_lt more 0xffff_ffff_ffff_ffff
takes_after more (Pinned u) = nat_lt (u.entries + more) 0xffff_ffff_ffff_ffff
takes_after more (Leaving l) = false

-- one entry more can use each of these leases, when those before are used too
abbrev pub can_pin_after : List Use → List Use → List ViewLease → Bool
can_pin_after before [] leases = true
can_pin_after before (u ∷ us) leases = stands (takes_after (times_in u.no before)) u.no leases && can_pin_after (before ++ u ∷ []) us leases
