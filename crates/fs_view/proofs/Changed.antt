-- A change keeps the number of a lease.
use Rattle.std.proofs.Common.{◌≡◌, ℕ, ◌-◌, ◌==◌, Bool, true, false, refl, cond}
use Rattle.fs_lease.specs.Lease.{InUse}
use Rattle.fs_view.specs.declared.change.Change.{Change}
use Rattle.fs_view.specs.declared.change.Change.TheVariants.{Pin, Unpin, Recall, Leave, Renew}
use Rattle.fs_view.specs.declared.view_lease.ViewLease.{ViewLease}
use Rattle.fs_view.specs.declared.view_lease.Standing.{Standing}
use Rattle.fs_view.specs.declared.view_lease.Standing.TheVariants.{Held, Pinned, Leaving}
use Rattle.fs_view.specs.ViewLease.{number_of, pinned, unpinned, leaving, renewed}
use Rattle.fs_view.specs.Change.{changed}

pub pinned_number : (s : Standing) → number_of (pinned s) ≡ number_of s
pinned_number (Held l) = refl
pinned_number (Pinned u) = refl
pinned_number (Leaving l) = refl

unpinned_by : (b : Bool) (u : InUse) → number_of (cond b (Held u.lease) (Pinned (record u { entries = u.entries - 1 }))) ≡ u.lease.no
unpinned_by true u = refl
unpinned_by false u = refl

pub unpinned_number : (s : Standing) → number_of (unpinned s) ≡ number_of s
unpinned_number (Held l) = refl
unpinned_number (Pinned u) = unpinned_by (u.entries == 1) u
unpinned_number (Leaving l) = refl

pub leaving_number : (s : Standing) → number_of (leaving s) ≡ number_of s
leaving_number (Held l) = refl
leaving_number (Pinned u) = refl
leaving_number (Leaving l) = refl

pub renewed_number : (until : ℕ) (s : Standing) → number_of (renewed until s) ≡ number_of s
renewed_number until (Held l) = refl
renewed_number until (Pinned u) = refl
renewed_number until (Leaving l) = refl

pub same_number : (c : Change) (k : ViewLease) → number_of (changed c k).standing ≡ number_of k.standing
same_number Pin k = pinned_number k.standing
same_number Unpin k = unpinned_number k.standing
same_number Recall k = refl
same_number Leave k = leaving_number k.standing
same_number (Renew until) k = renewed_number until k.standing
