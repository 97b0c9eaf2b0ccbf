-- New base values, put into their leases.
use Rattle.std.specs.Prelude.{ℕ, Bool, false, List, [], ◌∷◌, Option, None, unwrap_or, if◌then◌else◌}
use Rattle.fs_ident.specs.declared.actor.Session.{Session}
use Rattle.fs_field.specs.declared.effect.Effect.{Effect}
use Rattle.fs_field.specs.declared.value.Value.{Value}
use Rattle.fs_field.specs.Field.{file_of}
use Rattle.fs_view.specs.declared.view_lease.ViewLease.{ViewLease}
use Rattle.fs_view.specs.declared.view_lease.Standing.{Standing}
use Rattle.fs_view.specs.declared.view_lease.Standing.TheVariants.{Held, Pinned, Leaving}
use Rattle.fs_view.specs.ViewLease.{is_pending}
use Rattle.fs_view.specs.View.{knowing, value_after_log}

-- the effects of these entries are known to be admitted
abbrev pub knowing_all : Session → List (List Effect) → ViewLease → ViewLease
knowing_all s [] k = k
knowing_all s (es ∷ log) k = knowing_all s log (knowing s es k)

-- the base value after all of them
abbrev pub base_after_log : Session → List (List Effect) → Standing → Value → Value
base_after_log s log (Held l) base = value_after_log s l.field base log
base_after_log s log (Pinned u) base = value_after_log s u.lease.field base log
base_after_log s log (Leaving l) base = base

-- one of the entries makes the file that the lease is on
abbrev pub is_made_by : List (List Effect) → Standing → Bool
is_made_by log (Held l) = is_pending (file_of l.field) log
is_made_by log (Pinned u) = is_pending (file_of u.lease.field) log
is_made_by log (Leaving l) = false

-- an identifier is no longer for a new file once that is made
abbrev pub below_after_log : List (List Effect) → Standing → Option (List ℕ) → Option (List ℕ)
below_after_log log s below = if is_made_by log s then None else below

-- the lease with the new base value, where there is one
abbrev pub with_base : List (List Effect) → ViewLease → Option Value → ViewLease
with_base log k base = record k { base = unwrap_or base k.base; below = below_after_log log k.standing k.below }

-- and so each lease with the one at its place
abbrev pub with_bases : List (List Effect) → List ViewLease → List (Option Value) → List ViewLease
with_bases log [] bases = []
with_bases log (k ∷ ks) [] = k ∷ ks
with_bases log (k ∷ ks) (b ∷ bs) = with_base log k b ∷ with_bases log ks bs
