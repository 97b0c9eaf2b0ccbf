-- The leases that are not over at a reading, and what is read of them.
use Rattle.std.specs.Prelude.{ℕ, Bool, not, ◌&&◌, List}
use Rattle.std.specs.List.{filter}
use Rattle.fs_field.specs.declared.asked.Need.{Need}
use Rattle.fs_view.specs.declared.view_lease.ViewLease.{ViewLease}
use Rattle.fs_view.specs.ViewLease.{is_live}
use Rattle.fs_view.specs.View.{given_by, known_by}
use Rattle.fs_view.specs.Walk.{is_there}
use Rattle.fs_client.specs.declared.state.Client.{Client}
use Rattle.fs_client.specs.Turns.{ends_by, has_to_go}

abbrev pub live_of : ℕ → List ViewLease → List ViewLease
live_of now leases = filter (is_live now) leases

abbrev pub is_returned : ℕ → ViewLease → Bool
is_returned now k = is_live now k && has_to_go k.recalled k.standing

abbrev pub is_ending : ℕ → ℕ → ViewLease → Bool
is_ending now soon k = is_live now k && (not k.recalled && ends_by soon k.standing)

-- those of the items that are not there
abbrev pub absent_from : Client → List Need → List Need
absent_from c items = filter (λ need. not (is_there (known_by c.view c.last) (given_by c.view c.last) need)) items
