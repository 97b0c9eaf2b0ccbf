-- What holds inside a client, whatever the servers do.
use Rattle.std.specs.Prelude.{◌≡◌, ℕ, ◌+◌, List, [], ◌∷◌, map, Option, Some, None, if◌then◌else◌}
use Rattle.fs_ident.specs.In.{In}
use Rattle.fs_ident.specs.declared.actor.LeaseNo.{LeaseNo}
use Rattle.fs_ident.specs.declared.actor.Session.{Session}
use Rattle.fs_field.specs.declared.used.Use.{Use}
use Rattle.fs_field.specs.Table.{same_no}
use Rattle.fs_msg.specs.declared.entry.Entry.{Entry}
use Rattle.fs_view.specs.declared.view_lease.ViewLease.{ViewLease}
use Rattle.fs_view.specs.ViewLease.{number_of, entries_of}
use Rattle.fs_client.specs.declared.led.Led.{Led}
use Rattle.fs_client.specs.declared.state.Client.{Client}
use Rattle.fs_serial.specs.Pending.{UsesHeld}
use Rattle.fs_serial.specs.Settled.{effects_in, settled_now}

-- how often the lease is among these
abbrev pub times_used : LeaseNo → List Use → ℕ
times_used number [] = 0
times_used number (u ∷ us) = if same_no u.no number then times_used number us + 1 else times_used number us

-- and in how many uses of the log
abbrev pub times_in : LeaseNo → List Entry → ℕ
times_in number [] = 0
times_in number (e ∷ es) = times_used number e.uses + times_in number es

-- what is led, before the log
abbrev pub led_before : Option Led → List Entry → List Entry
led_before None log = log
led_before (Some l) log = l.entry ∷ log

-- each lease is in use by as many entries as use it
abbrev pub PinsCounted : List ViewLease → List Entry → Type 0
PinsCounted leases log = (k : ViewLease) → In k leases → entries_of k.standing ≡ times_in (number_of k.standing) log

-- two leases with one number are one
abbrev pub KeptDistinct : List ViewLease → Type 0
KeptDistinct leases = (k l : ViewLease) → In k leases → In l leases → number_of k.standing ≡ number_of l.standing → k ≡ l

-- the client is of the session, its view knows what its log will do, and its leases are in use by its entries and by what is led
pub record ClientFits (by : Session) (c : Client) : Type 0 where
  pub session : c.session ≡ by
  pub viewed : c.view.session ≡ by
  pub pending : c.view.pending ≡ map (effects_in by) c.log
  pub distinct : KeptDistinct c.view.leases
  pub pinned : PinsCounted c.view.leases (led_before c.led c.log)
  -- what its entries use it has, and that does not go back
  pub held : UsesHeld (settled_now c).leases (led_before c.led c.log)
