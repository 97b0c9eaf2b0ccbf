-- The greatest reading rises, and the server drops the rows that have ended.
use Rattle.std.proofs.Common.{◌≡◌, ℕ, ◌+◌, ◌≤◌, Bool, false, List, filter, refl, arith}
use Rattle.fs_ident.specs.In.{In}
use Rattle.fs_ident.specs.declared.actor.Session.{Session}
use Rattle.fs_ident.proofs.Standing.{In-filter}
use Rattle.fs_field.specs.declared.row.Row.{Row}
use Rattle.fs_msg.specs.declared.item.Item.{Item}
use Rattle.fs_server.specs.declared.state.Server.{Server}
use Rattle.fs_serial.specs.Parts.{AllHold, SessionHolds, SessionFits}
use Rattle.fs_serial.specs.Settled.{Settled}
use Rattle.fs_serial.specs.Sight.{Counts, Sight, sight_with}
use Rattle.fs_serial.specs.World.{World, WorldHolds, settled_at, sight_in}
use Rattle.fs_serial.proofs.LedOperations.LedKept.{each_led}
use Rattle.fs_serial.proofs.Lists.Counting.{given_by}
use Rattle.fs_serial.proofs.OneServer.LeaseChanges.{goes_still}
use Rattle.fs_serial.proofs.OtherSessions.Older.{IsLater, later_among, stood_here}
use Rattle.fs_serial.proofs.Grants.RowKinds.{rows_lapse}
use Rattle.fs_serial.proofs.ClientMessages.Sending.{fit_still, goes_of, world_still}

-- later less is asked of leases
module _ (skew greatest later : ℕ) (rises : greatest ≤ later) where
  holds_later : (s : Sight) (by : Session) (replied : List Item) (d : Settled) → SessionHolds skew greatest s by replied d → SessionHolds skew later s by replied d
  holds_later s by replied d h = record { backed = λ l i late. h.backed l i (omega arith); telling = h.telling; pending = h.pending; numbers = h.numbers; replies = h.replies }

  fits_later : (s : Sight) (by : Session) (d : Settled) → SessionFits skew greatest s by d → SessionFits skew later s by d
  fits_later s by d f = record {
    given = f.given;
    distinct = f.distinct;
    matching = f.matching;
    fresh = f.fresh;
    lives = f.lives;
    held = f.held;
    backed = λ e i u j late. f.backed e i u j (omega arith);
    entries = f.entries;
    once = f.once;
    refused = f.refused;
    led = each_led skew greatest later s s by d d d.led (λ l is h. record { leads = h.leads; number = h.number; empty = h.empty; held = h.held; backed = λ e i u j late. h.backed e i u j (omega arith); parts = h.parts; home = h.home; lives = h.lives; right = h.right }) f.led;
  }

  pub all_later : (s : Sight) (replied : Session → List Item) (clients : Session → Settled) → AllHold skew greatest s replied clients → AllHold skew later s replied clients
  all_later s replied clients h = record {
    servers = h.servers;
    kept = h.kept;
    sessions = λ x. holds_later s x (replied x) (clients x) (h.sessions x);
    fitting = λ x. fits_later s x (clients x) (h.fitting x);
    reserved = h.reserved;
  }

pub world_later : (greatest later : ℕ) (w : World) → greatest ≤ later → WorldHolds greatest w → WorldHolds later w
world_later greatest later w rises h = record {
  all = all_later w.server.skew greatest later rises (sight_in w) w.replied (λ x. settled_at x (w.ends x)) h.all;
  clock = let c = h.clock in omega arith;
  clients = h.clients;
  exchanges = λ x. fit_still w.server.skew greatest later (sight_in w).given (sight_in w).given w.server.rows w.server.rows x (w.ends x) (h.exchanges x).pairs (h.exchanges x).returns
      (λ ends e i n until j l k q late. (h.exchanges x).renewals ends e i n until j l k q (omega arith)) (h.exchanges x);
}

-- ## Rows go

later_kept : (o : Counts) (s : Server) (keep : Row → Bool) → IsLater (given_by o s) (given_by o s) s.rows (filter keep s.rows)
later_kept o s keep = later_among (given_by o s) (given_by o s) s.rows (filter keep s.rows) (λ k. omega arith) (λ r i. stood_here s.rows r (In-filter keep r s.rows i))

-- those that had ended at the greatest reading
pub lapse_some_keeps : (greatest : ℕ) (w : World) (keep : Row → Bool) → ((r : Row) → In r w.server.rows → keep r ≡ false → r.until + w.server.skew ≤ greatest) → WorldHolds greatest w → WorldHolds greatest (record w { server = record w.server { rows = filter keep w.server.rows } })
lapse_some_keeps greatest w keep over h =
    let t : Server = record w.server { rows = filter keep w.server.rows } in
    world_still greatest w t w.journal refl h.clock (later_kept w.counts w.server keep)
    (goes_still w.server.skew greatest (sight_in w) (sight_with w.counts w.decided t w.journal) w.replied w.ends (λ x. settled_at x (w.ends x))
    (rows_lapse w.server.skew greatest (sight_in w) (λ x. settled_at x (w.ends x)) keep over) (goes_of greatest w h)) h

-- the server's last reading is another, no greater than the greatest
pub last_rises : (greatest last : ℕ) (w : World) → last ≤ greatest → WorldHolds greatest w → WorldHolds greatest (record w { server = record w.server { last = last } })
last_rises greatest last w before h = record { all = h.all; clock = before; clients = h.clients; exchanges = h.exchanges }
