-- The server refuses an entry: a lease that it used has no row.
use Rattle.std.proofs.Common.{◌≡◌, ℕ, not, true, List, ◌∷◌, refl, sym, ◌∙◌, subst, inl}
use Rattle.std.specs.Prelude.{◌≢◌, Some}
use Rattle.fs_ident.specs.In.{In}
use Rattle.fs_ident.specs.declared.actor.Session.{Session}
use Rattle.fs_ident.proofs.Passing.{found}
use Rattle.fs_ident.proofs.Booleans.{denied}
use Rattle.fs_field.specs.declared.row.Row.{Row}
use Rattle.fs_field.specs.declared.used.Use.{Use}
use Rattle.fs_field.specs.Table.{is_lease}
use Rattle.fs_moderows.proofs.Witnesses.{In_any}
use Rattle.fs_msg.specs.declared.entry.Entry.{Entry}
use Rattle.fs_msg.specs.declared.item.Item.{Item}
use Rattle.fs_server.specs.Ships.{first_gone, has_row}
use Rattle.fs_serial.specs.Fresh.{reserved_by}
use Rattle.fs_serial.specs.Parts.{with_client, SessionHolds, SessionFits}
use Rattle.fs_serial.specs.Settled.{Settled, with_over}
use Rattle.fs_serial.specs.Sight.{Sight}
use Rattle.fs_serial.specs.World.{Ends, GoesOn}
use Rattle.fs_serial.proofs.LedOperations.LedKept.{each_led}
use Rattle.fs_serial.proofs.OneServer.LeaseChanges.{carried_alike}
use Rattle.fs_serial.proofs.Grants.OneLease.{lease_is}
use Rattle.fs_serial.proofs.Grants.Claims.{NoneAnew, none_anew}
use Rattle.fs_serial.proofs.OtherSessions.Together.{each_session, fewer_reserved}

-- the row of a used lease is the row that the entry stands on
pub use_gone : (skew greatest : ℕ) (s : Sight) (by : Session) (d : Settled) (e : Entry) (u : Use) → SessionFits skew greatest s by d → In e d.log → In u e.uses → not (has_row s.rows by u) ≡ true → (r : Row) → In r s.rows → r.no ≢ u.no
use_gone skew greatest s by d e u f i j gone r k n =
    let l = f.held e i u j in
    let m = f.matching l.lease l.held r k (n ∙ sym l.number) in
    denied (has_row s.rows by u) gone (In_any (is_lease u.no by u.field u.kind) s.rows r k (lease_is r u by n m.session (m.field ∙ l.field) (m.kind ∙ l.kind)))

module _ (skew greatest : ℕ) (s : Sight) (replied : Session → List Item) (ends : Session → Ends) (clients : Session → Settled) (by : Session) (e : Entry) (rest : List Entry) (u : Use) (log : (clients by).log ≡ e ∷ rest) (gone : first_gone s.rows by e.uses ≡ Some u) where
  abbrev d : Settled
  d = with_over (Some e.n) (clients by)

  refused_fits : SessionFits skew greatest s by (clients by) → SessionFits skew greatest s by d
  refused_fits f =
      let q = found (λ u. not (has_row s.rows by u)) e.uses u gone in
      record {
        given = f.given;
        distinct = f.distinct;
        matching = f.matching;
        fresh = f.fresh;
        lives = f.lives;
        held = f.held;
        backed = f.backed;
        entries = f.entries;
        once = f.once;
        refused = λ n is. let same : e.n ≡ n = cc in record {
          first = e;
          rest = rest;
          log = log;
          number = same;
          used = u;
          among = q.0;
          gone = use_gone skew greatest s by (clients by) e u f (subst (λ es. In e es) (sym log) (inl refl)) q.0 q.1;
        };
        led = each_led skew greatest greatest s s by (clients by) d (clients by).led (λ l is h. record { leads = h.leads; number = h.number; empty = h.empty; held = h.held; backed = h.backed; parts = h.parts; home = h.home; lives = h.lives; right = h.right }) f.led;
      }

  still : (x : Session) → NoneAnew (clients x) (with_client by d clients x)
  still = each_session (λ x (c : Settled). NoneAnew (clients x) c) by d clients (none_anew (clients by)) (λ x other. none_anew (clients x))

  pub entry_refused : GoesOn skew greatest s replied ends clients → GoesOn skew greatest s replied ends (with_client by d clients)
  entry_refused h = record {
    all = record {
      servers = h.all.servers;
      kept = h.all.kept;
      sessions = each_session (λ x c. SessionHolds skew greatest s x (replied x) c) by d clients
          (let q = h.all.sessions by in record { backed = q.backed; telling = q.telling; pending = q.pending; numbers = q.numbers; replies = q.replies })
          (λ x other. h.all.sessions x);
      fitting = each_session (λ x c. SessionFits skew greatest s x c) by d clients (refused_fits (h.all.fitting by)) (λ x other. h.all.fitting x);
      reserved = fewer_reserved (reserved_by clients) (reserved_by (with_client by d clients)) s.stored s.journal still h.all.reserved;
    };
    carried = carried_alike skew greatest s ends clients by d (λ l i. record { lease = l; held = i; number = refl }) (λ l i. record { lease = l; held = i; number = refl }) h.carried;
  }
