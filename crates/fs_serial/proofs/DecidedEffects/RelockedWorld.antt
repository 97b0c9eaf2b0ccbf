-- A world in which rows are locked and unlocked: all that holds of it holds as before, but for what is decided.
use Rattle.std.proofs.Common.{◌≤◌, ℕ, List, map, refl, sym, ap, ◌∙◌, subst}
use Rattle.fs_ident.specs.In.{In}
use Rattle.fs_ident.specs.declared.actor.LeaseNo.{LeaseNo}
use Rattle.fs_ident.specs.declared.actor.Session.{Session}
use Rattle.fs_ident.proofs.Standing.{In-map, In-mapped}
use Rattle.fs_field.specs.Field.{file_of}
use Rattle.fs_field.specs.declared.row.Row.{Row}
use Rattle.fs_msg.specs.declared.answer.Answer.{Answer}
use Rattle.fs_msg.specs.declared.client_msg.ClientMsg.{ClientMsg}
use Rattle.fs_client.specs.declared.state.Client.{Client}
use Rattle.fs_serial.specs.Exchange.{ExchangeFits, PairFits, ReturnFits}
use Rattle.fs_serial.specs.Leases.{IsBacked}
use Rattle.fs_serial.specs.Locks.{IsRelock}
use Rattle.fs_serial.specs.Settled.{Lease, Settled}
use Rattle.fs_serial.specs.World.{World, WorldHolds, settled_at, sight_in}
use Rattle.fs_serial.proofs.Grants.Relocked.{StaysBut, row_relocked}
use Rattle.fs_serial.proofs.OneServer.LeaseChanges.{all_still}

abbrev pub with_locks : (Row → Row) → World → World
with_locks f w = record w { server = record (w.server) { rows = map f w.server.rows } }

module _ (f : Row → Row) (is : IsRelock f) where
  stays_but : (r : Row) → StaysBut r (f r)
  stays_but r = subst (StaysBut r) (sym (is r).1) (record {
    tells = record { number = refl; session = refl; field = refl; kind = refl; promise = refl };
    until = refl;
  })

  -- a row then is one of before
  was : (rows : List Row) (r : Row) → In r (map f rows) → (q : Row) × (In q rows × (StaysBut q r))
  was rows r i = let q = In-map f r rows i in (q.0, (q.1.0, subst (StaysBut q.0) (sym q.1.1) (stays_but q.0)))

  pair_still : (given : ℕ → ℕ) (rows : List Row) (p : List ℕ × LeaseNo) → PairFits given rows p → PairFits given (map f rows) p
  pair_still given rows p h = record {
    known = h.known;
    place = λ r i e.
        let q = was rows r i in
        ap file_of q.1.1.tells.field ∙ h.place q.0 q.1.0 (sym q.1.1.tells.number ∙ e);
  }

  return_still : (given : ℕ → ℕ) (rows : List Row) (by : Session) (leases : List Lease) (p : List ℕ × LeaseNo)
      → ReturnFits given rows by leases p → ReturnFits given (map f rows) by leases p
  return_still given rows by leases p h = record {
    fits = pair_still given rows p h.fits;
    alone = h.alone;
    own = λ r i e. let q = was rows r i in q.1.1.tells.session ∙ h.own q.0 q.1.0 (sym q.1.1.tells.number ∙ e);
  }

  backed_still : (rows : List Row) (n : LeaseNo) (until : ℕ) → IsBacked rows n until → IsBacked (map f rows) n until
  backed_still rows n until h = record {
    row = f h.row;
    stands = In-mapped f h.row rows h.stands;
    number = (stays_but h.row).tells.number ∙ h.number;
    lasts = subst (λ x. until ≤ x) (sym (stays_but h.row).until) h.lasts;
  }

  exchange_still : (skew greatest : ℕ) (given : ℕ → ℕ) (rows : List Row) (by : Session) (c : Client) (up : List ClientMsg)
      (down : List Answer) (now d : Settled) → ExchangeFits skew greatest given rows by c up down now d
      → ExchangeFits skew greatest given (map f rows) by c up down now d
  exchange_still skew greatest given rows by c up down now d h = record {
    one = h.one;
    ships = h.ships;
    front = h.front;
    leads = h.leads;
    released = h.released;
    kinds = h.kinds;
    pairs = λ m i p j. pair_still given rows p (h.pairs m i p j);
    returns = λ k i leaving. return_still given rows by d.leases _ (h.returns k i leaving);
    renewals = λ ends e i n until j l k same late. backed_still rows n until (h.renewals ends e i n until j l k same late);
  }

  pub relocked_holds : (greatest : ℕ) (w : World) → WorldHolds greatest w → WorldHolds greatest (with_locks f w)
  relocked_holds greatest w h = record {
    all = all_still w.server.skew greatest (sight_in w) (sight_in (with_locks f w)) w.replied w.ends (λ x. settled_at x (w.ends x))
        (row_relocked w.server.skew greatest (sight_in w) (λ x. settled_at x (w.ends x)) f stays_but) h.all;
    clock = h.clock;
    clients = h.clients;
    exchanges = λ x. exchange_still w.server.skew greatest (sight_in w).given w.server.rows x (w.ends x).client (w.ends x).up
        (w.ends x).down _ _ (h.exchanges x);
  }
