-- One session's client takes a step.
use Rattle.std.proofs.Common.{◌≡◌, ℕ, ◌==◌, true, false, List, [], ◌++◌, append-nil, map, cond, refl, sym, ap, ◌∙◌, subst}
use Rattle.std.specs.Prelude.{Option, Some, None}
use Rattle.fs_ident.specs.In.{In}
use Rattle.fs_ident.specs.declared.actor.Session.{Session}
use Rattle.fs_ident.specs.declared.kind.Kind.TheVariants.{Dir}
use Rattle.fs_ident.proofs.Same.{one_session}
use Rattle.fs_map.specs.Map.{Owners}
use Rattle.fs_model.specs.Asking.{home_of}
use Rattle.fs_msg.specs.declared.answer.Answer.{Answer}
use Rattle.fs_msg.specs.declared.client_msg.ClientMsg.{ClientMsg}
use Rattle.fs_msg.specs.declared.item.Item.{Item}
use Rattle.fs_server.specs.Ships.{item_of}
use Rattle.fs_client.specs.Client.{begun, with_hints}
use Rattle.fs_view.specs.View.{lapsed_at}
use Rattle.fs_client.specs.declared.state.Client.{Client}
use Rattle.fs_client.proofs.Planning.{max_again}
use Rattle.fs_serial.specs.Fresh.{FreshReserved, IsMade, made, reserved_by}
use Rattle.fs_serial.specs.Numbers.{AreNumbered, all_items, items_by}
use Rattle.fs_serial.specs.Parts.{ServersHold, ServersFit}
use Rattle.fs_serial.specs.Settled.{settled_now}
use Rattle.fs_serial.specs.Sight.{Sight, sight_with}
use Rattle.fs_serial.specs.World.{Ends, World, WorldHolds, pushed, settled_at, sight_in, with_ends, with_told}
use Rattle.fs_serial.proofs.LedOperations.LedKept.{each_led}
use Rattle.fs_serial.proofs.ClientMessages.Carried.{GoesOnAs, exchange_still}
use Rattle.fs_serial.proofs.OtherSessions.Gone.{telling_later, tells_later}
use Rattle.fs_serial.proofs.Returns.Lapse.{lapse_fewer, session_lapse}
use Rattle.fs_serial.proofs.ClientMessages.SessionStates.{SessionStateHolds, seen_at}
use Rattle.fs_serial.proofs.Grants.Claims.{NoneAnew, none_anew, none_anew_in}
use Rattle.fs_serial.proofs.OtherSessions.Together.{fewer_reserved}

pub session_of : (greatest : ℕ) (w : World) (x : Session) → WorldHolds greatest w → SessionStateHolds w.server.skew greatest (sight_in w) x (w.replied x) (w.ends x).client (w.ends x).up (w.ends x).down
session_of greatest w x h = record { holds = h.all.sessions x; fits = h.all.fitting x; client = h.clients x; exchange = h.exchanges x }

-- the sight with another journal
abbrev pub with_journal : List Item → Sight → Sight
with_journal journal s = record s { journal = journal }

-- another session's items in the journal are of no matter
pub session_beside : (skew greatest : ℕ) (s : Sight) (x : Session) (replied : List Item) (c : Client) (up : List ClientMsg) (down : List Answer) (journal : List Item) → ((id : List ℕ) → IsMade s.journal id → IsMade journal id) → ((id : List ℕ) → made s.journal id ≡ Some Dir → made journal id ≡ Some Dir) → items_by x journal ≡ items_by x s.journal → SessionStateHolds skew greatest s x replied c up down → SessionStateHolds skew greatest (with_journal journal s) x replied c up down
session_beside skew greatest s x replied c up down journal grows dirs same h =
    let d = seen_at x c down in
    let items : all_items x journal d.log ≡ all_items x s.journal d.log = ap (λ is. is ++ map (item_of x) d.log) same in
    record {
      holds = record { backed = h.holds.backed; telling = telling_later s.rows s.records s.journal journal grows x d.leases h.holds.telling; pending = h.holds.pending; numbers = subst (λ is. AreNumbered 1 is d.next) (sym items) h.holds.numbers; replies = items ∙ h.holds.replies };
      fits = record { given = h.fits.given; distinct = h.fits.distinct; matching = h.fits.matching; fresh = h.fits.fresh; lives = λ l i file on. tells_later s.journal journal file l.base (dirs file) (h.fits.lives l i file on); held = h.fits.held; backed = h.fits.backed; entries = h.fits.entries; once = h.fits.once; refused = h.fits.refused; led = each_led skew greatest greatest s (with_journal journal s) x d d d.led (λ l is h. record { leads = h.leads; number = h.number; empty = h.empty; held = h.held; backed = h.backed; parts = h.parts; home = dirs (home_of l.entry.op) h.home; lives = h.lives; right = h.right }) h.fits.led };
      client = h.client;
      exchange = h.exchange;
    }

-- a session's client, what is on its way, and what its caller is told, after a step
pub record IsMoved (skew greatest : ℕ) (s t : Sight) (by : Session) (replied : List Item) (c : Client) (down : List Answer) (told : Option Item) (e : Ends) : Type 0 where
  pub state : SessionStateHolds skew greatest t by (pushed told replied) e.client e.up e.down
  -- no identifier is reserved anew
  pub reserves : NoneAnew (seen_at by c down) (settled_at by e)

-- what holds of each session where one has changed
each_two : (P : Session → List Item → Ends → Type 0) (by : Session) (told : Option Item) (e : Ends) (replied : Session → List Item) (ends : Session → Ends) → P by (pushed told (replied by)) e → ((x : Session) → (by.0 == x.0) ≡ false → P x (replied x) (ends x)) → (x : Session)
    → P x (cond (by.0 == x.0) (pushed told (replied x)) (replied x)) (cond (by.0 == x.0) e (ends x))
each_two P by told e replied ends own others x = elim (by.0 == x.0) as (λ b. (by.0 == x.0) ≡ b → P x (cond b (pushed told (replied x)) (replied x)) (cond b e (ends x))) [
  | true ↦ λ q. subst (λ y. P y (pushed told (replied y)) e) (one_session by x q) own
  | false ↦ λ q. others x q
] refl

module _ (greatest : ℕ) (w : World) (by : Session) (journal : List Item) (told : Option Item) (e : Ends) (h : WorldHolds greatest w) (grows : (id : List ℕ) → IsMade w.journal id → IsMade journal id) (dirs : (id : List ℕ) → made w.journal id ≡ Some Dir → made journal id ≡ Some Dir) (others : (x : Session) → (by.0 == x.0) ≡ false → items_by x journal ≡ items_by x w.journal) (holds : ServersHold (sight_with w.counts w.decided w.server journal)) (fits : ServersFit (sight_with w.counts w.decided w.server journal)) (reserved : FreshReserved (reserved_by (λ x. settled_at x (w.ends x))) (sight_in w).stored journal) (moved : IsMoved w.server.skew greatest (sight_in w) (sight_with w.counts w.decided w.server journal) by (w.replied by) (w.ends by).client (w.ends by).down told e) where
  abbrev ends : Session → Ends
  ends = with_ends by e w.ends

  states : (x : Session) → SessionStateHolds w.server.skew greatest (sight_with w.counts w.decided w.server journal) x (with_told by told w.replied x) (ends x).client (ends x).up (ends x).down
  states = each_two (λ x is n. SessionStateHolds w.server.skew greatest (sight_with w.counts w.decided w.server journal) x is n.client n.up n.down) by told e w.replied w.ends moved.state
      (λ x q. session_beside w.server.skew greatest (sight_in w) x (w.replied x) (w.ends x).client (w.ends x).up (w.ends x).down journal grows dirs (others x q) (session_of greatest w x h))

  still_reserved : (x : Session) → NoneAnew (settled_at x (w.ends x)) (settled_at x (ends x))
  still_reserved = each_two (λ x is m. NoneAnew (settled_at x (w.ends x)) (settled_at x m)) by told e w.replied w.ends
      moved.reserves
      (λ x q. none_anew (settled_at x (w.ends x)))

  pub world_moved : WorldHolds greatest (record { server = w.server; counts = w.counts; decided = w.decided; journal = journal; replied = with_told by told w.replied; ends = ends })
  world_moved = record {
    all = record {
      servers = holds;
      kept = fits;
      sessions = λ x. (states x).holds;
      fitting = λ x. (states x).fits;
      reserved = fewer_reserved (reserved_by (λ x. settled_at x (w.ends x))) (reserved_by (λ x. settled_at x (ends x))) (sight_in w).stored journal still_reserved reserved;
    };
    clock = h.clock;
    clients = λ x. (states x).client;
    exchanges = λ x. (states x).exchange;
  }

-- ## What a server said of who manages what

-- is of no matter to what holds
pub hinted_moved : (skew greatest : ℕ) (s t : Sight) (by : Session) (replied : List Item) (c d : Client) (up : List ClientMsg) (down rest : List Answer) (told : Option Item) (hints : Option Owners) → IsMoved skew greatest s t by replied c down told (record { client = d; up = up; down = rest })
    → IsMoved skew greatest s t by replied c down told (record { client = with_hints hints d; up = up; down = rest })
hinted_moved skew greatest s t by replied c d up down rest told None m = m
hinted_moved skew greatest s t by replied c d up down rest told (Some hints) m =
    let h = m.state in
    let n : Client = with_hints (Some hints) d in
    let same : GoesOnAs d n [] = record {
      exchange = refl;
      led = refl;
      fewer = λ k i. record { kept = k; among = i; number = refl };
      log = sym (append-nil d.log);
      went = λ k i z. record { kept = k; among = i; pair = refl; leaving = z };
      goes = λ k i z. record { kept = k; among = i; number = refl; leaving = z };
    } in
    record {
      state = record {
        holds = h.holds;
        fits = h.fits;
        client = record { session = h.client.session; viewed = h.client.viewed; pending = h.client.pending; distinct = h.client.distinct; pinned = h.client.pinned; held = h.client.held };
        exchange = exchange_still skew greatest t.given t.rows by d n [] up rest (settled_now d) (settled_now n) (seen_at by d rest) (seen_at by n rest) same
            (λ l i. record { lease = l; held = i; number = refl }) (λ l i. record { lease = l; held = i; number = refl }) (sym (append-nil (seen_at by d rest).log)) refl h.exchange;
      };
      reserves = m.reserves;
    }

-- ## Each event begins with the lapse of leases

pub begun_moved : (skew greatest : ℕ) (s : Sight) (by : Session) (replied : List Item) (c : Client) (up : List ClientMsg) (down : List Answer) (now : ℕ) → SessionStateHolds skew greatest s by replied c up down → IsMoved skew greatest s s by replied c down None (record { client = begun now c; up = up; down = down })
begun_moved skew greatest s by replied c up down now h = record {
  state = session_lapse skew greatest s by replied c up down now h;
  reserves = let q = lapse_fewer by c now h.client down in none_anew_in (seen_at by c down) (seen_at by (begun now c) down) q.fewer (λ x i. subst (In x) q.log i);
}

-- the reading of the event is the greatest so far
pub begun_again : (c : Client) (now : ℕ) → begun (begun now c).last c ≡ begun now c
begun_again c now = ap (λ n. let x : Client = record c { last = n; view = lapsed_at n c.view } in x) (max_again c.last now)
