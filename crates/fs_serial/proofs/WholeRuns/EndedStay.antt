-- A lease that had ended has no row ever again: no row with an old number is new.
use Rattle.std.proofs.Common.{◌≡◌, ℕ, ◌==◌, ◌≤◌, true, false, cond, map, filter, refl, sym, ap, ap₂, ◌∙◌, subst, arith}
use Rattle.std.proofs.lemmas.Bool.{eqb-true}
use Rattle.std.specs.Prelude.{Some, slice_get, slice_set, Bool, List}
use Rattle.fs_ident.specs.In.{In}
use Rattle.fs_ident.specs.declared.actor.LeaseNo.{LeaseNo}
use Rattle.fs_ident.specs.declared.actor.Session.{Session}
use Rattle.fs_ident.proofs.Standing.{In-filter, In-map}
use Rattle.fs_field.specs.declared.row.Row.{Row}
use Rattle.fs_server.specs.declared.state.Server.{Server}
use Rattle.fs_serial.specs.Cluster.{Cluster, parcels_of}
use Rattle.fs_serial.specs.EndedLeases.{WasEnded}
use Rattle.fs_serial.specs.Joined.{rows_of_all}
use Rattle.fs_serial.specs.Locks.{IsRelock, at_home}
use Rattle.fs_serial.specs.Places.{PlacesHold}
use Rattle.fs_serial.specs.Refusals.{rows_in}
use Rattle.fs_serial.specs.Relies.{Stood}
use Rattle.fs_serial.specs.Seen.{counts_of, given_at}
use Rattle.fs_serial.specs.Sight.{IsGiven, count_with}
use Rattle.fs_serial.proofs.OtherSessions.Older.{IsLater, later_among, stood_here}
use Rattle.fs_serial.proofs.Places.RelockedRows.{home_relock, rows_relocked}
use Rattle.fs_serial.proofs.Transactions.Desks.{is_at, is_still, was_at}
use Rattle.fs_serial.proofs.Transactions.PlacesAfter.{AreRelocked}

-- no row with an old number is new, of all
abbrev pub RowsLater : Cluster → Cluster → Type 0
RowsLater c d = IsLater (counts_of c.servers).given (counts_of d.servers).given (rows_in c) (rows_in d)

-- so it stays without its row while its session waits for the same
pub ended_stays : (c d : Cluster) (by : Session) (number : LeaseNo) (end now : ℕ) → RowsLater c d
    → (d.lines by).client.led ≡ (c.lines by).client.led → WasEnded c by number end now → WasEnded d by number end now
ended_stays c d by number end now later same w = record {
  led = w.led;
  waits = same ∙ w.waits;
  used = w.used;
  no = w.no;
  until = w.until;
  had = record {
    used = w.had.used;
    gone = λ r i e.
        let its : IsGiven (counts_of c.servers).given r.no =
        subst (λ (n : LeaseNo). IsGiven (counts_of c.servers).given n) (sym (e ∙ w.no)) w.given in
        let q : Stood (rows_in c) r = later.older r i its in
        w.had.gone q.row q.stood (q.number ∙ e);
    ended = w.had.ended;
  };
  given = let more = later.given number.server in let was = w.given in omega (arith, more, was);
}

-- ## At one server

-- a server's own count is what all have of it
pub count_own : (servers : List Server) (k : ℕ) (s : Server) → slice_get servers k ≡ Some s → s.me ≡ k → (j : ℕ)
    → count_with s.me s.given (counts_of servers).given j ≡ given_at (slice_get servers j)
count_own servers k s at me j = by_place (j == s.me) refl
  where
    by_place : (b : Bool) → (j == s.me) ≡ b → cond b s.given (given_at (slice_get servers j)) ≡ given_at (slice_get servers j)
    by_place true e = sym (ap (λ i. given_at (slice_get servers i)) (eqb-true j s.me e ∙ me) ∙ ap given_at at)
    by_place false e = refl

-- a server's count of leases only rises
pub counts_rise : (servers : List Server) (k : ℕ) (s t : Server) → slice_get servers k ≡ Some s → s.given ≤ t.given → (j : ℕ)
    → given_at (slice_get servers j) ≤ given_at (slice_get (slice_set servers k t) j)
counts_rise servers k s t at few j = by_place (j == k) refl
  where
    by_place : (b : Bool) → (j == k) ≡ b → given_at (slice_get servers j) ≤ given_at (slice_get (slice_set servers k t) j)
    by_place true e =
        let was : given_at (slice_get servers j) ≡ s.given = ap given_at (was_at servers k s t at j e) in
        let is : given_at (slice_get (slice_set servers k t) j) ≡ t.given = ap given_at (is_at servers k s t at j e) in
        omega (arith, was, is, few)
    by_place false e =
        let is : given_at (slice_get (slice_set servers k t) j) ≡ given_at (slice_get servers j) =
        ap given_at (is_still servers k s t at j e) in
        omega (arith, is)

stood_relocked : (f : Row → Row) → IsRelock f → (rows : List Row) (r : Row) → In r (map f rows) → Stood rows r
stood_relocked f is rows r i =
    let q = In-map f r rows i in
    let same : r ≡ (let x : Row = record (q.0) { lock = (is q.0).0 } in x) = q.1.1 ∙ (is q.0).1 in
    record {
      row = q.0;
      stood = q.1.0;
      number = ap (λ (x : Row). x.no) (sym same);
      session = ap (λ (x : Row). x.session) (sym same);
      field = ap (λ (x : Row). x.field) (sym same);
      kind = ap (λ (x : Row). x.kind) (sym same);
    }

-- rows that are locked and unlocked stood before
pub relocked_later : (c d : Cluster) (f : Row → Row) → IsRelock f → rows_in d ≡ map f (rows_in c)
    → ((j : ℕ) → (counts_of c.servers).given j ≤ (counts_of d.servers).given j) → RowsLater c d
relocked_later c d f is rows rises =
    later_among (counts_of c.servers).given (counts_of d.servers).given (rows_in c) (rows_in d) rises
    (λ r i. stood_relocked f is (rows_in c) r (subst (In r) rows i))

-- where a server only locks and unlocks rows
pub stepped_later : (k : ℕ) (c d : Cluster) (s t : Server) → slice_get c.servers k ≡ Some s → PlacesHold c
    → d.servers ≡ slice_set c.servers k t → parcels_of d.in_flight ≡ parcels_of c.in_flight → t.given ≡ s.given
    → AreRelocked s.rows t.rows → RowsLater c d
stepped_later k c d s t at places servers parcels given q =
    relocked_later c d (at_home s q.change) (home_relock s q.change q.relock)
    (ap₂ (λ ss ps. rows_of_all ss ps) servers parcels ∙ rows_relocked k c s t at places q.change q.relock q.is)
    (λ j. subst (λ (ss : List Server). given_at (slice_get c.servers j) ≤ given_at (slice_get ss j)) (sym servers)
    (counts_rise c.servers k s t at (omega (arith, given)) j))

-- where all rows stay
pub same_later : (c d : Cluster) → rows_in d ≡ rows_in c → ((j : ℕ) → (counts_of c.servers).given j ≤ (counts_of d.servers).given j)
    → RowsLater c d
same_later c d rows rises = later_among (counts_of c.servers).given (counts_of d.servers).given (rows_in c) (rows_in d) rises
    (λ r i. stood_here (rows_in c) r (subst (In r) rows i))

-- rows that are left stood before
pub fewer_later : (c d : Cluster) (keep : Row → Bool) → rows_in d ≡ filter keep (rows_in c)
    → ((j : ℕ) → (counts_of c.servers).given j ≤ (counts_of d.servers).given j) → RowsLater c d
fewer_later c d keep rows rises =
    later_among (counts_of c.servers).given (counts_of d.servers).given (rows_in c) (rows_in d) rises
    (λ r i. stood_here (rows_in c) r (In-filter keep r (rows_in c) (subst (In r) rows i)))
