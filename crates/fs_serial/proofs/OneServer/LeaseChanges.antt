-- What a step of the server keeps while its event goes on.
use Rattle.std.proofs.Common.{◌≡◌, ℕ, true, false, List, [], ◌∷◌, refl, sym, ap, ◌∙◌, subst, inl, inr, arith}
use Rattle.std.specs.Prelude.{◌≢◌, is_some}
use Rattle.fs_ident.specs.In.{In}
use Rattle.fs_ident.specs.declared.actor.Session.{Session}
use Rattle.fs_ident.proofs.Standing.{In-append, In-front}
use Rattle.fs_msg.specs.declared.item.Item.{Item}
use Rattle.fs_record.specs.Records.{RecordMap}
use Rattle.fs_view.specs.declared.view_lease.ViewLease.{ViewLease}
use Rattle.fs_view.specs.ViewLease.{number_of, is_leaving}
use Rattle.fs_serial.specs.Exchange.{ReturnsFit}
use Rattle.fs_serial.specs.Fresh.{ByLease, ByLog, FreshReserved, HoldsFresh, reserved_by}
use Rattle.fs_serial.specs.Parts.{AllHold, with_client, ServersHold, ServersFit, SessionHolds, SessionFits}
use Rattle.fs_serial.specs.Settled.{Lease, Settled, settled_now, with_leases}
use Rattle.fs_serial.specs.Sight.{Sight}
use Rattle.fs_serial.specs.World.{AllCarried, Ends, GoesOn, HasNumber}
use Rattle.fs_serial.proofs.Grants.Claims.{NoneAnew, none_anew}
use Rattle.fs_serial.proofs.Lists.Journals.{each_more}
use Rattle.fs_serial.proofs.OtherSessions.Gone.{all_anew}
use Rattle.fs_serial.proofs.Grants.Leased.{IsNewLease, leased_fits, leased_holds}
use Rattle.fs_serial.proofs.OtherSessions.Relied.{ReliesFor, still_fits, still_holds, still_renewals, still_returns}
use Rattle.fs_serial.proofs.OtherSessions.Together.{each_session, fewer_reserved}

-- ## Rows alone change

-- the records and the journal stay, and each session has what it relies on
pub record RowsChange (skew greatest : ℕ) (s t : Sight) (clients : Session → Settled) : Type 0 where
  pub servers : ServersHold s → ServersHold t
  pub kept : ServersFit s → ServersFit t
  pub records : t.records ≡ s.records
  pub stored : t.stored ≡ s.stored
  pub journal : t.journal ≡ s.journal
  pub relied : (x : Session) → ReliesFor skew greatest x s t (clients x).leases

-- what goes back and what is renewed, where each session has what it relies on
pub carried_still : (skew greatest : ℕ) (s t : Sight) (ends : Session → Ends) (clients : Session → Settled) → ((x : Session) → ReliesFor skew greatest x s t (clients x).leases) → ((x : Session) → SessionFits skew greatest s x (clients x)) → AllCarried skew greatest s ends clients
    → AllCarried skew greatest t ends clients
carried_still skew greatest s t ends clients rely fits h = record {
  returns = λ x. still_returns skew greatest x s t (clients x) (rely x) (fits x) (ends x).client.view.leases (h.returns x);
  renewals = λ x. still_renewals skew greatest x s t (clients x) (rely x) (fits x) (ends x).down (settled_now (ends x).client).leases
      (λ l i. let q = h.later x l i in (q.lease, q.held, q.number)) (h.renewals x);
  later = h.later;
}

module _ (skew greatest : ℕ) (s t : Sight) (replied : Session → List Item) (ends : Session → Ends) (clients : Session → Settled) (c : RowsChange skew greatest s t clients) where
  pub all_still : AllHold skew greatest s replied clients → AllHold skew greatest t replied clients
  all_still h = record {
    servers = c.servers h.servers;
    kept = c.kept h.kept;
    sessions = λ x. still_holds skew greatest x s t (clients x) (c.relied x) (h.fitting x) (all_anew skew greatest s replied clients h x) (replied x) (h.sessions x);
    fitting = λ x. still_fits skew greatest x s t (clients x) (c.relied x) (h.fitting x);
    reserved = subst (λ m. FreshReserved (reserved_by clients) m t.journal) (sym c.stored) (subst (λ j. FreshReserved (reserved_by clients) s.stored j) (sym c.journal) h.reserved);
  }

  pub goes_still : GoesOn skew greatest s replied ends clients → GoesOn skew greatest t replied ends clients
  goes_still h = record { all = all_still h.all; carried = carried_still skew greatest s t ends clients c.relied h.all.fitting h.carried }

-- ## Other records are stored

module _ (skew greatest : ℕ) (s : Sight) (stored : RecordMap) (replied : Session → List Item) (ends : Session → Ends) (clients : Session → Settled)
    (reserved : FreshReserved (reserved_by clients) stored s.journal) where
  abbrev pub restored : Sight
  restored = record s { stored = stored }

  relied : (x : Session) → ReliesFor skew greatest x s restored (clients x).leases
  relied x = record {
    given = λ k. omega arith;
    older = λ r i g. record { row = r; stood = i; number = refl; session = refl; field = refl; kind = refl };
    kept = λ l h r i e late. record { row = r; stands = i; number = refl; lasts = omega arith };
    values = λ r i g own. inr refl;
    dirs = λ file was. was;
    made = λ file was. was;
    gone = λ file was none. none;
    items = refl;
  }

  -- identifiers alone are said of what is stored
  pub all_restored : AllHold skew greatest s replied clients → AllHold skew greatest restored replied clients
  all_restored h = record {
    servers = record { apart = h.servers.apart; promises = h.servers.promises; serial = h.servers.serial; reaped = h.servers.reaped };
    kept = record { shaped = h.kept.shaped; counted = h.kept.counted; given = h.kept.given; sound = h.kept.sound; made = h.kept.made };
    sessions = λ x. still_holds skew greatest x s restored (clients x) (relied x) (h.fitting x) (all_anew skew greatest s replied clients h x) (replied x) (h.sessions x);
    fitting = λ x. still_fits skew greatest x s restored (clients x) (relied x) (h.fitting x);
    reserved = reserved;
  }

  pub goes_restored : GoesOn skew greatest s replied ends clients → GoesOn skew greatest restored replied ends clients
  goes_restored h = record { all = all_restored h.all; carried = carried_still skew greatest s restored ends clients relied h.all.fitting h.carried }

-- ## One session's leases have the same numbers

pub carried_alike : (skew greatest : ℕ) (s : Sight) (ends : Session → Ends) (clients : Session → Settled) (by : Session) (d : Settled) → ((l : Lease) → In l d.leases → HasNumber (clients by).leases l.no) → ((l : Lease) → In l (clients by).leases → HasNumber d.leases l.no) → AllCarried skew greatest s ends clients
    → AllCarried skew greatest s ends (with_client by d clients)
carried_alike skew greatest s ends clients by d old new h = record {
  returns = each_session (λ x d. ReturnsFit s.given s.rows x (ends x).client.view.leases d.leases) by d clients
      (λ k i leaving. let q = h.returns by k i leaving in record { fits = q.fits; alone = λ l j e. let o = old l j in q.alone o.lease o.held (o.number ∙ e); own = q.own })
      (λ x other. h.returns x);
  renewals = h.renewals;
  later = each_session (λ x d. (j : Lease) → In j (settled_now (ends x).client).leases → HasNumber d.leases j.no) by d clients
      (λ j i. let q = h.later by j i in let o = new q.lease q.held in record { lease = o.lease; held = o.held; number = o.number ∙ q.number })
      (λ x other. h.later x);
}

-- ## One session has a lease more

-- a lease that reserves nothing adds nothing that is reserved
pub reserved_none : (clients : Session → Settled) (by : Session) (l : Lease) (m : RecordMap) (journal : List Item) → is_some l.below ≡ false → FreshReserved (reserved_by clients) m journal
    → FreshReserved (reserved_by (with_client by (with_leases (l ∷ []) (clients by)) clients)) m journal
reserved_none clients by l m journal none =
    fewer_reserved (reserved_by clients) (reserved_by (with_client by (with_leases (l ∷ []) (clients by)) clients)) m journal
    (each_session (λ x d. NoneAnew (clients x) d) by (with_leases (l ∷ []) (clients by)) clients own (λ x other. none_anew (clients x)))
  where
    own : NoneAnew (clients by) (with_leases (l ∷ []) (clients by))
    own (ByLease n) i q = elim (In-append q.lease (clients by).leases (l ∷ []) q.held) as (λ _. HoldsFresh (clients by).leases n i) [
      | inl h ↦ record { lease = q.lease; held = h; number = q.number; fresh = q.fresh; file = q.file }
      | inr h ↦ elim h as (λ _. HoldsFresh (clients by).leases n i) [
        | inl is ↦ let wrong : true ≡ false = sym q.fresh ∙ ap (λ (k : Lease). is_some k.below) is ∙ none in absurd (cc)
        | inr z ↦ absurd z
      ]
    ]
    own ByLog i q = (ByLog, q)

module _ (skew greatest : ℕ) (t : Sight) (replied : Session → List Item) (ends : Session → Ends) (clients : Session → Settled) (by : Session) (l : Lease) (new : IsNewLease t by (clients by).leases l) (unreturned : (k : ViewLease) → In k (ends by).client.view.leases → is_leaving k.standing ≡ true → l.no ≢ number_of k.standing) where
  abbrev d : Settled
  d = with_leases (l ∷ []) (clients by)

  pub carried_leased : AllCarried skew greatest t ends clients → AllCarried skew greatest t ends (with_client by d clients)
  carried_leased h = record {
    returns = each_session (λ x d. ReturnsFit t.given t.rows x (ends x).client.view.leases d.leases) by d clients
        (λ k i leaving. let q = h.returns by k i leaving in record { fits = q.fits; alone = each_more (λ (j : Lease). j.no ≢ number_of k.standing) (clients by).leases l q.alone (unreturned k i leaving); own = q.own })
        (λ x other. h.returns x);
    renewals = h.renewals;
    later = each_session (λ x d. (j : Lease) → In j (settled_now (ends x).client).leases → HasNumber d.leases j.no) by d clients
        (λ j i. let q = h.later by j i in record { lease = q.lease; held = In-front q.lease (clients by).leases (l ∷ []) q.held; number = q.number })
        (λ x other. h.later x);
  }

  pub goes_leased : FreshReserved (reserved_by (with_client by (with_leases (l ∷ []) (clients by)) clients)) t.stored t.journal → GoesOn skew greatest t replied ends clients → GoesOn skew greatest t replied ends (with_client by d clients)
  goes_leased reserved h = record {
    all = record {
      servers = h.all.servers;
      kept = h.all.kept;
      sessions = each_session (λ x d. SessionHolds skew greatest t x (replied x) d) by d clients (leased_holds skew greatest by t (clients by) l new (h.all.fitting by) (replied by) (h.all.sessions by)) (λ x other. h.all.sessions x);
      fitting = each_session (λ x d. SessionFits skew greatest t x d) by d clients (leased_fits skew greatest by t (clients by) l new (h.all.fitting by) h.all.kept.made) (λ x other. h.all.fitting x);
      reserved = reserved;
    };
    carried = carried_leased h.carried;
  }
