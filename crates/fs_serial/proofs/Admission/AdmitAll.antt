-- The server admits an entry: all parts of all sessions.
use Rattle.std.proofs.Common.{◌≡◌, ℕ, ◌==◌, Bool, true, false, List, [], ◌∷◌, ◌++◌, map, refl, sym, ap, ◌∙◌, subst, inl, inr, cond}
use Rattle.std.specs.Prelude.{Option, Some, None, is_some}
use Rattle.std.specs.List.{list_any}
use Rattle.fs_ident.specs.In.{In}
use Rattle.fs_ident.specs.declared.actor.LeaseNo.{LeaseNo}
use Rattle.fs_ident.specs.declared.actor.Session.{Session}
use Rattle.fs_ident.proofs.Standing.{In-map}
use Rattle.fs_field.specs.Field.{file_of}
use Rattle.fs_field.specs.declared.effect.Effect.{Effect}
use Rattle.fs_msg.specs.declared.entry.Entry.{Entry}
use Rattle.fs_msg.specs.declared.item.Item.{Item}
use Rattle.fs_server.specs.Ships.{item_of, with_entry}
use Rattle.fs_server.specs.declared.state.Server.{Server}
use Rattle.fs_view.specs.ViewLease.{makes}
use Rattle.fs_record.specs.Applied.{records_after_all}
use Rattle.fs_record.specs.Effects.{effects_of}
use Rattle.fs_record.specs.Records.{RecordMap}
use Rattle.fs_serial.specs.Fresh.{ByLease, ByLog, Claim, FreshReserved, HoldsFresh, Reserves, reserved_by}
use Rattle.fs_serial.specs.Parts.{AllHold, SessionHolds, SessionFits, with_client}
use Rattle.fs_record.specs.ValueOf.{value_of}
use Rattle.fs_serial.specs.Pending.{AllStand, IsAnswer, IsEntry, named_by}
use Rattle.fs_serial.specs.Relies.{Relies}
use Rattle.fs_serial.specs.Settled.{Lease, Settled, acknowledged, lease_after, effects_in}
use Rattle.fs_serial.specs.Rows.{PromisesKept}
use Rattle.fs_serial.specs.Sight.{Counts, Sight, count_with, sight_of}
use Rattle.fs_serial.specs.Steps.{IsAdmitted}
use Rattle.fs_serial.proofs.Admission.Admit as admit
use Rattle.fs_serial.proofs.Admission.AdmitFresh.{fresh_then, made_then}
use Rattle.fs_serial.proofs.Admission.AdmitOthers.{others_rely}
use Rattle.fs_serial.proofs.Admission.AdmitPromises.{promises_admitted}
use Rattle.fs_serial.proofs.Admission.Births.{makes_there, named_makes}
use Rattle.fs_serial.proofs.Grants.Claims.{NoneAnew, Was, none_anew}
use Rattle.fs_serial.proofs.Lists.Journals.{reaps-still}
use Rattle.fs_serial.proofs.OtherSessions.Gone.{MakeAnew, all_anew}
use Rattle.fs_serial.proofs.OtherSessions.Relied.{relied_holds, relied_fits}
use Rattle.fs_serial.proofs.Admission.Rowed.{all_found}
use Rattle.fs_serial.proofs.OtherSessions.Together.{each_session, its_client}

-- a lease that still reserves its file did so before
below_before : (b : Bool) (below : Option (List ℕ)) → is_some (cond b None below) ≡ true → is_some below ≡ true
below_before true below h = absurd (cc)
below_before false below h = h

-- effects that are known to be admitted reserve nothing
held_before : (by : Session) (es : List Effect) (leases : List Lease) (n : LeaseNo) (id : List ℕ) → HoldsFresh (map (lease_after by es) leases) n id → HoldsFresh leases n id
held_before by es leases n id r =
    let k = In-map (lease_after by es) r.lease leases r.held in
    record {
      lease = k.0;
      held = k.1.0;
      number = ap (λ (l : Lease). l.no) (sym k.1.1) ∙ r.number;
      fresh = below_before _ k.0.below (ap (λ (l : Lease). is_some l.below) (sym k.1.1) ∙ r.fresh);
      file = ap (λ (l : Lease). file_of l.field) (sym k.1.1) ∙ r.file;
    }

-- nor does a log with fewer entries
pub fewer_anew : (by : Session) (es : List Effect) (d e : Settled) → e.leases ≡ map (lease_after by es) d.leases → ((x : Entry) → In x e.log → In x d.log) → NoneAnew d e
fewer_anew by es d e leases log (ByLease n) id r = held_before by es d.leases n id (subst (λ ls. HoldsFresh ls n id) leases r)
fewer_anew by es d e leases log ByLog id r = (ByLog, record { entry = r.entry; among = log r.entry r.among; named = r.named })

-- what the effects make no lease reserves any more
pub made_held : (by : Session) (es : List Effect) (leases : List Lease) (n : LeaseNo) (id : List ℕ) → list_any (makes id) es ≡ true → HoldsFresh (map (lease_after by es) leases) n id → ⊥
made_held by es leases n id makes_it r =
    let k = In-map (lease_after by es) r.lease leases r.held in
    let there : list_any (makes (file_of k.0.field)) es ≡ true = ap (λ j. list_any (makes j) es) (ap (λ (l : Lease). file_of l.field) (sym k.1.1) ∙ r.file) ∙ makes_it in
    cleared (list_any (makes (file_of k.0.field)) es) k.0.below there (ap (λ (l : Lease). is_some l.below) (sym k.1.1) ∙ r.fresh)
  where
    cleared : (b : Bool) (o : Option (List ℕ)) → b ≡ true → is_some (cond b None o) ≡ true → ⊥
    cleared true o t g = absurd (cc)
    cleared false o t g = absurd (cc)

module _ (o : Counts) (skew greatest : ℕ) (s : Server) (journal : List Item) (replied : Session → List Item) (clients : Session → Settled) (by : Session) (e : Entry) (h : AllHold skew greatest (sight_of o s journal) replied clients) (a : IsAdmitted s by (clients by) e) where
  abbrev d : Settled
  d = clients by

  -- the client as the law of its own session has it
  abbrev first : Settled
  first = record { leases = d.leases; log = e ∷ a.rest; next = d.next; over = None; led = d.led }

  is_first : d ≡ first
  is_first = ap (λ l. let x : Settled = record { leases = d.leases; log = l; next = d.next; over = d.over; led = d.led } in x) a.log ∙ ap (λ o. let x : Settled = record { leases = d.leases; log = e ∷ a.rest; next = d.next; over = o; led = d.led } in x) a.going

  abbrev then : Settled
  then = record { leases = map (lease_after by (effects_in by e)) d.leases; log = a.rest; next = d.next; over = None; led = d.led }

  is_then : then ≡ acknowledged by d.log d
  is_then = ap (λ o. let x : Settled = record { leases = map (lease_after by (effects_in by e)) d.leases; log = a.rest; next = d.next; over = o; led = d.led } in x) (sym a.going) ∙ ap (λ l. acknowledged by l d) (sym a.log)

  abbrev after : Sight
  after = sight_of o (with_entry by e s) (journal ++ item_of by e ∷ [])

  pub stand : AllStand s.rows by e.uses
  stand = all_found s.rows by e.uses a.found

  holds : SessionHolds skew greatest (sight_of o s journal) by (replied by) first
  holds = subst (SessionHolds skew greatest (sight_of o s journal) by (replied by)) is_first (h.sessions by)

  fits : SessionFits skew greatest (sight_of o s journal) by first
  fits = subst (SessionFits skew greatest (sight_of o s journal) by) is_first (h.fitting by)

  anew : MakeAnew by journal (e ∷ a.rest)
  anew = subst (MakeAnew by journal) a.log (all_anew skew greatest (sight_of o s journal) replied clients h by)

  pub plain : IsEntry e
  plain = admit.plain o skew greatest s journal by (replied by) d.leases e a.rest d.next d.led stand h.servers h.kept holds fits

  pub right : IsAnswer (value_of s.records by) e
  right = admit.right o skew greatest s journal by (replied by) d.leases e a.rest d.next d.led stand h.servers h.kept holds fits

  promises : PromisesKept (with_entry by e s).records s.rows
  promises = promises_admitted s by e stand plain right h.kept.sound.records h.servers.promises

  abbrev all : Session → Settled
  all = with_client by then clients

  rely : (x : Session) → (by.0 == x.0) ≡ false → Relies skew greatest x (sight_of o s journal) after
  rely x other = others_rely o skew greatest s journal by x e other stand (anew e (inl refl)) plain right h.servers h.kept promises

  sessions : (x : Session) → SessionHolds skew greatest after x (replied x) (all x)
  sessions = each_session (λ x c. SessionHolds skew greatest after x (replied x) c) by then clients
      (admit.holds o skew greatest s journal by (replied by) d.leases e a.rest d.next d.led stand h.servers h.kept holds fits anew)
      (λ x other. relied_holds skew greatest x (sight_of o s journal) after (clients x) (rely x other) (h.fitting x) (all_anew skew greatest (sight_of o s journal) replied clients h x) (replied x) (h.sessions x))

  fitting : (x : Session) → SessionFits skew greatest after x (all x)
  fitting = each_session (λ x c. SessionFits skew greatest after x c) by then clients
      (admit.fits o skew greatest s journal by (replied by) d.leases e a.rest d.next d.led stand h.servers h.kept holds fits anew)
      (λ x other. relied_fits skew greatest x (sight_of o s journal) after (clients x) (rely x other) (h.fitting x))

  -- fewer identifiers are reserved
  fewer : (x : Session) (n : Claim) (i : List ℕ) → reserved_by all x n i → Was (reserved_by clients x) n i
  fewer = each_session (λ x (c : Settled). NoneAnew (clients x) c) by then clients (fewer_anew by (effects_in by e) d then refl (λ x i. subst (In x) (sym a.log) (inr i))) (λ x other. none_anew (clients x))

  named : (id : List ℕ) → named_by e.op ≡ Some id → reserved_by clients by ByLog id
  named id is = record { entry = e; among = subst (In e) (sym a.log) (inl refl); named = is }

  -- and not any more the one that the entry names
  used_up : (n : Claim) (id : List ℕ) → named_by e.op ≡ Some id → reserved_by all by n id → ⊥
  used_up n id is r = spent n (subst (λ (c : Settled). Reserves c n id) (its_client by then clients) r)
    where
      spent : (n : Claim) → Reserves then n id → ⊥
      spent (ByLease n) r = made_held by (effects_in by e) d.leases n id (makes_there by e.op e.reply id ∙ named_makes e.uses e.op e.reply id plain.named is) r
      spent ByLog r = fits.once.0 r.entry id r.among is r.named

  reserved : (stored : RecordMap) → FreshReserved (reserved_by clients) stored journal → FreshReserved (reserved_by all) (records_after_all stored (effects_of by e.op e.reply)) after.journal
  reserved stored f = fresh_then s journal by e plain right h.kept.sound stored (reserved_by clients) (reserved_by all) fewer named used_up f

  -- so it is of other records that are stored
  pub reserved_beside : (stored : RecordMap) → FreshReserved (reserved_by clients) stored journal
      → FreshReserved (reserved_by (with_client by (acknowledged by d.log d) clients)) (records_after_all stored (effects_of by e.op e.reply)) after.journal
  reserved_beside stored f =
      subst (λ c. FreshReserved (reserved_by (with_client by c clients)) (records_after_all stored (effects_of by e.op e.reply)) after.journal) is_then (reserved stored f)

  kept : AllHold skew greatest after replied all
  kept = record {
    servers = record {
      apart = h.servers.apart;
      promises = promises;
      serial = admit.serial o skew greatest s journal by (replied by) d.leases e a.rest d.next d.led stand h.servers h.kept holds fits;
      reaped = reaps-still (count_with s.me s.reaps o.reaps) journal (item_of by e) (λ k. refl) h.servers.reaped;
    };
    kept = record {
      shaped = h.kept.shaped;
      counted = h.kept.counted;
      given = h.kept.given;
      sound = admit.sound o skew greatest s journal by (replied by) d.leases e a.rest d.next d.led stand h.servers h.kept holds fits;
      made = made_then s journal by e plain right h.kept.sound s.records (reserved_by clients) (reserved_by all) fewer named used_up h.reserved h.kept.made;
    };
    sessions = sessions;
    fitting = fitting;
    reserved = reserved s.records h.reserved;
  }

  pub admit_kept : AllHold skew greatest after replied (with_client by (acknowledged by d.log d) clients)
  admit_kept = subst (λ c. AllHold skew greatest after replied (with_client by c clients)) is_then kept
