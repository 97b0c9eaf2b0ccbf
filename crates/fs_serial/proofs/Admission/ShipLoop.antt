-- The entries of a log that is handed in, one after another.
use Rattle.std.proofs.Common.{◌≡◌, ◌==◌, ℕ, suc, ◌≤◌, true, false, List, [], ◌∷◌, ◌++◌, length, map, append_assoc, append-nil, refl, sym, ap, ◌∙◌, subst, arith}
use Rattle.std.specs.Prelude.{Some, None}
use Rattle.std.specs.Cmp.{nat_eq_equiv}
use Rattle.fs_ident.specs.In.{In}
use Rattle.fs_ident.specs.declared.actor.Session.{Session}
use Rattle.fs_ident.proofs.Standing.{In-map, In-mapped}
use Rattle.fs_field.specs.declared.used.Use.{Use}
use Rattle.fs_msg.specs.declared.end.End.{End}
use Rattle.fs_msg.specs.declared.end.End.TheVariants as end
use Rattle.fs_msg.specs.declared.entry.Entry.{Entry}
use Rattle.fs_msg.specs.declared.item.Item.{Item}
use Rattle.fs_server.specs.Ships.{Shipping, first_gone, item_of, ship_from, with_entry}
use Rattle.fs_model.specs.Asking.{home_of}
use Rattle.fs_record.specs.Effects.{effects_of}
use Rattle.fs_record.specs.Records.{nodes_of}
use Rattle.fs_server.specs.Server.{moved}
use Rattle.fs_server.specs.declared.state.Server.{Server}
use Rattle.fs_server.proofs.OneByOne.{ShipEnds, each_entry, misplaced, refused}
use Rattle.fs_client.specs.Answers.{over_after, refusal_fits}
use Rattle.fs_txn.specs.Grants.{Decided}
use Rattle.fs_view.specs.Walk.{always, walk}
use Rattle.fs_serial.specs.Decided.{AllDecidedStand}
use Rattle.fs_serial.specs.Parts.{with_client}
use Rattle.fs_serial.specs.Settled.{Lease, Settled, acknowledged, acknowledged_all, effects_in, lease_after, with_over}
use Rattle.fs_serial.specs.Sight.{Counts, Sight, seen, sight_beside, sight_of, sight_with}
use Rattle.fs_serial.specs.Steps.{IsAdmitted}
use Rattle.fs_serial.specs.World.{Ends, GoesOn, HasNumber}
use Rattle.fs_serial.proofs.Admission.AdmitAll as admit
use Rattle.fs_serial.proofs.DecidedEffects.AdmitPast.{entry_apart}
use Rattle.fs_serial.proofs.OtherSessions.ClientChanges.{goes_again}
use Rattle.fs_serial.proofs.Admission.Answered.{covered_there}
use Rattle.fs_serial.proofs.Places.Elsewhere.{none_refused, over_still}
use Rattle.fs_serial.proofs.Lists.Journals.{known_nodes}
use Rattle.fs_serial.proofs.OneServer.LeaseChanges.{carried_alike, goes_restored}
use Rattle.fs_serial.proofs.OtherSessions.Gone.{made_more}
use Rattle.fs_serial.proofs.DecidedEffects.GrantsPast.{gone_there}
use Rattle.fs_serial.proofs.Admission.Refusing.{entry_refused}
use Rattle.fs_serial.proofs.DecidedEffects.StandPast.{AllApart, held_past, stand_past}
use Rattle.fs_serial.proofs.DecidedEffects.StoredBeside.{all_seen, goes_seen}
use Rattle.fs_serial.proofs.OtherSessions.Together.{its_client}

-- ## One entry

numbers_kept : (by : Session) (es : List Entry) (d : Settled) (l : Lease) → In l (acknowledged by es d).leases → HasNumber d.leases l.no
numbers_kept by [] d l i = record { lease = l; held = i; number = refl }
numbers_kept by (e ∷ es) d l i = let q = In-map (lease_after by (effects_in by e)) l d.leases i in record { lease = q.0; held = q.1.0; number = sym (ap (λ (x : Lease). x.no) q.1.1) }

numbers_there : (by : Session) (es : List Entry) (d : Settled) (l : Lease) → In l d.leases → HasNumber (acknowledged by es d).leases l.no
numbers_there by [] d l i = record { lease = l; held = i; number = refl }
numbers_there by (e ∷ es) d l i = record { lease = lease_after by (effects_in by e) l; held = In-mapped (lease_after by (effects_in by e)) l d.leases i; number = refl }

pub entry_admitted : (o : Counts) (skew greatest : ℕ) (s : Server) (journal : List Item) (replied : Session → List Item) (ends : Session → Ends) (clients : Session → Settled) (by : Session) (e : Entry) → IsAdmitted s by (clients by) e → GoesOn skew greatest (sight_of o s journal) replied ends clients
    → GoesOn skew greatest (sight_of o (with_entry by e s) (journal ++ item_of by e ∷ [])) replied ends (with_client by (acknowledged by (clients by).log (clients by)) clients)
entry_admitted o skew greatest s journal replied ends clients by e a h =
    let c = carried_alike skew greatest (sight_of o s journal) ends clients by (acknowledged by (clients by).log (clients by)) (numbers_kept by (clients by).log (clients by)) (numbers_there by (clients by).log (clients by)) h.carried in
    record { all = admit.admit_kept o skew greatest s journal replied clients by e h.all a; carried = record { returns = c.returns; renewals = c.renewals; later = c.later } }

-- ## One after another

refusal_step : (e : End) (k : ℕ) (x : Entry) (log : List Entry) → refusal_fits e (suc k) (x ∷ log) ≡ refusal_fits e k log
refusal_step (end.Ended n lease until now) k x log = refl
refusal_step e k x log = refl

module _ (o : Counts) (skew greatest : ℕ) (journal : List Item) (replied : Session → List Item) (ends : Session → Ends) (base : Session → Settled) (by : Session) (ds : List Decided) (others : (x : Decided) → In x ds → (x.by.0 == by.0) ≡ false) where
  -- what comes of the entries, behind those that were admitted before
  pub record IsShipped (es : List Entry) (d : Settled) (admitted : List Item) (x : Shipping) : Type 0 where
    pub more : List Item
    pub split : x.admitted ≡ admitted ++ more
    pub decided : AllDecidedStand ds x.server (journal ++ x.admitted)
    pub goes : GoesOn skew greatest (sight_with o ds x.server (journal ++ x.admitted)) replied ends (with_client by (with_over (over_after x.end d.over) (acknowledged_all by (length more) d)) base)
    pub few : length more ≤ length es
    pub fits : refusal_fits x.end (length more) es ≡ true

  -- the entry goes past what is decided
  pub admitted_apart : (e : Entry) (s : Server) (now : List Item) (d : Settled) → IsAdmitted (seen ds s) by (with_client by d base by) e → AllDecidedStand ds s now → GoesOn skew greatest (sight_with o ds s now) replied ends (with_client by d base) → AllApart ds (effects_of by e.op e.reply)
  admitted_apart e s now d is under h x i z j =
      let there = seen ds s in
      let clients = with_client by d base in
      let all = all_seen ds s now under o skew greatest replied clients h.all in
      let stand = admit.stand o skew greatest there now replied clients by e all is in
      let plain = admit.plain o skew greatest there now replied clients by e all is in
      let right = admit.right o skew greatest there now replied clients by e all is in
      let q = under.stand x i in
      entry_apart (nodes_of there.records) s.rows by x.by e.uses h.all.servers.apart (others x i) stand x.effect q.decided q.guarded (gone_there ds s now under x i)
      e.op e.reply (ap (λ k. (walk k always e.op).reply) (sym (known_nodes there.records by)) ∙ right.reply) (covered_there there.records by e plain right) z j

  pub admitted_then : (e : Entry) (es rest : List Entry) (s : Server) (admitted : List Item) (d : Settled) → d.log ≡ e ∷ (es ++ rest) → d.over ≡ None → first_gone s.rows by e.uses ≡ None → AllDecidedStand ds s (journal ++ admitted) → GoesOn skew greatest (sight_with o ds s (journal ++ admitted)) replied ends (with_client by d base)
      → AllDecidedStand ds (with_entry by e s) (journal ++ (admitted ++ item_of by e ∷ [])) × GoesOn skew greatest (sight_with o ds (with_entry by e s) (journal ++ (admitted ++ item_of by e ∷ []))) replied ends (with_client by (acknowledged by (e ∷ (es ++ rest)) d) base)
  admitted_then e es rest s admitted d log over found under h =
      let there = seen ds s in
      let now = journal ++ admitted in
      let t = with_entry by e there in
      let is : IsAdmitted there by (with_client by d base by) e = subst (λ c. IsAdmitted there by c e) (sym (its_client by d base)) (record { rest = es ++ rest; log = log; going = over; found = found }) in
      let apart = admitted_apart e s now d is under h in
      let stored = (with_entry by e s).records in
      let clients = with_client by d base in
      let joined = goes_seen ds s now under o skew greatest replied clients ends h in
      let later : Sight = sight_beside stored o t (now ++ item_of by e ∷ []) in
      let admitted_there = goes_restored skew greatest (sight_of o t (now ++ item_of by e ∷ [])) stored replied ends
      (with_client by (acknowledged by (clients by).log (clients by)) clients)
      (admit.reserved_beside o skew greatest there now replied clients by e joined.all is s.records h.all.reserved)
      (entry_admitted o skew greatest there now replied ends clients by e is joined) in
      let after = goes_again skew greatest later replied ends base by d (λ c. acknowledged by c.log c) admitted_there in (
        subst (AllDecidedStand ds (with_entry by e s)) (append_assoc journal admitted (item_of by e ∷ []))
            (stand_past ds s now under (effects_of by e.op e.reply) apart (now ++ item_of by e ∷ []) (λ id was. made_more now (item_of by e) id was)),
        subst (λ m. GoesOn skew greatest (sight_beside stored o (record s { records = m }) (journal ++ (admitted ++ item_of by e ∷ []))) replied ends (with_client by (acknowledged by (e ∷ (es ++ rest)) d) base)) (sym (held_past ds s now under (effects_of by e.op e.reply) apart))
            (subst (λ js. GoesOn skew greatest (sight_beside stored o t js) replied ends (with_client by (acknowledged by (e ∷ (es ++ rest)) d) base)) (append_assoc journal admitted (item_of by e ∷ []))
            (subst (λ log. GoesOn skew greatest later replied ends (with_client by (acknowledged by log d) base)) log after)),
      )

  went_on : (e : Entry) (es rest : List Entry) (admitted : List Item) (d : Settled) (x : Shipping) → d.log ≡ e ∷ (es ++ rest) → IsShipped es (acknowledged by (e ∷ (es ++ rest)) d) (admitted ++ item_of by e ∷ []) x → IsShipped (e ∷ es) d admitted x
  went_on e es rest admitted d x log r =
      let few = r.few in
      record {
        more = item_of by e ∷ r.more;
        split = r.split ∙ append_assoc admitted (item_of by e ∷ []) r.more;
        decided = r.decided;
        goes = subst (λ log. GoesOn skew greatest (sight_with o ds x.server (journal ++ x.admitted)) replied ends (with_client by (with_over (over_after x.end d.over) (acknowledged_all by (length r.more) (acknowledged by log d))) base)) (sym log) r.goes;
        few = omega arith;
        fits = refusal_step x.end (length r.more) e es ∙ r.fits;
      }

  refused_then : (e : Entry) (es rest : List Entry) (s : Server) (admitted : List Item) (d : Settled) (u : Use) (gaps : List ℕ) → d.log ≡ e ∷ (es ++ rest) → first_gone s.rows by e.uses ≡ Some u → AllDecidedStand ds s (journal ++ admitted) → GoesOn skew greatest (sight_with o ds s (journal ++ admitted)) replied ends (with_client by d base)
      → IsShipped (e ∷ es) d admitted (record { server = s; admitted = admitted; end = end.Ended e.n u.no u.until s.last; gaps = gaps })
  refused_then e es rest s admitted d u gaps log gone under h = record {
    more = [];
    split = sym (append-nil admitted);
    decided = under;
    goes = goes_again skew greatest (sight_with o ds s (journal ++ admitted)) replied ends base by d (with_over (Some e.n))
        (entry_refused skew greatest (sight_with o ds s (journal ++ admitted)) replied ends (with_client by d base) by e (es ++ rest) u (ap (λ (c : Settled). c.log) (its_client by d base) ∙ log) gone h);
    few = omega arith;
    fits = nat_eq_equiv.refl e.n;
  }

  -- handed in at the wrong server
  away_then : (e : Entry) (es : List Entry) (s : Server) (admitted : List Item) (d : Settled) → AllDecidedStand ds s (journal ++ admitted) → GoesOn skew greatest (sight_with o ds s (journal ++ admitted)) replied ends (with_client by d base)
      → IsShipped (e ∷ es) d admitted (record { server = s; admitted = admitted; end = moved s (home_of e.op); gaps = [] })
  away_then e es s admitted d under h = record {
    more = [];
    split = sym (append-nil admitted);
    decided = under;
    goes = subst (λ n. GoesOn skew greatest (sight_with o ds s (journal ++ admitted)) replied ends (with_client by (with_over n d) base)) (sym (over_still s (home_of e.op) d.over)) h;
    few = omega arith;
    fits = none_refused s (home_of e.op) 0 (e ∷ es);
  }

  ends_then : (e : Entry) (es rest : List Entry) (s : Server) (admitted : List Item) (d : Settled) (at : End) (gaps : List ℕ) → ShipEnds by e es s at gaps → d.log ≡ e ∷ (es ++ rest) → AllDecidedStand ds s (journal ++ admitted) → GoesOn skew greatest (sight_with o ds s (journal ++ admitted)) replied ends (with_client by d base)
      → IsShipped (e ∷ es) d admitted (record { server = s; admitted = admitted; end = at; gaps = gaps })
  ends_then e es rest s admitted d at gaps (refused u mine gone) log under h = refused_then e es rest s admitted d u (map (λ (x : Entry). x.n) es) log gone under h
  ends_then e es rest s admitted d at gaps (misplaced mine) log under h = away_then e es s admitted d under h

  pub shipped_still : (es : List Entry) (s : Server) (admitted : List Item) (rest : List Entry) (d : Settled) → d.log ≡ es ++ rest → d.over ≡ None → AllDecidedStand ds s (journal ++ admitted) → GoesOn skew greatest (sight_with o ds s (journal ++ admitted)) replied ends (with_client by d base) → IsShipped es d admitted (ship_from by es s admitted)
  shipped_still = each_entry by (λ es s admitted x. (rest : List Entry) (d : Settled) → d.log ≡ es ++ rest → d.over ≡ None → AllDecidedStand ds s (journal ++ admitted) → GoesOn skew greatest (sight_with o ds s (journal ++ admitted)) replied ends (with_client by d base) → IsShipped es d admitted x)
      (λ s admitted rest d log over under h. record { more = []; split = sym (append-nil admitted); decided = under; goes = h; few = omega arith; fits = refl })
      (λ e es s admitted x mine none p rest d log over under h. let q = admitted_then e es rest s admitted d log over none under h in went_on e es rest admitted d x log (p rest (acknowledged by (e ∷ (es ++ rest)) d) refl over q.0 q.1))
      (λ e es s admitted at gaps why rest d log over under h. ends_then e es rest s admitted d at gaps why log under h)
