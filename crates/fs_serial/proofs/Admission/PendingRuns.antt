-- What a session has pending is a serial run on from what the servers hold, as far as the rows of its leases stand.
use Rattle.std.proofs.Common.{◌≡◌, ℕ, List, [], ◌∷◌, ◌++◌, map, refl, ap, ◌∙◌, sym, subst, inl}
use Rattle.std.specs.Prelude.{None}
use Rattle.fs_ident.specs.In.{In}
use Rattle.fs_ident.specs.declared.actor.Session.{Session}
use Rattle.fs_msg.specs.Journal.{IsSerialRun}
use Rattle.fs_msg.specs.declared.entry.Entry.{Entry}
use Rattle.fs_msg.specs.declared.item.Item.{Item}
use Rattle.fs_record.specs.Records.{nodes_of}
use Rattle.fs_record.specs.ValueOf.{value_of}
use Rattle.fs_server.specs.Ships.{item_of, with_entry}
use Rattle.fs_server.specs.declared.state.Server.{Server}
use Rattle.fs_serial.specs.Parts.{AllHold, with_client}
use Rattle.fs_serial.specs.Pending.{IsAnswer, IsEntry, PendingStand}
use Rattle.fs_serial.specs.Settled.{Settled, acknowledged}
use Rattle.fs_serial.specs.Sight.{Counts, sight_of}
use Rattle.fs_serial.specs.Steps.{AllStand, AreRepliesFrom}
use Rattle.fs_serial.proofs.Admission.AdmitAll.{admit_kept}
use Rattle.fs_serial.proofs.Admission.Answered.{answered, leads_there, no_reap}
use Rattle.fs_serial.proofs.Admission.Rowed.{all_found}
use Rattle.fs_serial.proofs.OtherSessions.Together.{its_client}

over_then : (by : Session) (entries : List Entry) (d : Settled) → (acknowledged by entries d).over ≡ d.over
over_then by [] d = refl
over_then by (e ∷ es) d = refl

pub pending_from : (o : Counts) (skew greatest : ℕ) (replied : Session → List Item) (by : Session) (rest front : List Entry) (s : Server) (journal : List Item) (clients : Session → Settled) → AllHold skew greatest (sight_of o s journal) replied clients
    → (clients by).log ≡ front ++ rest → (clients by).over ≡ None → AllStand s.rows by front → AreRepliesFrom (nodes_of s.records) by front
pending_from o skew greatest replied by rest [] s journal clients h log over stand = (nodes_of s.records, refl)
pending_from o skew greatest replied by rest (e ∷ es) s journal clients h log over stand =
    let d : Settled = clients by in
    let plain : IsEntry e = (h.fitting by).entries e (subst (In e) (sym log) (inl refl)) in
    let right : IsAnswer (value_of s.records by) e = (subst (PendingStand s.rows by (value_of s.records by)) log (h.sessions by).pending (all_found s.rows by e.uses stand.0)).0 in
    let then = admit_kept o skew greatest s journal replied clients by e h (record { rest = es ++ rest; log = log; going = over; found = stand.0 }) in
    let is = its_client by (acknowledged by d.log d) clients in
    let more = pending_from o skew greatest replied by rest es (with_entry by e s) (journal ++ item_of by e ∷ []) (with_client by (acknowledged by d.log d) clients) then
    (ap (λ (c : Settled). c.log) is ∙ ap (λ l. (acknowledged by l d).log) log) (ap (λ (c : Settled). c.over) is ∙ (over_then by d.log d ∙ over)) stand.1 in
    (more.0, (no_reap e.op plain.plain, answered s.records by e plain right, subst (λ m. IsSerialRun m (map (item_of by) es) more.0) (leads_there s.records by e plain right) more.1))
