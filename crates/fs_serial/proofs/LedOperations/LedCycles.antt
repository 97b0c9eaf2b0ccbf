-- The server that has all is told to bring a directory into itself: it admits the operation with that reply, and nothing changes.
use Rattle.std.proofs.Common.{◌≡◌, ℕ, true, List, [], ◌∷◌, ◌++◌, refl, sym, ap, subst}
use Rattle.fs_ident.specs.In.{In}
use Rattle.fs_ident.specs.declared.actor.Session.{Session}
use Rattle.fs_ident.proofs.Standing.{In-map, In-mapped}
use Rattle.fs_field.specs.declared.effect.Effect.{Effect}
use Rattle.fs_model.specs.declared.reply.Reply.TheVariants as reply
use Rattle.fs_msg.specs.declared.answer.Answer.TheVariants.{Led}
use Rattle.fs_msg.specs.declared.client_msg.ClientMsg.TheVariants.{Lead}
use Rattle.fs_msg.specs.declared.entry.Entry.{Entry}
use Rattle.fs_msg.specs.declared.item.Item.{Item}
use Rattle.fs_msg.specs.declared.lead.Lead.{Lead as ToLead}
use Rattle.fs_record.specs.Applied.{records_after_all}
use Rattle.fs_record.specs.LedEffects.{led_effects}
use Rattle.fs_record.specs.declared.led_end.LedEnd.{LedEnd}
use Rattle.fs_record.specs.declared.led_end.LedEnd.TheVariants as end
use Rattle.fs_server.specs.Ships.{item_of}
use Rattle.fs_server.specs.declared.state.Server.{Server}
use Rattle.fs_client.specs.Led.{can_end_with}
use Rattle.fs_client.specs.declared.led.Led.{Led as TheLed}
use Rattle.fs_serial.specs.Commits.{IsCommitted, with_led}
use Rattle.fs_serial.specs.Parts.{with_client, with_replies}
use Rattle.fs_serial.specs.Settled.{Lease, Settled, lease_after, told}
use Rattle.fs_serial.specs.Sight.{Sight}
use Rattle.fs_serial.specs.World.{GoesOn, HasNumber, World, WorldHolds, settled_at, sight_in, with_answer, without_question}
use Rattle.fs_serial.proofs.ClientMessages.Sending.{world_answered}
use Rattle.fs_serial.proofs.LedOperations.Committed.{commit_keeps_parts}
use Rattle.fs_serial.proofs.LedOperations.LedSteps.{end_fits_there, ended_is, goes, to_lead}
use Rattle.fs_serial.proofs.Lists.Counting.{given_by}
use Rattle.fs_serial.proofs.OneServer.LeaseChanges.{carried_alike}
use Rattle.fs_serial.proofs.OtherSessions.Older.{later_itself}
use Rattle.fs_serial.proofs.Transactions.Agreements.{cycle_does_nothing}

module _ (greatest : ℕ) (w : World) (by : Session) (m : ToLead) (up : (w.ends by).up ≡ Lead m ∷ []) (h : WorldHolds greatest w) where
  abbrev s : Server
  s = w.server

  abbrev l : TheLed
  l = (to_lead greatest w by m up h).led

  abbrev base : Session → Settled
  base x = settled_at x (w.ends x)

  abbrev now : Sight
  now = sight_in w

  abbrev entry : Entry
  entry = record (l.entry) { reply = reply.Cycle }

  abbrev pub item : Item
  item = item_of by entry

  abbrev e : LedEnd
  e = end.Done reply.Cycle

  module _ (committed : IsCommitted now by (base by) entry l.file) (can : can_end_with l.entry.op reply.Cycle ≡ true) where
    abbrev effects : List Effect
    effects = led_effects l.entry.op l.file reply.Cycle

    abbrev replied : Session → List Item
    replied = with_replies by (w.replied by ++ item ∷ []) w.replied

    abbrev then : Settled
    then = with_led by l.file entry (base by)

    numbers_then : (x : Lease) → In x then.leases → HasNumber (base by).leases x.no
    numbers_then x i =
        let q = In-map (lease_after by effects) x (base by).leases i in
        record { lease = q.0; held = q.1.0; number = ap (λ (y : Lease). y.no) (sym q.1.1) }

    numbers_still : (x : Lease) → In x (base by).leases → HasNumber then.leases x.no
    numbers_still x i = record { lease = lease_after by effects x; held = In-mapped (lease_after by effects) x (base by).leases i; number = refl }

    -- what comes of effects, none of which there is
    abbrev after : List Effect → Sight
    after es = record now {
      records = records_after_all now.records es;
      stored = records_after_all now.stored es;
      journal = w.journal ++ item ∷ [];
    }

    commit_goes : GoesOn s.skew greatest (after effects) replied w.ends (with_client by then base)
    commit_goes =
        let q = carried_alike s.skew greatest now w.ends base by then numbers_then numbers_still (goes greatest w by m up h).carried in
        record {
          all = commit_keeps_parts s.skew greatest now w.replied base by entry l.file (goes greatest w by m up h).all committed;
          carried = record { returns = q.returns; renewals = q.renewals; later = q.later };
        }

    goes_there : GoesOn s.skew greatest (after []) replied w.ends (with_client by (told by (Led e) (base by)) base)
    goes_there =
        subst (λ d. GoesOn s.skew greatest (after []) replied w.ends (with_client by d base)) (sym (ended_is greatest w by m up h e))
        (subst (λ es. GoesOn s.skew greatest (after es) replied w.ends (with_client by then base)) (cycle_does_nothing l.entry.op l.file) commit_goes)

    -- so many transactions were begun then
    pub world_cycled : (txns : ℕ) → WorldHolds greatest (record {
      server = record s { txns = txns };
      counts = w.counts;
      decided = w.decided;
      journal = w.journal ++ item ∷ [];
      replied = replied;
      ends = with_answer by (Led e) (without_question by w.ends);
    })
    world_cycled txns =
        world_answered greatest w (record s { txns = txns }) (w.journal ++ item ∷ []) by (Lead m) (Led e) up h w.decided replied refl h.clock
        (later_itself (given_by w.counts s) s.rows) goes_there refl (end_fits_there greatest w by m up h e can) (λ ends x q. absurd (cc))
