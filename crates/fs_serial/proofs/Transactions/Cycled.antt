-- A rename would bring a directory into itself: it is admitted with that reply, and all that holds of what is seen holds then.
use Rattle.std.proofs.Common.{◌≡◌, ℕ, true, List, [], ◌∷◌, ◌++◌, sym, ap, ap₂, ◌∙◌, subst}
use Rattle.std.specs.Prelude.{Option, Some, None, slice_get}
use Rattle.fs_ident.specs.In.{In}
use Rattle.fs_ident.specs.declared.actor.Peer.TheVariants.{Client}
use Rattle.fs_ident.specs.declared.actor.Session.{Session}
use Rattle.fs_ident.proofs.Standing.{In-got}
use Rattle.fs_field.specs.declared.path.PathAnswer.{PathAnswer}
use Rattle.fs_model.specs.declared.reply.Reply.TheVariants as reply
use Rattle.fs_msg.specs.declared.client_msg.ClientMsg.TheVariants.{Lead}
use Rattle.fs_msg.specs.declared.item.Item.{Item}
use Rattle.fs_client.specs.Led.{can_end_with, lead_of}
use Rattle.fs_client.specs.declared.led.Led.{Led as TheLed}
use Rattle.fs_server.specs.Concludes.{admitted_of, concludes}
use Rattle.fs_server.specs.Ships.{item_of}
use Rattle.fs_server.specs.declared.state.Server.{Server}
use Rattle.fs_txn.specs.Deciding.{commit, decision, first_end, needs_path}
use Rattle.fs_txn.specs.declared.decision.Decision.{Decision}
use Rattle.fs_txn.specs.declared.leading.Leading.{Leading}
use Rattle.fs_serial.specs.Cluster.{Cluster, with_items}
use Rattle.fs_serial.specs.Commits.{IsCommitted}
use Rattle.fs_serial.specs.Conclusions.{TellsCycles, after_concluded}
use Rattle.fs_serial.specs.Decided.{WorldStands}
use Rattle.fs_serial.specs.Leading.{ComesInto, IsLeading}
use Rattle.fs_serial.specs.Owed.{ends_in}
use Rattle.fs_serial.specs.Seen.{ClusterHolds, world_of}
use Rattle.fs_serial.specs.World.{World, WorldHolds, settled_at, sight_in}
use Rattle.fs_serial.proofs.DecidedEffects.DecisionSeen as decides
use Rattle.fs_serial.proofs.LedOperations.LedCycles.{world_cycled}
use Rattle.fs_serial.proofs.LedOperations.LedSteps.{to_lead}
use Rattle.fs_serial.proofs.OtherSessions.Gone.{made_more}
use Rattle.fs_serial.proofs.Transactions.Agreements.{IsOn, can_cycle, cycle_tells_none, needs_comes}
use Rattle.fs_serial.proofs.Transactions.FullCommits.{full_cycles}
use Rattle.fs_serial.proofs.Transactions.Unapplied as unapplied

module _ (k skew greatest : ℕ) (c : Cluster) (s : Server) (at : slice_get c.servers k ≡ Some s) (h : ClusterHolds skew greatest c)
    (l : Leading) (there : In l s.leading) (path : Option PathAnswer) (tells : TellsCycles c l path) where
  abbrev d : Decision
  d = commit l.leader reply.Cycle

  abbrev by : Session
  by = l.leader.session

  abbrev w : World
  w = world_of s c

  abbrev leads : IsLeading c.lines s h.led.parts l
  leads = h.led.leading s (In-got c.servers k s at) l there

  abbrev o : TheLed
  o = leads.led

  abbrev asked : TheLed
  asked = unapplied.asked k skew greatest c s at h l there d (cycle_tells_none l.leader)

  up : (ends_in c by).up ≡ Lead (lead_of asked) ∷ []
  up = unapplied.up k skew greatest c s at h l there d (cycle_tells_none l.leader)

  view : WorldStands greatest w
  view = h.parts s (In-got c.servers k s at)

  -- what the session asked to be led
  its : o ≡ (to_lead greatest w by (lead_of asked) up view.0).led
  its =
      let both : Some o ≡ Some (to_lead greatest w by (lead_of asked) up view.0).led =
      sym leads.client.led ∙ (to_lead greatest w by (lead_of asked) up view.0).is in
      cc

  abbrev item : TheLed → Item
  item x = item_of by (record (x.entry) { reply = reply.Cycle })

  item_is : admitted_of d l.leader ≡ item o ∷ []
  item_is =
      ap₂ (λ n x. let i : Item = record { by = Client by; n = n; op = x; reply = reply.Cycle } in i ∷ []) leads.leader.number leads.leader.op

  module _ (none : first_end l.leader.votes ≡ None) (n : needs_path l.leader.mode l.leader.op ≡ true) (on : IsOn true l.leader path) where
    cycled : IsCommitted (sight_in w) by (settled_at by (ends_in c by)) (record (o.entry) { reply = reply.Cycle }) o.file
    cycled = full_cycles k skew greatest c s at h l there none path tells n on

    can : can_end_with o.entry.op reply.Cycle ≡ true
    can = can_cycle o.kind o.entry.op
        (subst (ComesInto o.kind) leads.leader.op (needs_comes l.leader.mode o.kind l.leader.op leads.leader.mode n))

    abbrev told_with : List Item → World
    told_with items = record (unapplied.told_world k skew greatest c s at h l there d (cycle_tells_none l.leader)) {
      journal = c.journal ++ items;
      replied = with_items items c.replied;
    }

    told_holds : WorldHolds greatest (told_with (admitted_of d l.leader))
    told_holds =
        subst (λ is. WorldHolds greatest (told_with is)) (sym (item_is ∙ ap (λ x. item x ∷ []) its))
        (world_cycled greatest w by (lead_of asked) up view.0
        (subst (λ (x : TheLed). IsCommitted (sight_in w) by (settled_at by (ends_in c by)) (record (x.entry) { reply = reply.Cycle }) x.file)
        its cycled)
        (subst (λ (x : TheLed). can_end_with x.entry.op reply.Cycle ≡ true) its can) s.txns)

    pub cycle_stands : decision l.leader path ≡ d
        → WorldStands greatest (world_of (concludes l path [] s).server (after_concluded k l path s c))
    cycle_stands is =
        subst (λ (d : Decision). WorldStands greatest (world_of (decides.y k skew greatest c s at h l there d)
        (decides.after k skew greatest c s at h l there d))) (sym is)
        (unapplied.unapplied_stands k skew greatest c s at h l there d (cycle_tells_none l.leader)
        (λ id made. made_more c.journal _ id made) told_holds)
