-- A server that does not lead an operation now keeps all.
use Rattle.std.proofs.Common.{◌≡◌, ℕ, [], ◌∷◌, append-nil, refl, sym, ap, ◌∙◌, subst}
use Rattle.std.specs.Prelude.{Some, slice_get}
use Rattle.fs_ident.specs.declared.actor.Session.{Session}
use Rattle.fs_ident.proofs.Passing.{found}
use Rattle.fs_msg.specs.declared.answer.Answer.TheVariants as answer
use Rattle.fs_msg.specs.declared.client_msg.ClientMsg.TheVariants.{Lead}
use Rattle.fs_msg.specs.declared.lead.Lead.{Lead as ToLead}
use Rattle.fs_record.specs.declared.led_end.LedEnd.TheVariants as end
use Rattle.fs_record.specs.declared.led_end.Why.{Why}
use Rattle.fs_client.specs.declared.state.Client.{Client}
use Rattle.fs_server.specs.Leads.{refuses}
use Rattle.fs_server.specs.Server.{Stepped}
use Rattle.fs_server.specs.declared.event.ServerEvent.{ServerEvent}
use Rattle.fs_server.specs.declared.event.ServerEvent.TheVariants.{FromClient}
use Rattle.fs_server.specs.declared.state.Server.{Server}
use Rattle.fs_serial.specs.Cluster.{Cluster, IsThere, after_step, is_with, without_question}
use Rattle.fs_serial.specs.Decided.{WorldStands}
use Rattle.fs_serial.specs.Exchange.{asked_server}
use Rattle.fs_serial.specs.Leading.{LeavesLed}
use Rattle.fs_serial.specs.Owed.{ends_in}
use Rattle.fs_serial.specs.Seen.{ClusterHolds, counts_of, with_all, world_of}
use Rattle.fs_serial.specs.Words.{decided_in}
use Rattle.fs_serial.specs.World.{World}
use Rattle.fs_serial.specs.World as world
use Rattle.fs_serial.proofs.ClientMessages.Due.{one_due}
use Rattle.fs_serial.proofs.LedOperations.LeadSame.{refuse_same}
use Rattle.fs_serial.proofs.LedOperations.LedSteps.{freed_fits, world_freed}
use Rattle.fs_serial.proofs.Transactions.LeavesLed.{leaves_led, tables_itself}
use Rattle.fs_serial.proofs.Transactions.OthersKeep.{taken_client}
use Rattle.fs_serial.proofs.Transactions.SeenMeanwhile.{asked_up}
use Rattle.fs_serial.proofs.Transactions.StandsAfter.{made, ones, stands_after, view}

module _ (skew greatest k : ℕ) (c : Cluster) (s : Server) (at : slice_get c.servers k ≡ Some s) (h : ClusterHolds skew greatest c)
    (by : Session) (m : ToLead) (there : IsThere k (FromClient by (Lead m)) c) (why : Why) where
  abbrev e : ServerEvent
  e = FromClient by (Lead m)

  abbrev w : World
  w = world_of s c

  -- what the server that has all answers
  abbrev big : Stepped
  big = refuses by why (with_all s c)

  pub put_off_leaves : LeavesLed k e s (refuses by why s) c
  put_off_leaves = leaves_led k e s (refuses by why s) c (tables_itself s) refl refl

  up : (ends_in c by).up ≡ Lead m ∷ []
  up = asked_up k by (Lead m) c.servers c.lines there (ones skew greatest k c s at h by)

  now : WorldStands greatest w
  now = view skew greatest k c s at h

  freed : WorldStands greatest (record {
    server = with_all s c;
    counts = counts_of c.servers;
    decided = decided_in c;
    journal = c.journal;
    replied = c.replied;
    ends = world.with_answer by (answer.Led (end.Again why)) (world.without_question by (ends_in c));
  })
  freed = (
    world_freed greatest w by m up now.0 s.txns (end.Again why) refl refl,
    freed_fits greatest w by m up now.0 s.txns (end.Again why) now.1,
  )

  seen : WorldStands greatest
      (made skew greatest k c s at h e there (refuses by why s) big (refuse_same k c s by m at h.places why) put_off_leaves)
  seen =
      subst (λ journal. WorldStands greatest (record {
        server = with_all s c;
        counts = counts_of c.servers;
        decided = decided_in c;
        journal = journal;
        replied = c.replied;
        ends = world.with_sent big.out.send (world.without_taken e (ends_in c));
      })) (sym (append-nil c.journal))
      freed

  pub put_off_keeps : ClusterHolds skew greatest (after_step k e (refuses by why s) c)
  put_off_keeps =
      let asked = λ (z : Session). asked_server (without_question k e c.lines z).client.exchange in
      let due : asked by ≡ Some k =
      ap (λ (d : Client). asked_server d.exchange) (taken_client k e c.lines by)
      ∙ (h.addressed by).up (k, Lead m) (found (is_with k) (c.lines by).up (k, Lead m) there).0 in
      stands_after skew greatest k c s at h e there (refuses by why s) big (refuse_same k c s by m at h.places why) put_off_leaves (λ p. p)
      (one_due k asked by (answer.Led (end.Again why)) [] due (λ m i. absurd i)) seen
