-- A server decides a transaction of which all parts have voted: all that holds of the cluster holds then.
use Rattle.std.proofs.Common.{◌≡◌, ℕ, true, List, [], ◌∷◌, ◌++◌, refl, ap, ◌∙◌, inl, inr}
use Rattle.std.specs.Prelude.{Option, Some, slice_get}
use Rattle.fs_ident.specs.In.{In}
use Rattle.fs_ident.specs.declared.actor.Peer.{Peer}
use Rattle.fs_ident.specs.declared.actor.Peer.TheVariants.{Client as OfSession, Server as OfServer}
use Rattle.fs_ident.specs.declared.actor.Session.{Session}
use Rattle.fs_ident.specs.declared.actor.TxnNo.{TxnNo}
use Rattle.fs_ident.proofs.Passing.{found}
use Rattle.fs_ident.proofs.Standing.{In-got}
use Rattle.fs_field.specs.Table.{same_txn}
use Rattle.fs_field.specs.declared.path.PathAnswer.{PathAnswer}
use Rattle.fs_msg.specs.declared.answer.Answer.TheVariants as answer
use Rattle.fs_msg.specs.declared.msg.Msg.{Msg}
use Rattle.fs_model.specs.declared.reply.Reply.TheVariants as reply
use Rattle.fs_record.specs.declared.led_end.LedEnd.{LedEnd}
use Rattle.fs_server.specs.Concludes.{concludes, ends_now, tells}
use Rattle.fs_server.specs.LeadingLaws.{CommitSplits}
use Rattle.fs_server.specs.declared.state.Server.{Server}
use Rattle.fs_txn.specs.Deciding.{commit, decision}
use Rattle.fs_txn.specs.Leading.{elsewhere, end_of_decision, leading_of}
use Rattle.fs_txn.specs.Votes.{is_full}
use Rattle.fs_txn.specs.declared.decision.Decision.{Decision}
use Rattle.fs_txn.specs.declared.decision.Decision.TheVariants.{Abort}
use Rattle.fs_txn.specs.declared.leading.Leading.{Leading}
use Rattle.fs_serial.specs.Cluster.{Cluster}
use Rattle.fs_serial.specs.Conclusions.{TellsCycles, after_concluded}
use Rattle.fs_serial.specs.Decided.{WorldStands}
use Rattle.fs_serial.specs.Exchange.{asked_server}
use Rattle.fs_serial.specs.Leading.{IsLeading, LedHolds}
use Rattle.fs_serial.specs.Places.{PlacesHold}
use Rattle.fs_serial.specs.Seen.{ClusterHolds, IsAddressed, world_of}
use Rattle.fs_serial.proofs.ClientMessages.Due.{one_due}
use Rattle.fs_serial.proofs.DecidedEffects.CommitKeeps.{commit_keeps, own_files}
use Rattle.fs_serial.proofs.Transactions.Aborted.{abort_stands}
use Rattle.fs_serial.proofs.Transactions.Agreements.{Decides, aborts, carries, cycle_tells_none, cycles, decides_so}
use Rattle.fs_serial.proofs.Transactions.DecisionPlaces.{decision_places, unapplied_places}
use Rattle.fs_serial.proofs.Transactions.StandsAfter.{all_stand}
use Rattle.fs_serial.proofs.Transactions.Cycled.{cycle_stands}
use Rattle.fs_serial.proofs.WholeRuns.Addressing.{AreDue, sent_addressed}
use Rattle.fs_serial.proofs.WholeRuns.LedKept.{all_keep_led}

-- only its session is told anything
now_due : (k : ℕ) (by : Session) (e : LedEnd) (asked : Session → Option ℕ) → asked by ≡ Some k → (out : List (ℕ × ℕ))
    → AreDue k (ends_now out by e) asked
now_due k by e asked is [] = one_due k asked by (answer.Led e) [] is (λ m i. absurd i)
now_due k by e asked is (x ∷ xs) = λ to a i. absurd i

-- words to other servers are told to no session
told_due : (k : ℕ) (txn : TxnNo) (d : Decision) (asked : Session → Option ℕ) (out : List (ℕ × ℕ)) (more : List (Peer × Msg))
    → AreDue k more asked → AreDue k (tells txn d out ++ more) asked
told_due k txn d asked [] more h to a i r = h to a i r
told_due k txn d asked (x ∷ xs) more h to a (inl e) r =
    let wrong : OfSession to ≡ OfServer x.1 = ap (λ (p : Peer × Msg). p.0) e in absurd (cc wrong)
told_due k txn d asked (x ∷ xs) more h to a (inr i) r = told_due k txn d asked xs more h to a i r

module _ (skew greatest k : ℕ) (c : Cluster) (s : Server) (l : Leading) (path : Option PathAnswer) (at : slice_get c.servers k ≡ Some s)
    (h : ClusterHolds skew greatest c) (tells : TellsCycles c l path) (leads : leading_of l.leader.txn s.leading ≡ Some l)
    (full : is_full l.leader.votes ≡ true) (splits : CommitSplits) where
  abbrev then : Cluster
  then = after_concluded k l path s c

  here : In s c.servers
  here = In-got c.servers k s at

  there : In l s.leading
  there = (found (λ (z : Leading). same_txn z.leader.txn l.leader.txn) s.leading l leads).0

  me : s.me ≡ k
  me = h.places.numbered k s at

  led : LedHolds then
  led = (all_keep_led skew greatest k c s at h).concluded l path tells leads full

  of_led : IsLeading c.lines s h.led.parts l
  of_led = h.led.leading s here l there

  -- a transaction commits, or changes nothing
  both : Decides l.leader path → PlacesHold then × WorldStands greatest (world_of (concludes l path [] s).server then)
  both (carries none clear is) = (
    decision_places k c s at h.places h.led l path there (own_files k skew greatest c s at h l there none path tells clear is splits),
    commit_keeps k skew greatest c s at h l there none path tells clear is splits led,
  )
  both (cycles none n on is) = (
    unapplied_places k c s at h.places h.led l path there (commit l.leader reply.Cycle) is (cycle_tells_none l.leader),
    cycle_stands k skew greatest c s at h l there path tells none n on is,
  )
  both (aborts e is) = (
    unapplied_places k c s at h.places h.led l path there (Abort e) is (λ i. refl),
    abort_stands k skew greatest c s at h l path leads e is,
  )

  it : PlacesHold then × WorldStands greatest (world_of (concludes l path [] s).server then)
  it = both (decides_so l.leader of_led.led.kind path of_led.leader.mode)

  pub places : PlacesHold then
  places = it.0

  pub stands : WorldStands greatest (world_of (concludes l path [] s).server then)
  stands = it.1

  addressed : (x : Session) → IsAddressed (then.lines x)
  addressed =
      let d : Decision = decision l.leader path in
      let asked : Session → Option ℕ = λ x. asked_server (c.lines x).client.exchange in
      let by : Session = l.leader.session in
      let its : asked by ≡ Some k = ap asked_server of_led.client.asked ∙ ap Some me in
      sent_addressed k (concludes l path [] s).out.send c.lines
      (told_due k l.leader.txn d asked (elsewhere s.me l) (ends_now (elsewhere s.me l) by (end_of_decision d))
      (now_due k by (end_of_decision d) asked its (elsewhere s.me l))) h.addressed

  pub decision_keeps : ClusterHolds skew greatest then
  decision_keeps =
      all_stand skew greatest k c s at h then (concludes l path [] s).server refl refl (h.parts s here).0.clock places (λ p. p) led stands
      addressed
