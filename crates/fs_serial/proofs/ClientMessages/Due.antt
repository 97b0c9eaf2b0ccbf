-- A server answers the session that asked, and sends recalls.
use Rattle.std.proofs.Common.{◌≡◌, ℕ, Bool, true, false, List, [], ◌∷◌, length, cond, ap, ◌∙◌, inl, inr}
use Rattle.std.specs.Prelude.{Option, Some, None}
use Rattle.std.specs.List.{list_all}
use Rattle.fs_ident.specs.In.{In}
use Rattle.fs_ident.specs.declared.actor.Peer.{Peer}
use Rattle.fs_ident.specs.declared.actor.Peer.TheVariants.{Client as OfSession, Server as OfServer}
use Rattle.fs_ident.specs.declared.actor.Session.{Session}
use Rattle.fs_msg.specs.declared.answer.Answer.{Answer}
use Rattle.fs_msg.specs.declared.answer.Answer.TheVariants.{Granted, Shipped}
use Rattle.fs_msg.specs.declared.client_msg.ClientMsg.{ClientMsg}
use Rattle.fs_msg.specs.declared.client_msg.ClientMsg.TheVariants.{Ask, Renew, Release, Ship, Lead}
use Rattle.fs_msg.specs.declared.entry.Entry.{Entry}
use Rattle.fs_msg.specs.declared.msg.Msg.{Msg}
use Rattle.fs_msg.specs.declared.msg.Msg.TheVariants as msg
use Rattle.fs_msg.specs.declared.peer_msg.PeerMsg.{PeerMsg}
use Rattle.fs_msg.specs.declared.peer_msg.PeerMsg.TheVariants as peer
use Rattle.fs_parcel.specs.Parcel.{parcel_of}
use Rattle.fs_parcel.specs.declared.error.MoveError.{MoveError}
use Rattle.fs_record.specs.Effects.{tells_its_effects}
use Rattle.fs_record.specs.declared.parcel.Parcel.{Parcel}
use Rattle.fs_server.specs.Asks.{asked_in, recalls_at}
use Rattle.fs_server.specs.Follows.{to_server}
use Rattle.fs_server.specs.Moves.{fits_here, move_at, parcel_at, peer_step}
use Rattle.fs_server.specs.Reaps.{lapsed_in, reap_from, recalls_for, turn_over}
use Rattle.fs_server.specs.Server.{Stepped, strange, to_session}
use Rattle.fs_server.specs.Ships.{ship_from, shipped}
use Rattle.fs_server.specs.Step.{event_step, recalled_on, recalls_of}
use Rattle.fs_server.specs.declared.event.ServerEvent.{ServerEvent}
use Rattle.fs_server.specs.declared.event.ServerEvent.TheVariants as event
use Rattle.fs_server.specs.declared.state.Server.{Server}
use Rattle.fs_serial.specs.Words.{IsNoneOfLed}
use Rattle.fs_serial.proofs.WholeRuns.Addressing.{AreDue, recalls_due}
use Rattle.fs_serial.proofs.Moves.PathSteps.{ArePathSends, each_message, refusal_here, refused, sent_path}
use Rattle.fs_serial.proofs.ClientMessages.Sending.{IsRecallTo, recall_all, recall_each, recall_with}

-- ## Answers

module _ (k : ℕ) (asked : Session → Option ℕ) where
  -- one answer to the session that asked, and recalls behind it
  pub one_due : (by : Session) (a : Answer) (rest : List (Peer × Msg)) → asked by ≡ Some k → ((m : Peer × Msg) → In m rest → IsRecallTo m) → AreDue k (to_session by a ∷ rest) asked
  one_due by a rest due are to b (inl e) d =
      let same : OfSession to ≡ OfSession by = ap (λ (p : Peer × Msg). p.0) e in
      let is : to ≡ by = cc in
      ap asked is ∙ due
  one_due by a rest due are to b (inr i) d = recalls_due k rest asked are to b i d

  none_due : AreDue k [] asked
  none_due to a i d = absurd i

  ship_due : (by : Session) (entries : List Entry) (s : Server) (b : Bool) → asked by ≡ Some k → AreDue k (cond b (shipped by (ship_from by entries s [])) (strange s)).out.send asked
  ship_due by entries s true due = let x = ship_from by entries s [] in one_due by (Shipped (length x.admitted) x.end) [] due (λ m i. absurd i)
  ship_due by entries s false due = none_due

  message_due : (by : Session) (m : ClientMsg) (s : Server) → IsNoneOfLed (event.FromClient by m) → asked by ≡ Some k → AreDue k (event_step (event.FromClient by m) s).out.send asked
  message_due by (Ask items dir) s none due = let a = asked_in by items dir s in one_due by (Granted a.grants a.fresh a.end) (recalls_at a.end a.server.rows) due (recall_with a.end a.server.rows)
  message_due by (Renew pairs) s none due = λ to b i d. one_due by _ [] due (λ m j. absurd j) to b i d
  message_due by (Release pairs) s none due = λ to b i d. one_due by _ [] due (λ m j. absurd j) to b i d
  message_due by (Ship entries) s none due = ship_due by entries s (list_all (λ (e : Entry). tells_its_effects e.op) entries) due
  message_due by (Lead m) s none due = absurd none

  turn_due : (xs : List (List ℕ × Session)) (s : Server) → AreDue k (turn_over xs s).out.send asked
  turn_due [] s = none_due
  turn_due (x ∷ xs) s = let r = reap_from (x ∷ xs) s [] [] in recalls_due k (recalls_for r.server.rows r.blockers) asked (recall_each r.server.rows r.blockers)

  parcel_due : (b : Bool) (p : Parcel) (s : Server) → AreDue k (parcel_at b p s).out.send asked
  parcel_due true p s = none_due
  parcel_due false p s = none_due

  -- what goes to another server goes to no session
  server_due : (to : ℕ) (m : PeerMsg) → AreDue k (to_server to m ∷ []) asked
  server_due to m = λ x a i d. elim i as (λ _. asked x ≡ Some k) [
    | inl e ↦ let same : OfSession x ≡ OfServer to = ap (λ (p : Peer × Msg). p.0) e in absurd (cc)
    | inr z ↦ absurd z
  ]

  -- nor do messages of path leases
  paths_due : (ms : List (Peer × Msg)) → ArePathSends ms → AreDue k ms asked
  paths_due ms sent to a i d = absurd (sent_path ms sent (OfSession to, msg.Answer a) i)

  peer_due : (from : ℕ) (m : PeerMsg) (s : Server) → IsNoneOfLed (event.FromPeer from m) → AreDue k (peer_step from m s).out.send asked
  peer_due from (peer.Parcel p) s none = parcel_due (fits_here p s) p s
  peer_due from (peer.Prepare m) s none = absurd (cc none)
  peer_due from (peer.Vote m) s none = absurd (cc none)
  peer_due from (peer.Decide m) s none = absurd (cc none)
  peer_due from (peer.Done m) s none = absurd (cc none)
  peer_due from m s none = each_message (λ (x : Stepped). AreDue k x.out.send asked) s
      (λ n ms paths asking given noted sent. paths_due ms sent) from m tt

  move_due : (o : Option MoveError) (prefix : List ℕ) (to : ℕ) (s : Server) → AreDue k (move_at o prefix to s).out.send asked
  move_due None prefix to s = server_due to (peer.Parcel (parcel_of s.records s.rows s.map s.me prefix))
  move_due (Some why) prefix to s = refused (λ (x : Stepped). AreDue k x.out.send asked) s
      (λ n ms paths asking given noted sent. paths_due ms sent) why prefix to

  -- the session that is told asked
  abbrev pub HasAsked : ServerEvent → Type 0
  HasAsked (event.FromClient by m) = asked by ≡ Some k
  HasAsked e = Unit {0}

  pub event_due : (e : ServerEvent) (s : Server) → IsNoneOfLed e → HasAsked e → AreDue k (event_step e s).out.send asked
  event_due (event.FromClient by m) s none due = message_due by m s none due
  event_due (event.FromPeer from m) s none due = peer_due from m s none
  event_due event.Turn s none due = turn_due (lapsed_in s) s
  event_due (event.Recall field) s none due = recalls_due k (recalls_of (recalled_on field s)) asked (recall_all (recalled_on field s))
  event_due (event.Move prefix to) s none due = move_due (refusal_here prefix to s) prefix to s
