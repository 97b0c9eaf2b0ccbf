-- All that holds of transactions is kept by each event of one, and by its decision.
use Rattle.std.proofs.Common.{◌≡◌, ◌==◌, ℕ, true, false, List, [], ◌∷◌, refl, sym, ap, ◌∙◌, subst, inl, inr}
use Rattle.std.specs.Prelude.{Option, Some, None, slice_get}
use Rattle.fs_ident.specs.In.{In}
use Rattle.fs_ident.specs.declared.actor.Session.{Session}
use Rattle.fs_ident.proofs.Passing.{found}
use Rattle.fs_ident.proofs.Standing.{In-got}
use Rattle.fs_field.specs.Table.{is_ordered, same_txn}
use Rattle.fs_field.specs.declared.used.Part.{Part}
use Rattle.fs_field.specs.declared.vote.Vote.{Vote}
use Rattle.fs_field.specs.declared.vote.Vote.TheVariants.{Moved}
use Rattle.fs_field.specs.declared.path.PathAnswer.{PathAnswer}
use Rattle.fs_model.specs.declared.op.Op.{Op}
use Rattle.fs_model.specs.declared.op.Op.TheVariants as op
use Rattle.fs_model.specs.declared.reply.Reply.{Reply}
use Rattle.fs_msg.specs.declared.answer.Answer.{Answer}
use Rattle.fs_msg.specs.declared.client_msg.ClientMsg.{ClientMsg}
use Rattle.fs_msg.specs.declared.client_msg.ClientMsg.TheVariants.{Lead}
use Rattle.fs_msg.specs.declared.decide.Decide.{Decide as DecideMsg}
use Rattle.fs_msg.specs.declared.done.Done.{Done as DoneMsg}
use Rattle.fs_msg.specs.declared.lead.Lead.{Lead as ToLead}
use Rattle.fs_msg.specs.declared.peer_msg.PeerMsg.TheVariants as peer
use Rattle.fs_msg.specs.declared.prepare.Prepare.{Prepare as PrepareMsg}
use Rattle.fs_msg.specs.declared.server_note.ServerNote.{ServerNote}
use Rattle.fs_msg.specs.declared.server_note.ServerNote.TheVariants as note
use Rattle.fs_msg.specs.declared.voted.Voted.{Voted as VotedMsg}
use Rattle.fs_client.specs.Led as client
use Rattle.fs_client.specs.declared.exchange.Exchange.{Exchange}
use Rattle.fs_client.specs.declared.exchange.Exchange.TheVariants.{Asks, Renews, Releases, Ships, Leads}
use Rattle.fs_client.specs.declared.state.Client.{Client}
use Rattle.fs_server.specs.Begins.{Round, leader_with, round_of, txn_of}
use Rattle.fs_server.specs.Concludes.{waits}
use Rattle.fs_server.specs.Counts.{after_own_vote, asked_at, done_step, seeks, with_vote}
use Rattle.fs_server.specs.Follows.{decide_step, prepare_step, recalls_for, vote_here}
use Rattle.fs_server.specs.Leads.{is_led}
use Rattle.fs_server.specs.Laws.{BeginsIn}
use Rattle.fs_server.specs.Server.{Stepped, is_mine}
use Rattle.fs_server.specs.declared.event.ServerEvent.TheVariants as event
use Rattle.fs_server.specs.declared.state.Server.{Server}
use Rattle.fs_txn.specs.Leading.{leading_of}
use Rattle.fs_txn.specs.Votes.{awaits, is_full, is_moved}
use Rattle.fs_txn.specs.declared.leading.Leading.{Leading}
use Rattle.fs_txn.specs.declared.mode.Mode2.{Mode2}
use Rattle.fs_serial.specs.Cluster.{Cluster, IsThere, after_step, is_with}
use Rattle.fs_serial.specs.Conclusions.{TellsCycles, after_concluded}
use Rattle.fs_serial.specs.Exchange.{IsQuestion, IsToBeLed, OneExchange, asked_server, server_of_question}
use Rattle.fs_serial.specs.Leading.{IsLeading, IsLedBy, IsMode, LedHolds}
use Rattle.fs_serial.specs.Owed.{ends_in}
use Rattle.fs_serial.specs.Seen.{ClusterHolds}
use Rattle.fs_serial.proofs.DecidedEffects.ConcludedTold.{concluded_few, told_new}
use Rattle.fs_serial.proofs.DecidedEffects.OwnApart.{one_each}
use Rattle.fs_serial.proofs.Transactions.AwaitedWords.{decide_awaited, prepare_awaited}
use Rattle.fs_serial.proofs.Transactions.Agreements.{begun_home, mode_begun}
use Rattle.fs_serial.proofs.Transactions.HomeVotes.{begun_plain}
use Rattle.fs_serial.proofs.Transactions.LedBegun.{led_begun}
use Rattle.fs_serial.proofs.Transactions.LedConcluded.{led_concluded}
use Rattle.fs_serial.proofs.Transactions.LedCounted.{led_counted, led_home, led_sought}
use Rattle.fs_serial.proofs.Transactions.LedDecided.{led_decided}
use Rattle.fs_serial.proofs.Transactions.LedDone.{led_done}
use Rattle.fs_serial.proofs.Transactions.LedPrepared.{OneEach, led_prepared}
use Rattle.fs_serial.proofs.Transactions.OneOwner.{none_its, only_its}
use Rattle.fs_serial.proofs.Transactions.Undecided.{up_asked}
use Rattle.fs_serial.proofs.Transactions.YesesStand.{session_stands}

-- what comes of a server's event of a transaction, or of its decision, is as all that holds of transactions has it
pub record KeepLed (k : ℕ) (c : Cluster) (s : Server) : Type 0 where
  pub prepared : (from : ℕ) (m : PrepareMsg) → IsThere k (event.FromPeer from (peer.Prepare m)) c
      → LedHolds (after_step k (event.FromPeer from (peer.Prepare m)) (prepare_step from m s) c)
  pub decided : (from : ℕ) (m : DecideMsg) → IsThere k (event.FromPeer from (peer.Decide m)) c
      → LedHolds (after_step k (event.FromPeer from (peer.Decide m)) (decide_step from m s) c)
  -- a vote is counted, and the transaction waits
  pub counted : (from : ℕ) (m : VotedMsg) → IsThere k (event.FromPeer from (peer.Vote m)) c → (l : Leading) (n : ServerNote)
      → leading_of m.txn s.leading ≡ Some l → awaits l.leader m.number ≡ true → is_moved m.vote ≡ false
      → LedHolds (after_step k (event.FromPeer from (peer.Vote m)) (waits n (with_vote m.number m.vote l) [] s) c)
  -- a part is said to be at its leader, and is
  pub own : (from : ℕ) (m : VotedMsg) → IsThere k (event.FromPeer from (peer.Vote m)) c → (l : Leading) (p : Part) (n : ServerNote)
      → leading_of m.txn s.leading ≡ Some l → awaits l.leader m.number ≡ true → is_moved m.vote ≡ true
      → slice_get l.leader.parts m.number ≡ Some p → is_mine s p.file ≡ true
      → LedHolds (after_step k (event.FromPeer from (peer.Vote m))
      (waits n (with_vote m.number (vote_here s l.leader.session p) (asked_at m.number s.me l))
      (recalls_for (vote_here s l.leader.session p) s p)
      (after_own_vote l.leader.txn p (vote_here s l.leader.session p) s)) c)
  -- a part is asked for at another server
  pub sought : (from : ℕ) (m : VotedMsg) → IsThere k (event.FromPeer from (peer.Vote m)) c → (l : Leading) (p : Part) (to : ℕ)
      → leading_of m.txn s.leading ≡ Some l → awaits l.leader m.number ≡ true → is_moved m.vote ≡ true
      → slice_get l.leader.parts m.number ≡ Some p → (to == s.me) ≡ false
      → LedHolds (after_step k (event.FromPeer from (peer.Vote m)) (seeks m.number to p l s) c)
  pub done : (from : ℕ) (m : DoneMsg) → IsThere k (event.FromPeer from (peer.Done m)) c
      → LedHolds (after_step k (event.FromPeer from (peer.Done m)) (done_step m s) c)
  pub begun : (by : Session) (m : ToLead) → IsThere k (event.FromClient by (Lead m)) c → (mode : Mode2) → BeginsIn m s mode
      → let r : Round = round_of mode by m s in
      LedHolds (after_step k (event.FromClient by (Lead m))
      (waits (note.Prepares (txn_of s)) (record { leader = leader_with mode (txn_of s) by m r.votes; at = r.at }) r.send r.server) c)
  pub concluded : (l : Leading) (path : Option PathAnswer) → TellsCycles c l path → leading_of l.leader.txn s.leading ≡ Some l
      → is_full l.leader.votes ≡ true → LedHolds (after_concluded k l path s c)

-- a vote that the file is elsewhere tells where it is
moved_where : (v : Vote) → is_moved v ≡ true → (prefix : List ℕ) × ((to : ℕ) × (v ≡ Moved prefix to))
moved_where (Moved prefix to) h = (prefix, (to, refl))
moved_where v h = absurd (cc h)

-- a server leads what a client asks it to
pub led_op : (o : Op) (r : Reply) → client.is_led o r ≡ true → is_led o ≡ true
led_op (op.Delete dir name) r e = refl
led_op (op.Rename sdir sname ddir dname) r e = refl
led_op o r e = absurd (cc e)

-- the question to lead was sent there
is_leads : (c : Client) (x : Option Exchange) (k : ℕ) (m : ToLead) (up : List ClientMsg) (down : List Answer) → up ≡ Lead m ∷ []
    → OneExchange c x up down → asked_server x ≡ Some k → x ≡ Some (Leads k)
is_leads c None k m up down e h to = absurd (cc to)
is_leads c (Some x) k m up down e (inr h) to = let wrong : [] ≡ Lead m ∷ [] = sym h.asked ∙ e in absurd (cc wrong)
is_leads c (Some x) k m up down e (inl h) to = by x (subst (IsQuestion x) is h.question) to
  where
    is : h.message ≡ Lead m
    is = let same : h.message ∷ [] ≡ Lead m ∷ [] = sym h.asked ∙ e in cc

    by : (x : Exchange) → IsQuestion x (Lead m) → Some (server_of_question x) ≡ Some k → Some x ≡ Some (Leads k)
    by (Leads n) q e = let same : n ≡ k = cc in ap (λ i. Some (Leads i)) same
    by (Asks n items fresh) q e = absurd (cc q)
    by (Renews n numbers) q e = absurd q
    by (Releases n numbers) q e = absurd q
    by (Ships n count) q e = absurd q

module _ (skew greatest k : ℕ) (c : Cluster) (s : Server) (at : slice_get c.servers k ≡ Some s) (h : ClusterHolds skew greatest c) where
  here : In s c.servers
  here = In-got c.servers k s at

  me : s.me ≡ k
  me = h.places.numbered k s at

  ordered : is_ordered s.rows ≡ true
  ordered = (h.places.homes s here).ordered

  one : OneEach c
  one = one_each skew greatest c h s here

  prepared : (from : ℕ) (m : PrepareMsg) → IsThere k (event.FromPeer from (peer.Prepare m)) c
      → LedHolds (after_step k (event.FromPeer from (peer.Prepare m)) (prepare_step from m s) c)
  prepared from m there =
      subst (λ (x : Stepped). LedHolds (after_step k (event.FromPeer from (peer.Prepare m)) x c))
      (sym (prepare_awaited k from c s at h.led m there)) (led_prepared k from c s at h.led m there ordered one)

  decided : (from : ℕ) (m : DecideMsg) → IsThere k (event.FromPeer from (peer.Decide m)) c
      → LedHolds (after_step k (event.FromPeer from (peer.Decide m)) (decide_step from m s) c)
  decided from m there =
      subst (λ (x : Stepped). LedHolds (after_step k (event.FromPeer from (peer.Decide m)) x c))
      (sym (decide_awaited k from c s at h.led m there)) (led_decided k from c s at h.led me m there)

  module _ (l : Leading) (leads : leading_of l.leader.txn s.leading ≡ Some l) where
    there : In l s.leading
    there = (found (λ (z : Leading). same_txn z.leader.txn l.leader.txn) s.leading l leads).0

    of_led : IsLeading c.lines s h.led.parts l
    of_led = h.led.leading s here l there

    is_its : is_led l.leader.op ≡ true
    is_its = ap is_led of_led.leader.op
        ∙ led_op of_led.led.entry.op of_led.led.entry.reply (session_stands k skew greatest c s at h l there of_led.led
        (subst (λ n. IsLedBy c.lines l.leader.session n of_led.led) me of_led.client)).leads

    concluded : (path : Option PathAnswer) → TellsCycles c l path → is_full l.leader.votes ≡ true → LedHolds (after_concluded k l path s c)
    concluded path tells full =
        led_concluded k c s at h.led me l path leads full is_its (concluded_few k skew greatest c s at h l there path tells)
        (told_new k skew greatest c s at h l there path tells)

  own : (from : ℕ) (m : VotedMsg) → IsThere k (event.FromPeer from (peer.Vote m)) c → (l : Leading) (p : Part) (n : ServerNote)
      → leading_of m.txn s.leading ≡ Some l → awaits l.leader m.number ≡ true → is_moved m.vote ≡ true
      → slice_get l.leader.parts m.number ≡ Some p → is_mine s p.file ≡ true
      → LedHolds (after_step k (event.FromPeer from (peer.Vote m))
      (waits n (with_vote m.number (vote_here s l.leader.session p) (asked_at m.number s.me l))
      (recalls_for (vote_here s l.leader.session p) s p)
      (after_own_vote l.leader.txn p (vote_here s l.leader.session p) s)) c)
  own from m comes l p n leads waited moved part mine =
      let q = moved_where m.vote moved in
      let there : In l s.leading = (found (λ (z : Leading). same_txn z.leader.txn m.txn) s.leading l leads).0 in
      led_home k from c s at h.led me m l comes leads p part q.0 q.1.0 q.1.0 q.1.1 n ordered mine (only_its c h.led k s at one l there)

  sought : (from : ℕ) (m : VotedMsg) → IsThere k (event.FromPeer from (peer.Vote m)) c → (l : Leading) (p : Part) (to : ℕ)
      → leading_of m.txn s.leading ≡ Some l → awaits l.leader m.number ≡ true → is_moved m.vote ≡ true
      → slice_get l.leader.parts m.number ≡ Some p → (to == s.me) ≡ false
      → LedHolds (after_step k (event.FromPeer from (peer.Vote m)) (seeks m.number to p l s) c)
  sought from m comes l p to leads waited moved part off =
      let q = moved_where m.vote moved in
      led_sought k from c s at h.led me m l comes leads p part q.0 q.1.0 to q.1.1 off

  module _ (by : Session) (m : ToLead) (comes : IsThere k (event.FromClient by (Lead m)) c) where
    up : (ends_in c by).up ≡ Lead m ∷ []
    up = up_asked skew greatest c s here h by k m comes

    pub asked : IsToBeLed (c.lines by).client.led m
    asked = ((h.parts s here).0.exchanges by).leads m (subst (In (Lead m)) (sym up) (inl refl))

    waits_here : IsLedBy c.lines by k asked.led
    waits_here = record {
      led = asked.is;
      asked = is_leads (c.lines by).client (c.lines by).client.exchange k m (ends_in c by).up (ends_in c by).down up
          ((h.parts s here).0.exchanges by).one
          ((h.addressed by).up (k, Lead m) (found (is_with k) (c.lines by).up (k, Lead m) comes).0);
    }

    begun : (mode : Mode2) → BeginsIn m s mode
        → let r : Round = round_of mode by m s in
        LedHolds (after_step k (event.FromClient by (Lead m))
        (waits (note.Prepares (txn_of s)) (record { leader = leader_with mode (txn_of s) by m r.votes; at = r.at }) r.send r.server) c)
    begun mode begins =
        led_begun mode k c s at by m h.led me h.places.numbered ordered (none_its c h.led k s at one by m comes) asked.led
        waits_here asked.told (begun_home m s mode begins)
        (begun_plain k skew greatest c s at h by m asked.led comes asked.is mode begins)
        (subst (λ (x : ToLead). IsMode mode x.kind m.op) asked.told (mode_begun m s mode begins))

  pub all_keep_led : KeepLed k c s
  all_keep_led = record {
    prepared = prepared;
    decided = decided;
    counted = λ from m comes l n leads waited counts. led_counted k from c s at h.led me m l comes leads waited counts n;
    own = own;
    sought = sought;
    done = λ from m comes. led_done k from c s at h.led me m comes;
    begun = begun;
    concluded = λ l path tells leads full. concluded l leads path tells full;
  }
