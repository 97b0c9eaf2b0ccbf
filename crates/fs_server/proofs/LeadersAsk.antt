-- Which paths a leader asks for.
use Rattle.std.proofs.Common.{◌≡◌, ◌+◌, ℕ, Bool, true, false, List, [], ◌∷◌, ◌++◌, refl, ap, ◌∙◌, cond, inl, inr}
use Rattle.std.specs.Prelude.{Option, Some, None}
use Rattle.fs_ident.specs.In.{In}
use Rattle.fs_ident.specs.declared.actor.PathNo.{PathNo}
use Rattle.fs_ident.specs.declared.actor.Peer.{Peer}
use Rattle.fs_ident.specs.declared.actor.Peer.TheVariants.{Client, Server as OfServer}
use Rattle.fs_ident.specs.declared.actor.Session.{Session}
use Rattle.fs_ident.specs.declared.actor.TxnNo.{TxnNo}
use Rattle.fs_ident.proofs.Standing.{In-both, In-map, In-more}
use Rattle.fs_field.specs.declared.path.PathAnswer.{PathAnswer}
use Rattle.fs_field.specs.declared.used.Part.{Part}
use Rattle.fs_field.specs.declared.vote.Vote.{Vote}
use Rattle.fs_field.specs.declared.vote.Vote.TheVariants.{Yes, Ended, Moved, PathsOut}
use Rattle.fs_map.specs.Map.{server_of}
use Rattle.fs_msg.specs.declared.answer.Answer.{Answer}
use Rattle.fs_msg.specs.declared.answer.Answer.TheVariants as answer
use Rattle.fs_msg.specs.declared.lead.Lead.{Lead}
use Rattle.fs_msg.specs.declared.msg.Msg.{Msg}
use Rattle.fs_msg.specs.declared.peer_msg.PeerMsg.{PeerMsg}
use Rattle.fs_msg.specs.declared.peer_msg.PeerMsg.TheVariants as peer
use Rattle.fs_msg.specs.declared.server_note.ServerNote.{ServerNote}
use Rattle.fs_msg.specs.declared.server_note.ServerNote.TheVariants as note
use Rattle.fs_path.specs.Leases.{goes_over}
use Rattle.fs_path.specs.Returns.{recalls}
use Rattle.fs_record.specs.declared.led_end.LedEnd.{LedEnd}
use Rattle.fs_record.specs.declared.led_end.LedEnd.TheVariants as led
use Rattle.fs_record.specs.declared.led_end.Why.TheVariants as why
use Rattle.fs_txn.specs.Deciding.{decision, told_effects}
use Rattle.fs_txn.specs.Leading.{elsewhere}
use Rattle.fs_txn.specs.Votes.{is_full}
use Rattle.fs_txn.specs.declared.decision.Decision.{Decision}
use Rattle.fs_txn.specs.declared.leading.Leading.{Leading}
use Rattle.fs_server.specs.Begins.{Round, asked_part, first_round, leader_with, own_part, part_round, parts_in, round_of, rounds, txn_of}
use Rattle.fs_server.specs.Concludes.{concludes, end_of_decision, ends_now, goes_on, path_for, tells, waits}
use Rattle.fs_server.specs.Counts.{ask_for}
use Rattle.fs_server.specs.Follows.{path_recalls, recalls_for, recalls_over, to_server, vote_here}
use Rattle.fs_server.specs.Laws.{IsAskedFirst}
use Rattle.fs_server.specs.Leads.{lead_step}
use Rattle.fs_server.specs.Server.{Stepped, is_mine, to_session}
use Rattle.fs_server.specs.declared.state.Server.{Server}
use Rattle.fs_server.proofs.Leading.{LeadEnds, begun, kept, lead_ends, put_off, unled, wanted}
use Rattle.fs_server.proofs.PathLaws.{told_same, up_first}

-- ## Messages that ask for none

abbrev asks : PeerMsg → Bool
asks (peer.PathAsk file dir) = true
asks m = false

module _ (a : ℕ) (f up : List ℕ) where
  abbrev Asked : Peer × Msg
  Asked = to_server a (peer.PathAsk f up)

  other_word : (to : ℕ) (m : PeerMsg) → asks m ≡ false → Asked ≡ to_server to m → ⊥
  other_word to m h e =
      let wrong : true ≡ false = ap asks (told_same a to (peer.PathAsk f up) m e) ∙ h in
      absurd (cc)

  to_client : (by : Session) (m : Answer) → Asked ≡ to_session by m → ⊥
  to_client by m e =
      let wrong : OfServer a ≡ Client by = ap (λ (p : Peer × Msg). p.0) e in
      absurd (cc wrong)

  told_client : (by : Session) (m : Answer) → In Asked (to_session by m ∷ []) → ⊥
  told_client by m (inl e) = to_client by m e
  told_client by m (inr i) = i

  -- leases that are asked back
  recalled : (leases : List (ℕ × PathNo)) → In Asked (path_recalls leases) → ⊥
  recalled leases i =
      let q = In-map (λ (x : ℕ × PathNo). to_server x.0 (peer.PathRecall x.1)) Asked leases i in
      other_word q.0.0 (peer.PathRecall q.0.1) refl q.1.1

  recalled_over : (s : Server) (o : Option (List ℕ)) → In Asked (recalls_over s o) → ⊥
  recalled_over s None i = i
  recalled_over s (Some file) i = recalled (recalls (goes_over file) s.paths.issued) i

  recalled_for : (v : Vote) (s : Server) (p : Part) → In Asked (recalls_for v s p) → ⊥
  recalled_for Yes s p i = i
  recalled_for (Ended lease until now) s p i = i
  recalled_for (Moved prefix to) s p i = i
  recalled_for (PathsOut lease) s p i = recalled_over s p.freeze i

  -- ## A transaction that begins

  part_asks : (txn : TxnNo) (number : ℕ) (by : Session) (p : Part) (r : Round) → (In Asked r.send → ⊥)
      → In Asked (part_round txn number by p r).send → ⊥
  part_asks txn number by p r none = at (is_mine r.server p.file)
    where
      at : (b : Bool) → In Asked (cond b (own_part txn p (vote_here r.server by p) r)
          (asked_part txn number by p (server_of r.server.map p.file) r)).send → ⊥
      at true i = In-both Asked r.send (recalls_for (vote_here r.server by p) r.server p) ⊥ none
          (recalled_for (vote_here r.server by p) r.server p) i
      at false i = In-more Asked r.send (to_server (server_of r.server.map p.file) (ask_for txn number by p)) ⊥ none
          (other_word (server_of r.server.map p.file) (ask_for txn number by p) refl) i

  rounds_ask : (txn : TxnNo) (number : ℕ) (by : Session) (ps : List Part) (r : Round) → (In Asked r.send → ⊥)
      → In Asked (rounds txn number by ps r).send → ⊥
  rounds_ask txn number by [] r none i = none i
  rounds_ask txn number by (p ∷ ps) r none i =
      rounds_ask txn (number + 1) by ps (part_round txn number by p r) (part_asks txn number by p r none) i

  -- ## It goes on

  told_parts : (txn : TxnNo) (d : Decision) (out : List (ℕ × ℕ)) → In Asked (tells txn d out) → ⊥
  told_parts txn d out i =
      let q = In-map (λ (x : ℕ × ℕ). to_server x.1 (peer.Decide (record { txn = txn; number = x.0; effects = told_effects d x.0 })))
      Asked out i in
      other_word q.0.1 (peer.Decide (record { txn = txn; number = q.0.0; effects = told_effects d q.0.0 })) refl q.1.1

  told_now : (out : List (ℕ × ℕ)) (by : Session) (e : LedEnd) → In Asked (ends_now out by e) → ⊥
  told_now [] by e i = told_client by (answer.Led e) i
  told_now (x ∷ xs) by e i = i

  goes_asks : (n : ServerNote) (l : Leading) (path : Option PathAnswer) (sent : List (Peer × Msg)) (s : Server) → (In Asked sent → ⊥)
      → In Asked (goes_on n l path sent s).out.send → ⊥
  goes_asks n l path sent s none = at (is_full l.leader.votes)
    where
      at : (b : Bool) → In Asked (cond b (concludes l path sent s) (waits n l sent s)).out.send → ⊥
      at true i = In-both Asked sent (tells l.leader.txn (decision l.leader path) (elsewhere s.me l)
          ++ ends_now (elsewhere s.me l) l.leader.session (end_of_decision (decision l.leader path))) ⊥ none
          (In-both Asked (tells l.leader.txn (decision l.leader path) (elsewhere s.me l))
          (ends_now (elsewhere s.me l) l.leader.session (end_of_decision (decision l.leader path))) ⊥
          (told_parts l.leader.txn (decision l.leader path) (elsewhere s.me l))
          (told_now (elsewhere s.me l) l.leader.session (end_of_decision (decision l.leader path)))) i
      at false i = none i

  -- ## A path that is wanted

  pub leader_asks_first : (by : Session) (m : Lead) (s : Server) → In Asked (lead_step by m s).out.send
      → IsAskedFirst f s (lead_step by m s).server
  leader_asks_first by m s = at (lead_step by m s) (lead_ends by m s)
    where
      at : (x : Stepped) → LeadEnds by m s x → In Asked x.out.send → IsAskedFirst f s x.server
      at x (unled l) i = absurd i
      at x (put_off w l r) i = absurd (told_client by (answer.Led (led.Again w)) i)
      at x (kept file txn l o) i = absurd (told_client by (answer.Led (led.Again (why.Frozen file txn))) i)
      at x (wanted top dir l o) (inl e) = absurd (to_client by (answer.Led (led.Again (why.Wanted top))) e)
      at x (wanted top dir l o) (inr i) = up_first a top dir f up s i
      at x (begun mode l b) i =
          let r : Round = round_of mode by m s in
          absurd (goes_asks (note.Prepares (txn_of s)) (record { leader = leader_with mode (txn_of s) by m r.votes; at = r.at })
          (path_for mode m.op s) r.send r.server (rounds_ask (txn_of s) 0 by (parts_in mode m) (first_round s) (λ i. i)) i)
