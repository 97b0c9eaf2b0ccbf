-- Each word of a transaction that comes is awaited.
use Rattle.std.proofs.Common.{◌≡◌, ◌==◌, ◌||◌, ℕ, ◌<◌, ◌≤◌, Bool, true, false, List, [], ◌∷◌, length, refl, sym, ap, ◌∙◌, subst, cond, inl, inr, arith}
use Rattle.std.specs.Prelude.{◌≢◌, Option, Some, None, is_some, option_map, slice_get}
use Rattle.std.specs.List.{find, list_any}
use Rattle.std.proofs.lemmas.Bool.{lt-ltb}
use Rattle.std.proofs.lemmas.Option.{slice_get_cases, slice_get_within}
use Rattle.fs_ident.specs.In.{In}
use Rattle.fs_ident.proofs.Booleans.{joined}
use Rattle.fs_ident.proofs.Passing.{found}
use Rattle.fs_ident.proofs.Same.{itself}
use Rattle.fs_ident.proofs.Standing.{In-got}
use Rattle.fs_ident.specs.declared.actor.Peer.{Peer}
use Rattle.fs_field.specs.declared.path.PathAnswer.{PathAnswer}
use Rattle.fs_field.specs.declared.used.Part.{Part}
use Rattle.fs_field.specs.declared.vote.Vote.{Vote}
use Rattle.fs_field.specs.declared.vote.Vote.TheVariants.{Yes, Ended, Moved, PathsOut}
use Rattle.fs_map.specs.Map.{server_of}
use Rattle.fs_msg.specs.declared.decide.Decide.{Decide as DecideMsg}
use Rattle.fs_msg.specs.declared.done.Done.{Done as DoneMsg}
use Rattle.fs_msg.specs.declared.msg.Msg.{Msg}
use Rattle.fs_msg.specs.declared.peer_msg.PeerMsg.{PeerMsg}
use Rattle.fs_msg.specs.declared.peer_msg.PeerMsg.TheVariants as peer
use Rattle.fs_msg.specs.declared.prepare.Prepare.{Prepare as PrepareMsg}
use Rattle.fs_msg.specs.declared.server_note.ServerNote.TheVariants as note
use Rattle.fs_msg.specs.declared.server_note.ServerNote.{ServerNote}
use Rattle.fs_msg.specs.declared.voted.Voted.{Voted as VotedMsg}
use Rattle.fs_record.specs.declared.led_end.LedEnd.{LedEnd}
use Rattle.fs_record.specs.declared.led_end.LedEnd.TheVariants as led
use Rattle.fs_server.specs.Concludes.{concludes, end_note, goes_on, path_for, waits}
use Rattle.fs_server.specs.Counts.{after_own_vote, asked_at, comes_home, counts, counts_own, done_of, done_step, done_with, seeks, sent_on, vote_of, vote_step, voted, with_vote}
use Rattle.fs_server.specs.Follows.{applies, decide_step, prepare_step, recalls_for, vote_here, votes}
use Rattle.fs_server.specs.Moves.{peer_step}
use Rattle.fs_server.specs.Server.{Stepped, is_mine, strange}
use Rattle.fs_server.specs.declared.state.Server.{Server}
use Rattle.fs_txn.specs.Leading.{awaited_stage, awaits_done, ending_of, leading_of, stage_by, stage_in, without_done}
use Rattle.fs_txn.specs.Ready.{is_part, is_prepared}
use Rattle.fs_txn.specs.Stages.{Desks, IsAlone, IsNowhere, Key, Stage, Told, Wanted, Word, is_between}
use Rattle.fs_txn.specs.Stages.Stage.{Asked, Awaited}
use Rattle.fs_txn.specs.Stages.Word.{Prepare, Voted, Decide, Done}
use Rattle.fs_txn.specs.Votes.{awaits, is_empty_place, is_full}
use Rattle.fs_txn.specs.declared.leading.Ending.{Ending}
use Rattle.fs_txn.specs.declared.leading.Leading.{Leading}
use Rattle.fs_serial.specs.Cluster.{Cluster, InFlight}
use Rattle.fs_serial.specs.Leading.{LedHolds}
use Rattle.fs_serial.specs.Words.{Comes, desks_of, ended_in, key_of, led_in, prepared_in, ready_at, told_in, told_with, wanted_of, word_in}
use Rattle.fs_serial.proofs.Replies.Knowing.{In-filter_map}
use Rattle.fs_serial.proofs.Transactions.Desks.{IsDecidingWord, IsDoneWord, IsPreparingWord, IsVotedWord, deciding_word, done_word, heard, preparing_word, stage_was, voted_word}

-- ## Lists

pub there : {X : Type 0} (xs : List X) (i : ℕ) → i < length xs → (x : X) × (slice_get xs i ≡ Some x)
there {X = X} xs i h = elim (slice_get_cases xs i).1 as (λ _. (x : X) × (slice_get xs i ≡ Some x)) [
  | inl q ↦ (q.0, q.2)
  | inr q ↦ let past : length xs ≤ i = q.0 in absurd (omega arith)
]

any_mapped : {X Y : Type 0} (f : X → Y) (test : X → Bool) (xs : List X) → list_any test xs ≡ is_some (option_map f (find test xs))
any_mapped f test [] = refl
any_mapped f test (x ∷ xs) =
    elim (test x) as
    (λ b. (b || list_any test xs) ≡ is_some (option_map f (cond b (Some x) (find test xs)))) [ true ↦ refl | false ↦ any_mapped f test xs ]

-- ## A part of which something is awaited, at its leader

-- its vote is
pub record IsAskedBy (number : ℕ) (found : Option Leading) (at : ℕ) : Type 0 where
  pub leading : Leading
  pub is : found ≡ Some leading
  pub place : slice_get leading.at number ≡ Some at
  pub empty : slice_get leading.leader.votes number ≡ Some None

-- that it is done is
pub record IsAwaitedBy (number : ℕ) (found : Option Ending) (at : ℕ) : Type 0 where
  pub ending : Ending
  pub is : found ≡ Some ending
  pub stage : awaited_stage number ending.awaits ≡ Awaited at

never_asked : (number at : ℕ) (xs : List (ℕ × ℕ)) → awaited_stage number xs ≡ Asked at → ⊥
never_asked number at [] e = absurd (cc)
never_asked number at (x ∷ xs) e =
    elim (x.0 == number) as
    (λ b. cond b (Awaited x.1) (awaited_stage number xs) ≡ Asked at → ⊥) [
      | true ↦ λ q. absurd (cc)
      | false ↦
          λ q. never_asked number at xs q
    ] e

pub asked_by : (number at : ℕ) (l : Option Leading) (x : Option Ending) → stage_in number l x ≡ Asked at → IsAskedBy number l at
asked_by number at None None e = absurd (cc)
asked_by number at None (Some x) e = absurd (never_asked number at x.awaits e)
asked_by number at (Some l) x e = of (slice_get l.at number) (slice_get l.leader.votes number) refl refl e
  where
    of : (o : Option ℕ) (v : Option (Option Vote)) → slice_get l.at number ≡ o → slice_get l.leader.votes number ≡ v
        → stage_by o v ≡ Asked at → IsAskedBy number (Some l) at
    of None None p q h = absurd (cc)
    of None (Some v) p q h = absurd (cc)
    of (Some j) None p q h = absurd (cc)
    of (Some j) (Some (Some v)) p q h = absurd (cc)
    of (Some j) (Some None) p q h = let same : j ≡ at = cc in record { leading = l; is = refl; place = p ∙ ap Some same; empty = q }

pub awaited_by : (number at : ℕ) (l : Option Leading) (x : Option Ending) → stage_in number l x ≡ Awaited at → IsAwaitedBy number x at
awaited_by number at None None e = absurd (cc)
awaited_by number at None (Some x) e = record { ending = x; is = refl; stage = e }
awaited_by number at (Some l) x e = of (slice_get l.at number) (slice_get l.leader.votes number) e
  where
    of : (o : Option ℕ) (v : Option (Option Vote)) → stage_by o v ≡ Awaited at → IsAwaitedBy number x at
    of None None h = absurd (cc)
    of None (Some v) h = absurd (cc)
    of (Some j) None h = absurd (cc)
    of (Some j) (Some None) h = absurd (cc)
    of (Some j) (Some (Some v)) h = absurd (cc)

pub is_awaited : (number at : ℕ) (xs : List (ℕ × ℕ)) → awaited_stage number xs ≡ Awaited at → awaits_done number xs ≡ true
is_awaited number at [] e = absurd (cc)
is_awaited number at (x ∷ xs) e =
    elim (x.0 == number) as
    (λ b. cond b (Awaited x.1) (awaited_stage number xs) ≡ Awaited at → (b || awaits_done number xs) ≡ true) [
      | true ↦ λ q. refl
      | false ↦
          λ q. is_awaited number at xs q
    ] e

-- where a decision is on its way to a part, its leader awaits that the part is done
pub decide_awaits : (c : Cluster) → LedHolds c → (f : InFlight) → In f c.in_flight → (m : DecideMsg) → f.message ≡ peer.Decide m
    → IsAwaitedBy m.number (ended_in c.servers m.txn) f.to
decide_awaits c held f i m e =
    let key : Key = key_of m.txn m.number in
    let word : Told = told_with f.from f.to (key, Decide m.effects) in
    let told : told_in f ≡ Some word =
    ap (λ x. told_in (let g : InFlight = record { from = f.from; to = f.to; message = x } in g)) e in
    let q : IsDecidingWord (desks_of held.parts c) key word =
    deciding_word (desks_of held.parts c) key word refl held.stages (In-filter_map told_in f word c.in_flight i told) m.effects refl in
    let to : f.to ≡ q.at = ap (λ (x : Told). x.to) q.is in
    awaited_by m.number f.to (led_in c.servers m.txn) (ended_in c.servers m.txn) (q.stage ∙ ap Awaited (sym to))

-- ## A word that comes to a server

-- it is asked for a part
pub record IsPrepareHere (d : Desks) (from k : ℕ) (key : Key) (asked : Wanted) : Type 0 where
  pub leader : from ≡ key.txn.server
  pub stage : d.stages key ≡ Asked k
  pub elsewhere : (k == key.txn.server) ≡ false
  pub wanted : d.parts key ≡ asked
  pub nowhere : IsNowhere (λ j. d.prepared j key)

-- it is told a vote
pub record IsVoteHere (d : Desks) (from k : ℕ) (key : Key) : Type 0 where
  pub leader : k ≡ key.txn.server
  pub stage : d.stages key ≡ Asked from
  pub elsewhere : (from == key.txn.server) ≡ false

-- it is told a decision
pub record IsDecideHere (d : Desks) (from k : ℕ) (key : Key) : Type 0 where
  pub leader : from ≡ key.txn.server
  pub stage : d.stages key ≡ Awaited k
  pub elsewhere : (k == key.txn.server) ≡ false
  pub ready : IsAlone (λ j. d.prepared j key) k (d.parts key)

-- it is told that this is done
pub record IsDoneHere (d : Desks) (from k : ℕ) (key : Key) : Type 0 where
  pub leader : k ≡ key.txn.server
  pub stage : d.stages key ≡ Awaited from
  pub elsewhere : (from == key.txn.server) ≡ false
  pub nowhere : IsNowhere (λ j. d.prepared j key)

-- the vote is one of a transaction of the server, which awaits it
pub record IsAwaited (s : Server) (m : VotedMsg) : Type 0 where
  pub leading : Leading
  pub led : leading_of m.txn s.leading ≡ Some leading
  pub among : In leading s.leading
  pub awaited : awaits leading.leader m.number ≡ true
  pub wanted : Part
  pub part : slice_get leading.leader.parts m.number ≡ Some wanted

-- the step is not one on a message that an honest server never sends
abbrev pub IsKnown : Stepped → Type 0
IsKnown x = x.out.note ≢ note.Strange

concluded_known : (l : Leading) (path : Option PathAnswer) (sent : List _) (s : Server) → IsKnown (concludes l path sent s)
concluded_known l path sent s = of _
  where
    of : (e : LedEnd) → end_note l.leader.txn e ≢ note.Strange
    of (led.Done r) e = absurd (cc)
    of (led.Ended n u w) e = absurd (cc)
    of (led.Again w) e = absurd (cc)

pub goes_on_known : (n : ServerNote) (l : Leading) (path : Option PathAnswer) (sent : List (Peer × Msg)) (s : Server) → n ≢ note.Strange
    → IsKnown (goes_on n l path sent s)
goes_on_known n l path sent s known =
    elim (is_full l.leader.votes) as (λ b. IsKnown (cond b (concludes l path sent s) (waits n l sent s))) [
      | true ↦ concluded_known l path sent s
      | false ↦ known
    ]

counted_known : (number : ℕ) (v : Vote) (l : Leading) (s : Server) → IsKnown (counts number v l s)
counted_known number v l s =
    goes_on_known (note.Waits l.leader.txn) (with_vote number v l) (path_for l.leader.mode l.leader.op s) [] s (λ e. absurd (cc))

own_known : (number : ℕ) (p : Part) (v : Vote) (l : Leading) (s : Server) → IsKnown (counts_own number p v l s)
own_known number p v l s =
    goes_on_known (note.Waits l.leader.txn) (with_vote number v (asked_at number s.me l)) (path_for l.leader.mode l.leader.op s)
    (recalls_for v s p) (after_own_vote l.leader.txn p v s) (λ e. absurd (cc))

home_known : (number : ℕ) (p : Part) (l : Leading) (s : Server) → IsKnown (comes_home number p l s)
home_known number p l s =
    elim (is_mine s p.file) as
    (λ b. IsKnown (cond b (counts_own number p (vote_here s l.leader.session p) l s) (seeks number (server_of s.map p.file) p l s))) [
      | true ↦ own_known number p (vote_here s l.leader.session p) l s
      | false ↦ λ e. absurd (cc)
    ]

sent_known : (number to : ℕ) (p : Part) (l : Leading) (s : Server) → IsKnown (sent_on number to (Some p) l s)
sent_known number to p l s =
    elim (to == s.me) as
    (λ b. IsKnown (cond b (comes_home number p l s) (seeks number to p l s))) [ true ↦ home_known number p l s | false ↦ λ e. absurd (cc) ]

voted_known : (number : ℕ) (v : Vote) (p : Part) (l : Leading) (s : Server) → slice_get l.leader.parts number ≡ Some p
    → IsKnown (voted number v l s)
voted_known number Yes p l s e = counted_known number Yes l s
voted_known number (Ended n u w) p l s e = counted_known number (Ended n u w) l s
voted_known number (PathsOut n) p l s e = counted_known number (PathsOut n) l s
voted_known number (Moved prefix to) p l s e = subst (λ o. IsKnown (sent_on number to o l s)) (sym e) (sent_known number to p l s)

done_known : (x : Ending) (left : List (ℕ × ℕ)) (s : Server) → IsKnown (done_with x left s)
done_known x [] s = λ e. absurd (cc)
done_known x (y ∷ ys) s = λ e. absurd (cc)

module _ (k from : ℕ) (c : Cluster) (s : Server) (at : slice_get c.servers k ≡ Some s) (held : LedHolds c) where
  abbrev d : Desks
  d = desks_of held.parts c

  word_there : (m : PeerMsg) (w : Key × Word) → word_in m ≡ Some w → Comes k from c m → In (told_with from k w) d.telling
  word_there m w e comes = (found (is_between from k) d.telling (told_with from k w) (heard from k m w c.in_flight e comes).first).0

  -- ## Where its part stands

  pub prepare_here : (m : PrepareMsg) → Comes k from c (peer.Prepare m)
      → IsPrepareHere d from k (key_of m.txn m.number) (record { session = m.session; part = m.part })
  prepare_here m comes =
      let key : Key = key_of m.txn m.number in
      let asked : Wanted = record { session = m.session; part = m.part } in
      let told : Told = told_with from k (key, Prepare asked) in
      let q : IsPreparingWord d key told =
      preparing_word d key told refl held.stages (word_there (peer.Prepare m) (key, Prepare asked) refl comes) asked refl in
      let to : k ≡ q.at = ap (λ (x : Told). x.to) q.is in
      let word : Prepare asked ≡ Prepare (d.parts key) = ap (λ (x : Told). x.word) q.is in
      let same : d.parts key ≡ asked = cc in
      record {
        leader = ap (λ (x : Told). x.from) q.is;
        stage = q.stage ∙ ap Asked (sym to);
        elsewhere =
            ap (λ z. z == key.txn.server) to ∙ q.elsewhere;
        wanted = same;
        nowhere = q.nowhere;
      }

  pub vote_here_is : (m : VotedMsg) → Comes k from c (peer.Vote m) → IsVoteHere d from k (key_of m.txn m.number)
  vote_here_is m comes =
      let key : Key = key_of m.txn m.number in
      let told : Told = told_with from k (key, Voted m.vote) in
      let q : IsVotedWord d key told m.vote =
      voted_word d key told refl held.stages (word_there (peer.Vote m) (key, Voted m.vote) refl comes) m.vote refl in
      let by : from ≡ q.at = ap (λ (x : Told). x.from) q.is in
      record {
        leader = ap (λ (x : Told). x.to) q.is;
        stage = q.stage ∙ ap Asked (sym by);
        elsewhere =
            ap (λ z. z == key.txn.server) by ∙ q.elsewhere;
      }

  pub decide_here : (m : DecideMsg) → Comes k from c (peer.Decide m) → IsDecideHere d from k (key_of m.txn m.number)
  decide_here m comes =
      let key : Key = key_of m.txn m.number in
      let told : Told = told_with from k (key, Decide m.effects) in
      let q : IsDecidingWord d key told =
      deciding_word d key told refl held.stages (word_there (peer.Decide m) (key, Decide m.effects) refl comes) m.effects refl in
      let to : k ≡ q.at = ap (λ (x : Told). x.to) q.is in
      record {
        leader = ap (λ (x : Told). x.from) q.is;
        stage = q.stage ∙ ap Awaited (sym to);
        elsewhere = ap (λ z. z == key.txn.server) to ∙ q.elsewhere;
        ready = subst (λ z. IsAlone (λ j. d.prepared j key) z (d.parts key)) (sym to) q.ready;
      }

  pub done_here : (m : DoneMsg) → Comes k from c (peer.Done m) → IsDoneHere d from k (key_of m.txn m.number)
  done_here m comes =
      let key : Key = key_of m.txn m.number in
      let told : Told = told_with from k (key, Done) in
      let q : IsDoneWord d key told = done_word d key told refl held.stages (word_there (peer.Done m) (key, Done) refl comes) refl in
      let by : from ≡ q.at = ap (λ (x : Told). x.from) q.is in
      record {
        leader = ap (λ (x : Told). x.to) q.is;
        stage = q.stage ∙ ap Awaited (sym by);
        elsewhere =
            ap (λ z. z == key.txn.server) by ∙ q.elsewhere;
        nowhere = q.nowhere;
      }

  -- ## It is awaited

  -- whether the part waits here
  pub is_ready : (key : Key) → is_prepared key.txn key.part s.prepared ≡ is_some (prepared_in c.servers k key)
  is_ready key =
      any_mapped wanted_of (is_part key.txn key.part) s.prepared
      ∙ sym (ap (λ o. is_some (option_map wanted_of (find (is_part key.txn key.part) (ready_at o)))) at)

  pub prepare_awaited : (m : PrepareMsg) → Comes k from c (peer.Prepare m)
      → prepare_step from m s ≡ votes (vote_here s m.session m.part) from m s
  prepare_awaited m comes =
      let key : Key = key_of m.txn m.number in
      ap (λ b. cond b (strange s) (votes (vote_here s m.session m.part) from m s))
      (is_ready key ∙ ap is_some ((prepare_here m comes).nowhere k))

  pub decide_awaited : (m : DecideMsg) → Comes k from c (peer.Decide m) → decide_step from m s ≡ applies from m s
  decide_awaited m comes =
      let key : Key = key_of m.txn m.number in
      ap (λ b. cond b (applies from m s) (strange s)) (is_ready key ∙ ap is_some (decide_here m comes).ready.here)

  -- the stage of a part of its own transactions
  own_stage : (key : Key) (x : Stage) → k ≡ key.txn.server → d.stages key ≡ x
      → stage_in key.part (leading_of key.txn s.leading) (ending_of key.txn s.ending) ≡ x
  own_stage key x mine e = sym (stage_was c.servers k s s at key (ap (λ z. z == k) (sym mine) ∙ itself k)) ∙ e

  pub vote_asked : (m : VotedMsg) → Comes k from c (peer.Vote m) → IsAskedBy m.number (leading_of m.txn s.leading) from
  vote_asked m comes =
      let q = vote_here_is m comes in
      asked_by m.number from (leading_of m.txn s.leading) (ending_of m.txn s.ending)
      (own_stage (key_of m.txn m.number) (Asked from) q.leader q.stage)

  pub vote_awaited : (m : VotedMsg) → Comes k from c (peer.Vote m) → IsAwaited s m
  vote_awaited m comes =
      let q = vote_asked m comes in
      let l : Leading = q.leading in
      let i : In l s.leading = (found _ s.leading l q.is).0 in
      let within : m.number < length l.leader.parts =
      subst (λ n. m.number < n) ((held.leading s (In-got c.servers k s at) l i).votes)
      (slice_get_within l.leader.votes m.number None q.empty) in
      let p = there l.leader.parts m.number within in
      record {
        leading = l;
        led = q.is;
        among = i;
        awaited =
            joined _ _ (lt-ltb m.number (length l.leader.parts) within) (ap is_empty_place q.empty);
        wanted = p.0;
        part = p.1;
      }

  pub vote_is : (m : VotedMsg) (q : IsAwaited s m) → vote_step m s ≡ voted m.number m.vote q.leading s
  vote_is m q = ap (λ o. vote_of o m s) q.led ∙ ap (λ b. cond b (voted m.number m.vote q.leading s) (strange s)) q.awaited

  pub done_awaited : (m : DoneMsg) → Comes k from c (peer.Done m) → IsAwaitedBy m.number (ending_of m.txn s.ending) from
  done_awaited m comes =
      let q = done_here m comes in
      awaited_by m.number from (leading_of m.txn s.leading) (ending_of m.txn s.ending)
      (own_stage (key_of m.txn m.number) (Awaited from) q.leader q.stage)

  pub done_is : (m : DoneMsg) (q : IsAwaitedBy m.number (ending_of m.txn s.ending) from)
      → done_step m s ≡ done_with (without_done m.number q.ending) (without_done m.number q.ending).awaits s
  done_is m q =
      ap (λ o. done_of o m s) q.is
      ∙ ap (λ b. cond b (done_with (without_done m.number q.ending) (without_done m.number q.ending).awaits s) (strange s))
      (is_awaited m.number from q.ending.awaits q.stage)

  pub words_known : (m : PeerMsg) → Comes k from c m → (word_in m ≡ None → ⊥) → IsKnown (peer_step from m s)
  words_known (peer.Prepare m) comes word = subst IsKnown (sym (prepare_awaited m comes)) (λ e. absurd (cc))
  words_known (peer.Vote m) comes word = let q = vote_awaited m comes in
      subst IsKnown (sym (vote_is m q)) (voted_known m.number m.vote q.wanted q.leading s q.part)
  words_known (peer.Decide m) comes word = subst IsKnown (sym (decide_awaited m comes)) (λ e. absurd (cc))
  words_known (peer.Done m) comes word = let q = done_awaited m comes in
      subst IsKnown (sym (done_is m q)) (done_known (without_done m.number q.ending) _ s)
  words_known m comes word = absurd (word refl)

pub words_awaited : (k from : ℕ) (c : Cluster) (s : Server) → slice_get c.servers k ≡ Some s → (m : PeerMsg) → Comes k from c m → LedHolds c
    → (word_in m ≡ None → ⊥) → (peer_step from m s).out.note ≢ note.Strange
words_awaited k from c s at m comes held word = words_known k from c s at held m comes word
