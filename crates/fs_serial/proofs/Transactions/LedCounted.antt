-- A leader is told a vote, and the transaction waits: all that holds of transactions stays.
use Rattle.std.proofs.Common.{◌≡◌, ◌==◌, ◌&&◌, ◌⊎◌, ℕ, Bool, true, false, List, [], ◌∷◌, ◌++◌, length, map, refl, sym, ap, ap₂, ◌∙◌, subst, cond, inl, inr, arith, append-nil}
use Rattle.std.specs.Prelude.{Option, Some, None, slice_get, slice_set}
use Rattle.std.specs.List.{find, flat_map}
use Rattle.std.proofs.lemmas.Bool.{eqb-true, eqb-false}
use Rattle.std.proofs.lemmas.List.{length-set}
use Rattle.fs_ident.specs.In.{In}
use Rattle.fs_ident.specs.declared.actor.Peer.{Peer}
use Rattle.fs_ident.specs.declared.actor.Session.{Session}
use Rattle.fs_ident.specs.declared.actor.TxnNo.{TxnNo}
use Rattle.fs_ident.proofs.Passing.{found}
use Rattle.fs_ident.proofs.Same.{itself}
use Rattle.fs_ident.proofs.Standing.{In-behind, In-both, In-got}
use Rattle.fs_field.specs.Table.{is_ordered, same_txn}
use Rattle.fs_field.specs.declared.effect.Effect.{Effect}
use Rattle.fs_field.specs.declared.row.Row.{Row}
use Rattle.fs_field.specs.declared.used.Part.{Part}
use Rattle.fs_field.specs.declared.vote.Vote.{Vote}
use Rattle.fs_field.specs.declared.vote.Vote.TheVariants.{Yes, Ended, Moved, PathsOut}
use Rattle.fs_msg.specs.declared.msg.Msg.{Msg}
use Rattle.fs_msg.specs.declared.peer_msg.PeerMsg.TheVariants as peer
use Rattle.fs_msg.specs.declared.server_note.ServerNote.{ServerNote}
use Rattle.fs_msg.specs.declared.server_note.ServerNote.TheVariants as note
use Rattle.fs_msg.specs.declared.voted.Voted.{Voted as VotedMsg}
use Rattle.fs_path.specs.Tables.{PathTables}
use Rattle.fs_server.specs.Concludes.{waits}
use Rattle.fs_server.specs.Counts.{after_own_vote, ask_for, asked_at, paths_voted, seeks, with_vote}
use Rattle.fs_server.specs.Follows.{recalls_for, to_server, vote_here}
use Rattle.fs_server.specs.Server.{Stepped, is_mine}
use Rattle.fs_server.specs.declared.state.Server.{Server}
use Rattle.fs_txn.specs.Leading.{ending_of, leading_of, said_by, stage_by, stage_in, with_leading}
use Rattle.fs_txn.specs.Locks.{Agreed, IsKept, IsOf, LocksHold}
use Rattle.fs_txn.specs.Preparing.{rows_voted}
use Rattle.fs_txn.specs.Ready.{agreed_of, is_part}
use Rattle.fs_txn.specs.Stages.{Desks, Key, Stage, StagesHold, Told, Wanted, is_between, same_key, stage_of, word_from, word_to}
use Rattle.fs_txn.specs.Stages.Stage.{Unknown, Asked, Counted}
use Rattle.fs_txn.specs.Stages.Word.{Prepare, Voted, Decide}
use Rattle.fs_txn.specs.Telling.{IsFirst, after_ask, after_voted, taken, with_key, without_first}
use Rattle.fs_txn.specs.Telling as desk
use Rattle.fs_txn.specs.Votes.{Votes, awaits, is_moved, votes_after}
use Rattle.fs_txn.specs.declared.leading.Ending.{Ending}
use Rattle.fs_txn.specs.declared.leading.Leading.{Leading}
use Rattle.fs_txn.specs.declared.ready.Ready.{Ready}
use Rattle.fs_txn.proofs.Keys.{key_is, key_itself, txn_is}
use Rattle.fs_txn.proofs.Locking.{stays}
use Rattle.fs_txn.proofs.Telling.{asks, owns, voteds}
use Rattle.fs_serial.specs.Cluster.{Cluster, InFlight, in_flight_from, with_sent}
use Rattle.fs_serial.specs.Cluster as cluster
use Rattle.fs_serial.specs.Leading.{IsEnded, IsLeading, IsPlain, LedHolds}
use Rattle.fs_serial.specs.Words.{Comes, desks_of, kept_at, key_of, prepared_in, said_at, stage_of_key, telling_of, then_of, told_with}
use Rattle.fs_serial.proofs.Lists.SetAt.{get_here, get_other}
use Rattle.fs_serial.proofs.Transactions.Desks.{FilesApart, IsHeard, IsVotedWord, each_after, ended_then, files_still, heard, leading_then, prepared_set, stage_at, stage_one, stage_was, stand_alike, taken_In, telling_append, told_then, voted_word}
use Rattle.fs_serial.proofs.Transactions.OwnVotes.{counts_here, stage_counted, voted_stay, yes_stands}
use Rattle.fs_serial.proofs.Transactions.Recalled.{recalls_answer_nothing, recalls_tell_nothing}
use Rattle.fs_serial.proofs.Transactions.Tables.{in_with_leading, leading_other, leading_set, locks_alike}
use Rattle.fs_serial.proofs.Transactions.YesLocks.{yes_locks}
use Rattle.fs_serial.proofs.Transactions.YesParts.{ChangesOne, IsSaidHere, again_said, said_in, said_new, still_said}

-- ## One place among the votes

-- of a part whose vote is awaited there is no vote yet
is_asked : (a : Option ℕ) (v : Option (Option Vote)) (at : ℕ) → stage_by a v ≡ Asked at → (a ≡ Some at) × (v ≡ Some None)
is_asked None v at h = absurd (cc h)
is_asked (Some x) None at h = absurd (cc h)
is_asked (Some x) (Some None) at h = let same : x ≡ at = cc in (ap Some same, refl)
is_asked (Some x) (Some (Some v)) at h = absurd (cc h)

votes_set : (votes : Votes) (number : ℕ) (v : Vote) → is_moved v ≡ false → votes_after votes number v ≡ slice_set votes number (Some v)
votes_set votes number Yes h = refl
votes_set votes number (Ended n u w) h = refl
votes_set votes number (PathsOut n) h = refl
votes_set votes number (Moved p t) h = absurd (cc h)

module _ (k from : ℕ) (c : Cluster) (s : Server) (at : slice_get c.servers k ≡ Some s) (held : LedHolds c) (me : s.me ≡ k) (m : VotedMsg)
    (l : Leading) (comes : Comes k from c (peer.Vote m)) (led : leading_of m.txn s.leading ≡ Some l) where
  -- ## The word

  abbrev key : Key
  key = key_of m.txn m.number

  abbrev word : Told
  word = word_from key from (Voted m.vote)

  abbrev desks : Desks
  desks = desks_of held.parts c

  among : In l s.leading
  among = (found (λ (x : Leading). same_txn x.leader.txn m.txn) s.leading l led).0

  its : l.leader.txn ≡ m.txn
  its = txn_is l.leader.txn m.txn (found (λ (x : Leading). same_txn x.leader.txn m.txn) s.leading l led).1

  here : In s c.servers
  here = In-got c.servers k s at

  leads : IsLeading c.lines s held.parts l
  leads = held.leading s here l among

  own : m.txn.server ≡ k
  own = ap (λ (t : TxnNo). t.server) (sym its) ∙ leads.own ∙ me

  mine : (m.txn.server == k) ≡ true
  mine = ap (λ n. n == k) own ∙ itself k

  is_heard : IsHeard from k c.in_flight (told_with from k (key, Voted m.vote))
  is_heard = heard from k (peer.Vote m) (key, Voted m.vote) c.in_flight refl comes

  is_first : IsFirst word (telling_of c.in_flight)
  is_first =
      subst (λ j. find (is_between from j) (telling_of c.in_flight) ≡ Some
      (let w : Told = record { from = from; to = j; key = key; word = Voted m.vote } in w)) (sym own) is_heard.first

  left : telling_of (cluster.without_first (cluster.is_between from k) c.in_flight) ≡ taken word (telling_of c.in_flight)
  left = is_heard.left ∙ ap (λ j. without_first (is_between from j) (telling_of c.in_flight)) (sym own)

  said : IsVotedWord desks key word m.vote
  said = voted_word desks key word refl held.stages
      (found (is_between from m.txn.server) (telling_of c.in_flight) word is_first).0 m.vote refl

  from_there : said.at ≡ from
  from_there = sym (ap (λ (w : Told). w.from) said.is)

  stage : stage_of_key c.servers key ≡ Asked from
  stage = said.stage ∙ ap Asked from_there

  pub apart : (from == k) ≡ false
  apart = ap₂ (λ (x y : ℕ). x == y) (sym from_there) (sym own) ∙ said.elsewhere

  -- ## Its place

  pub place : (slice_get l.at m.number ≡ Some from) × (slice_get l.leader.votes m.number ≡ Some None)
  place = is_asked (slice_get l.at m.number) (slice_get l.leader.votes m.number) from
      (sym (ap (λ o. stage_in m.number o (ending_of m.txn s.ending)) led) ∙ sym (stage_was c.servers k s s at key mine) ∙ stage)

  not_home : m.number ≡ 0 → ⊥
  not_home e =
      let same : Some from ≡ Some s.me = sym place.0 ∙ ap (slice_get l.at) e ∙ leads.home in
      let away : from ≡ s.me = cc in
      eqb-false from k apart (away ∙ me)

  -- what is told still was told
  pub still_told : (fs : List InFlight) (ws : List Told) → telling_of fs ≡ taken word (telling_of c.in_flight) ++ ws
      → ((w : Told) → In w ws → (es : List Effect) → w.word ≡ Decide es → ⊥)
      → (o : Key) (to : ℕ) (es : List Effect) → In (word_to o to (Decide es)) (telling_of fs)
      → In (word_to o to (Decide es)) (telling_of c.in_flight)
  still_told fs ws is none o to es i =
      In-both (word_to o to (Decide es)) (taken word (telling_of c.in_flight)) ws (In (word_to o to (Decide es)) (telling_of c.in_flight))
      (taken_In word (word_to o to (Decide es)) (telling_of c.in_flight))
      (λ j. absurd (none (word_to o to (Decide es)) j es refl))
      (subst (In (word_to o to (Decide es))) is i)

  -- ## The transaction waits

  module _ (votes : Votes) (places : List ℕ) (keeps : ChangesOne l m.number votes places) (rows : List Row) (paths : PathTables) where
    abbrev new : Leading
    new = record l { leader = record l.leader { votes = votes }; at = places }

    abbrev t : Server
    t = record s { leading = with_leading new s.leading; rows = rows; paths = paths }

    abbrev servers : List Server
    servers = slice_set c.servers k t

    plain_still : IsPlain leads.led l.leader → IsPlain leads.led new.leader
    plain_still (inl file) = inl file
    plain_still (inr (inl stays)) = inr (inl stays)
    plain_still (inr (inr off)) = inr (inr (λ e. off (sym (keeps.other_votes 0 not_home) ∙ e)))

    new_leads : IsLeading c.lines t held.parts new
    new_leads = record {
      own = leads.own;
      begun = leads.begun;
      one = leading_set new s.leading;
      only = leads.only;
      votes = keeps.all_votes ∙ leads.votes;
      asked = keeps.all_places ∙ leads.asked;
      home = keeps.other_places 0 not_home ∙ leads.home;
      wanted = leads.wanted;
      led = leads.led;
      client = leads.client;
      leader = let d = leads.leader in record { number = d.number; op = d.op; file = d.file; parts = d.parts; mode = d.mode };
      plain = λ free. plain_still (leads.plain free);
    }

    pub leading_after : (z : Server) → In z servers → (x : Leading) → In x z.leading → IsLeading c.lines z held.parts x
    leading_after z i = each_after (λ z. (x : Leading) → In x z.leading → IsLeading c.lines z held.parts x) c.servers k t held.leading
        (λ x j. elim (in_with_leading new s.leading x j) as (λ _. IsLeading c.lines t held.parts x) [
          | inl e ↦ subst (IsLeading c.lines t held.parts) (sym e) new_leads
          | inr q ↦ let was = held.leading s here x q.0 in
              leading_then c.lines s t held.parts refl (omega arith) x (leading_other new x.leader.txn s.leading q.1 ∙ was.one) was.only was
        ]) z i

    pub ending_after : (z : Server) → In z servers → (x : Ending) → In x z.ending → IsEnded c.lines z held.parts x
    ending_after z i = each_after (λ z. (x : Ending) → In x z.ending → IsEnded c.lines z held.parts x) c.servers k t held.ending
        (λ x j. let was = held.ending s here x j in ended_then c.lines s t held.parts refl (omega arith) x was.one
        (elim (same_txn x.txn new.leader.txn) as
        (λ b. same_txn x.txn new.leader.txn ≡ b → leading_of x.txn (with_leading new s.leading) ≡ None) [
          | true ↦ λ e.
              let same : x.txn ≡ m.txn = txn_is x.txn l.leader.txn e ∙ its in
              let wrong : None ≡ Some l = sym was.only ∙ ap (λ n. leading_of n s.leading) same ∙ led in
              absurd (cc wrong)
          | false ↦ λ e. leading_other new x.txn s.leading e ∙ was.only
        ] refl) was) z i

    pub ready_after : (z : Server) → In z servers → (x : Ready) → In x z.prepared → find (is_part x.txn x.number) z.prepared ≡ Some x
    ready_after z i =
        each_after (λ z. (x : Ready) → In x z.prepared → find (is_part x.txn x.number) z.prepared ≡ Some x) c.servers k t held.ready
        (held.ready s here) z i

    pub stages_after : (x : Stage) → stage_by (slice_get places m.number) (slice_get votes m.number) ≡ x → (y : Key)
        → stage_of_key servers y ≡ with_key key x (stage_of_key c.servers) y
    stages_after x is = stage_one c.servers k s t at key x mine (λ y o. by_txn y (same_txn y.txn m.txn) refl)
      where
        by_part : (y : Key) → y.txn ≡ m.txn → (b : Bool) → (y.part == m.number) ≡ b
            → stage_by (slice_get places y.part) (slice_get votes y.part) ≡ cond b x (stage_at c.servers k s t at s y)
        by_part y e true q = let p : y.part ≡ m.number = eqb-true y.part m.number q in
            ap (λ i. stage_by (slice_get places i) (slice_get votes i)) p ∙ is
        by_part y e false q =
            let off : m.number ≡ y.part → ⊥ = λ p. eqb-false y.part m.number q (sym p) in
            ap₂ stage_by (keeps.other_places y.part off) (keeps.other_votes y.part off)
            ∙ sym (ap (λ o. stage_in y.part o (ending_of y.txn s.ending)) (ap (λ n. leading_of n s.leading) e ∙ led))

        by_txn : (y : Key) → (b : Bool) → same_txn y.txn m.txn ≡ b
            → stage_at c.servers k s t at t y ≡ with_key key x (stage_at c.servers k s t at s) y
        by_txn y true e =
            let same : y.txn ≡ m.txn = txn_is y.txn m.txn e in
            let found_new : leading_of y.txn (with_leading new s.leading) ≡ Some new =
            ap (λ n. leading_of n (with_leading new s.leading)) (same ∙ sym its) ∙ leading_set new s.leading in
            ap (λ o. stage_in y.part o (ending_of y.txn s.ending)) found_new
            ∙ by_part y same (y.part == m.number) refl
            ∙ sym (ap (λ b. cond (b && (y.part == m.number)) x (stage_at c.servers k s t at s y)) e)
        by_txn y false e =
            ap (λ o. stage_in y.part o (ending_of y.txn s.ending)) (leading_other new y.txn s.leading (ap (same_txn y.txn) its ∙ e))
            ∙ sym (ap (λ b. cond (b && (y.part == m.number)) x (stage_at c.servers k s t at s y)) e)

    pub files_after : (x : Stage) → stage_by (slice_get places m.number) (slice_get votes m.number) ≡ x
        → FilesApart held.parts (stage_of_key servers)
    files_after x is =
        files_still held.parts (stage_of_key c.servers) (stage_of_key servers)
        (λ y known gone. elim (same_key y key) as (λ b. same_key y key ≡ b → ⊥) [
          | true ↦ λ e. let wrong : Unknown ≡ Asked from = sym gone ∙ ap (stage_of_key c.servers) (key_is y key e) ∙ stage in absurd (cc wrong)
          | false ↦ λ e. known (stages_after x is y ∙ ap (λ b. cond b x (stage_of_key c.servers y)) e ∙ gone)
        ] refl) held.files

    -- ## Who said Yes here

    only_it : (z : Leading) → In z s.leading → same_txn z.leader.txn l.leader.txn ≡ true → z ≡ l
    only_it z j e =
        let same : z.leader.txn ≡ m.txn = txn_is z.leader.txn l.leader.txn e ∙ its in
        let both : Some z ≡ Some l = sym (held.leading s here z j).one ∙ ap (λ n. leading_of n s.leading) same ∙ led in
        cc both

    said_still : (y : Agreed) → In y (said_at s) → In y (said_at t)
    said_still = still_said s.me (map agreed_of s.prepared) s.leading l m.number votes places keeps place.1 among only_it

    pub said_again : (y : Agreed) → In y (said_at t) → In y (said_at s) ⊎ ((m.number ≡ y.key.part) × IsSaidHere s.me new y)
    said_again = again_said s.me (map agreed_of s.prepared) s.leading l m.number votes places keeps place.1 among only_it

    -- ## Together

    module _ (n : ServerNote) (sent : List (Peer × Msg)) (ws : List Told) (sends : telling_of (in_flight_from k sent) ≡ ws) where
      abbrev after : Cluster
      after = then_of k from c (peer.Vote m) (waits n new sent (record s { rows = rows; paths = paths }))

      pub telling_after : telling_of after.in_flight ≡ taken word (telling_of c.in_flight) ++ ws
      telling_after =
          telling_append (cluster.without_first (cluster.is_between from k) c.in_flight) (in_flight_from k sent)
          ∙ ap₂ (λ xs ys. xs ++ ys) left sends

      -- the desks are those of a kind of step
      pub record AreStepped (x : Stage) (d : Desks) : Type 0 where
        pub parts : (y : Key) → held.parts y ≡ d.parts y
        pub stages : (y : Key) → with_key key x (stage_of_key c.servers) y ≡ d.stages y
        pub prepared : (j : ℕ) (y : Key) → prepared_in c.servers j y ≡ d.prepared j y
        pub telling : taken word (telling_of c.in_flight) ++ ws ≡ d.telling

      pub together : (x : Stage) → stage_by (slice_get places m.number) (slice_get votes m.number) ≡ x → (d : Desks) → AreStepped x d
          → StagesHold d → with_sent k sent c.lines ≡ c.lines → ((w : Told) → In w ws → (es : List Effect) → w.word ≡ Decide es → ⊥)
          → ((r : Row) → In r s.rows → (u : TxnNo) → r.lock ≡ Some u → In r rows) → LocksHold rows (said_at t) (kept_at t)
          → LedHolds after
      together x is d stepped stages lines none stay locks = record {
        parts = held.parts;
        stages = stand_alike d (desks_of held.parts after) (record {
          parts = stepped.parts;
          stages = λ y. stages_after x is y ∙ stepped.stages y;
          prepared = λ j y. prepared_set c.servers k s t at refl j y ∙ stepped.prepared j y;
          telling = telling_after ∙ stepped.telling;
        }) stages;
        leading = λ z i y j. subst (λ ls. IsLeading ls z held.parts y) (sym lines) (leading_after z i y j);
        ending = λ z i y j. subst (λ ls. IsEnded ls z held.parts y) (sym lines) (ending_after z i y j);
        ready = ready_after;
        locks = each_after (λ z. LocksHold z.rows (said_at z) (kept_at z)) c.servers k t held.locks locks;
        files = files_after x is;
        few = λ o to es i. held.few o to es (still_told after.in_flight ws telling_after none o to es i);
        told = λ o to es i e j. told_then c.servers k s t at o (held.parts o) e (λ q r l lock. stay r l o.txn lock)
            (held.told o to es (still_told after.in_flight ws telling_after none o to es i) e j);
      }

  -- the vote takes its place
  abbrev with_number : Vote → Votes
  with_number v = votes_after l.leader.votes m.number v

  pub set_there : (v : Vote) → is_moved v ≡ false → slice_get (with_number v) m.number ≡ Some (Some v)
  set_there v counts =
      ap (λ vs. slice_get vs m.number) (votes_set l.leader.votes m.number v counts) ∙ get_here l.leader.votes m.number None (Some v) place.1

  pub set_alone : (v : Vote) → is_moved v ≡ false → (places : List ℕ) → length places ≡ length l.at
      → ((i : ℕ) → (m.number ≡ i → ⊥) → slice_get places i ≡ slice_get l.at i) → ChangesOne l m.number (with_number v) places
  set_alone v counts places all others = record {
    all_votes = ap length (votes_set l.leader.votes m.number v counts) ∙ length-set l.leader.votes m.number (Some v);
    all_places = all;
    other_votes =
        λ i off. ap (λ vs. slice_get vs i) (votes_set l.leader.votes m.number v counts) ∙ get_other l.leader.votes m.number i (Some v) off;
    other_places = others;
  }

  abbrev heard_desks : Desks
  heard_desks = after_voted key from m.vote desks

  stages_voted : StagesHold heard_desks
  stages_voted = voteds desks key from m.vote held.stages is_first

  -- ## It is counted

  module _ (waited : awaits l.leader m.number ≡ true) (counts : is_moved m.vote ≡ false) (n : ServerNote) where
    counted_alone : ChangesOne l m.number (with_number m.vote) l.at
    counted_alone = set_alone m.vote counts l.at refl (λ i off. refl)

    counted_stage : stage_by (slice_get l.at m.number) (slice_get (with_number m.vote) m.number) ≡ stage_of from m.vote
    counted_stage = ap₂ stage_by place.0 (set_there m.vote counts) ∙ sym (stage_counted from m.vote counts)

    abbrev counted : Server
    counted = t (with_number m.vote) l.at counted_alone s.rows s.paths

    said_before_it : (y : Agreed) → In y (said_at counted) → In y (said_at s)
    said_before_it y i = elim (said_again (with_number m.vote) l.at counted_alone s.rows s.paths y i) as (λ _. In y (said_at s)) [
      | inl j ↦ j
      | inr q ↦
          let same : Some from ≡ Some s.me = sym place.0 ∙ ap (slice_get l.at) q.0 ∙ q.1.asked in
          let away : from ≡ s.me = cc in
          absurd (eqb-false from k apart (away ∙ me))
    ]

    pub led_counted : LedHolds (then_of k from c (peer.Vote m) (waits n (with_vote m.number m.vote l) [] s))
    led_counted =
        together (with_number m.vote) l.at counted_alone s.rows s.paths n [] [] refl (stage_of from m.vote) counted_stage heard_desks
        (record {
          parts = λ y. refl;
          stages = λ y. refl;
          prepared = λ j y. refl;
          telling =
              append-nil (taken word (telling_of c.in_flight));
        })
        stages_voted refl (λ w i. absurd i) (λ r i u e. i)
        (locks_alike s.rows (said_at s) (said_at counted) (kept_at s) (kept_at counted) said_before_it
        (said_still (with_number m.vote) l.at counted_alone s.rows s.paths) (λ z i. i) (held.locks s here))

  -- ## It is at another server, or here

  module _ (p : Part) (part : slice_get l.leader.parts m.number ≡ Some p) (prefix : List ℕ) (told to : ℕ)
      (moved : m.vote ≡ Moved prefix told) where
    abbrev asked : Wanted
    asked = record { session = l.leader.session; part = p }

    key_is_its : key_of l.leader.txn m.number ≡ key
    key_is_its = ap (λ n. key_of n m.number) its

    wanted_is : held.parts key ≡ asked
    wanted_is = ap held.parts (sym key_is_its) ∙ leads.wanted m.number p part

    -- nobody is asked any more
    unknown : heard_desks.stages key ≡ Unknown
    unknown = ap (λ b. cond b (stage_of from m.vote) (stage_of_key c.servers key)) (key_itself key) ∙ ap (stage_of from) moved

    parts_still : (y : Key) → held.parts y ≡ with_key key (held.parts key) held.parts y
    parts_still y = elim (same_key y key) as (λ b. same_key y key ≡ b → held.parts y ≡ cond b (held.parts key) (held.parts y)) [
      | true ↦ λ e. ap held.parts (key_is y key e)
      | false ↦ λ e. refl
    ] refl

    set_twice : (x : Stage) (y : Key) → with_key key x (stage_of_key c.servers) y ≡ with_key key x heard_desks.stages y
    set_twice x y =
        elim (same_key y key) as
        (λ b. cond b x (stage_of_key c.servers y) ≡ cond b x (cond b (stage_of from m.vote) (stage_of_key c.servers y))) [
          | true ↦ refl
          | false ↦ refl
        ]

    module _ (off : (to == s.me) ≡ false) where
      abbrev places : List ℕ
      places = slice_set l.at m.number to

      sought_alone : ChangesOne l m.number l.leader.votes places
      sought_alone = record {
        all_votes = refl;
        all_places = length-set l.at m.number to;
        other_votes = λ i n. refl;
        other_places = λ i n. get_other l.at m.number i to n;
      }

      sought_stage : stage_by (slice_get places m.number) (slice_get l.leader.votes m.number) ≡ Asked to
      sought_stage = ap₂ stage_by (get_here l.at m.number from to place.0) place.1

      abbrev ask : Told
      ask = told_with k to (key_of l.leader.txn m.number, Prepare asked)

      abbrev asking : List (Peer × Msg)
      asking = to_server to (ask_for l.leader.txn m.number l.leader.session p) ∷ []

      ask_is : ask ≡ word_to key to (Prepare (held.parts key))
      ask_is =
          ap₂ (λ (n : ℕ) (w : Wanted). told_with n to (key_of l.leader.txn m.number, Prepare w)) (sym own) (sym wanted_is)
          ∙ ap (λ (y : Key). told_with m.txn.server to (y, Prepare (held.parts key))) key_is_its

      elsewhere : (to == key.txn.server) ≡ false
      elsewhere = ap (λ x. to == x) (own ∙ sym me) ∙ off

      sought_said : (y : Agreed) → In y (said_at (t l.leader.votes places sought_alone s.rows s.paths)) → In y (said_at s)
      sought_said y i = elim (said_again l.leader.votes places sought_alone s.rows s.paths y i) as (λ _. In y (said_at s)) [
        | inl j ↦ j
        | inr q ↦ let wrong : Some None ≡ Some (Some Yes) = sym place.1 ∙ ap (slice_get l.leader.votes) q.0 ∙ q.1.vote in absurd (cc wrong)
      ]

      pub led_sought : LedHolds (then_of k from c (peer.Vote m) (seeks m.number to p l s))
      led_sought =
          together l.leader.votes places sought_alone s.rows s.paths (note.Seeks l.leader.txn to) asking (ask ∷ []) refl (Asked to) sought_stage
          (after_ask key to (held.parts key) heard_desks)
          (record {
            parts = parts_still;
            stages = set_twice (Asked to);
            prepared = λ j y. refl;
            telling = ap (λ w. taken word (telling_of c.in_flight) ++ w ∷ []) ask_is;
          })
          (asks heard_desks key to (held.parts key) stages_voted unknown elsewhere) refl
          (λ w i es e. elim i as (λ _. ⊥) [
            | inl q ↦ let wrong : Decide es ≡ Prepare asked = sym e ∙ ap (λ (x : Told). x.word) q in absurd (cc wrong)
            | inr z ↦ z
          ])
          (λ r i u e. i)
          (locks_alike s.rows (said_at s) (said_at (t l.leader.votes places sought_alone s.rows s.paths)) (kept_at s) (kept_at s) sought_said
          (said_still l.leader.votes places sought_alone s.rows s.paths) (λ z i. i) (held.locks s here))

    module _ (n : ServerNote) (ordered : is_ordered s.rows ≡ true) (is_here : is_mine s p.file ≡ true)
        (alone : (u : TxnNo) → IsOf (said_at s) u l.leader.session ⊎ IsKept (kept_at s) u l.leader.session → u ≡ l.leader.txn) where
      abbrev after_own : Vote → Stepped
      after_own v = waits n (with_vote m.number v (asked_at m.number s.me l)) (recalls_for v s p) (after_own_vote l.leader.txn p v s)

      abbrev home : List ℕ
      home = slice_set l.at m.number s.me

      abbrev home_rows : Vote → List Row
      home_rows v = rows_voted v l.leader.txn p.uses s.rows

      abbrev home_paths : Vote → PathTables
      home_paths v = paths_voted v l.leader.txn p.freeze s.paths

      home_alone : (v : Vote) → is_moved v ≡ false → ChangesOne l m.number (with_number v) home
      home_alone v counts = set_alone v counts home (length-set l.at m.number s.me) (λ i off. get_other l.at m.number i s.me off)

      home_stage : (v : Vote) → is_moved v ≡ false → stage_by (slice_get home m.number) (slice_get (with_number v) m.number)
          ≡ stage_of key.txn.server v
      home_stage v counts =
          ap₂ stage_by (get_here l.at m.number from s.me place.0) (set_there v counts) ∙ ap (λ x. Counted x v) (me ∙ sym own)
          ∙ sym (stage_counted key.txn.server v counts)

      abbrev voted_new : (v : Vote) → is_moved v ≡ false → Leading
      voted_new v counts = new (with_number v) home (home_alone v counts) (home_rows v) (home_paths v)

      abbrev voted : (v : Vote) → is_moved v ≡ false → Server
      voted v counts = t (with_number v) home (home_alone v counts) (home_rows v) (home_paths v)

      -- a vote that is not Yes
      locks_no : (v : Vote) (counts : is_moved v ≡ false) → (v ≡ Yes → ⊥) → LocksHold s.rows (said_at (voted v counts)) (kept_at s)
      locks_no v counts refuses = locks_alike s.rows (said_at s) (said_at (voted v counts)) (kept_at s) (kept_at s)
          (λ y i. elim (said_again (with_number v) home (home_alone v counts) (home_rows v) (home_paths v) y i) as (λ _. In y (said_at s)) [
            | inl j ↦ j
            | inr q ↦
                let same : Some (Some v) ≡ Some (Some Yes) = sym (set_there v counts) ∙ ap (slice_get (with_number v)) q.0 ∙ q.1.vote in
                let wrong : v ≡ Yes = cc in
                absurd (refuses wrong)
          ])
          (said_still (with_number v) home (home_alone v counts) (home_rows v) (home_paths v))
          (λ z i. i) (held.locks s here)

      abbrev agreed_as : TxnNo → ℕ → Session → Part → Agreed
      agreed_as u i who w = record { key = record { txn = u; part = i }; wanted = record { session = who; part = w } }

      abbrev its_part : Agreed
      its_part = agreed_as l.leader.txn m.number l.leader.session p

      is_its_part : (y : Agreed) → m.number ≡ y.key.part → IsSaidHere s.me (voted_new Yes refl) y → y ≡ its_part
      is_its_part y e q =
          let parts : Some p ≡ Some y.wanted.part = sym part ∙ ap (slice_get l.leader.parts) e ∙ q.part in
          let same : y.wanted.part ≡ p = cc in
          ap₂ (λ (u : TxnNo) (i : ℕ). agreed_as u i y.wanted.session y.wanted.part) q.txn (sym e)
          ∙ ap₂ (λ (by : Session) (w : Part). agreed_as l.leader.txn m.number by w) q.session same

      its_said : IsSaidHere s.me (voted_new Yes refl) its_part
      its_said =
          record { txn = refl; session = refl; part = part; vote = set_there Yes refl; asked = get_here l.at m.number from s.me place.0 }

      locks_yes : vote_here s l.leader.session p ≡ Yes → LocksHold (home_rows Yes) (said_at (voted Yes refl)) (kept_at s)
      locks_yes says = locks_alike (home_rows Yes) (its_part ∷ said_at s) (said_at (voted Yes refl)) (kept_at s) (kept_at s)
          (λ y i. elim (said_again (with_number Yes) home (home_alone Yes refl) (home_rows Yes) (home_paths Yes) y i) as (λ _. In y (its_part ∷ said_at s)) [
            | inl j ↦ inr j
            | inr q ↦ inl (is_its_part y q.0 q.1)
          ])
          (λ y i. elim i as (λ _. In y (said_at (voted Yes refl))) [
            | inl e ↦
                subst (λ z. In z (said_at (voted Yes refl))) (sym e)
                (In-behind its_part (map agreed_of s.prepared) (flat_map (said_by s.me) (with_leading (voted_new Yes refl) s.leading))
                (said_new s.me (voted_new Yes refl) s.leading its_part
                (said_in s.me (voted_new Yes refl) its_part
                its_said)))
            | inr j ↦ said_still (with_number Yes) home (home_alone Yes refl) (home_rows Yes) (home_paths Yes) y j
          ])
          (λ z i. i)
          (yes_locks s.rows (said_at s) (kept_at s) its_part (held.locks s here) ordered (yes_stands s l.leader.session p is_here says)
          (λ r i its_row u e. alone u
          (subst (λ by. IsOf (said_at s) u by ⊎ IsKept (kept_at s) u by) its_row ((held.locks s here).used r u i e))))

      locks_home : (v : Vote) (counts : is_moved v ≡ false) → vote_here s l.leader.session p ≡ v
          → LocksHold (home_rows v) (said_at (voted v counts)) (kept_at s)
      locks_home Yes counts says = locks_yes says
      locks_home (Ended x u w) counts says = locks_no (Ended x u w) counts (λ e. absurd (cc e))
      locks_home (PathsOut x) counts says = locks_no (PathsOut x) counts (λ e. absurd (cc e))
      locks_home (Moved q u) counts says = absurd (cc counts)

      home_counted : (v : Vote) (counts : is_moved v ≡ false) → vote_here s l.leader.session p ≡ v
          → LedHolds (then_of k from c (peer.Vote m) (after_own v))
      home_counted v counts says =
          together (with_number v) home (home_alone v counts) (home_rows v) (home_paths v) n (recalls_for v s p) []
          (recalls_tell_nothing k v s p) (stage_of key.txn.server v) (home_stage v counts)
          (desk.after_own key (held.parts key) v heard_desks)
          (record {
            parts = parts_still;
            stages = set_twice (stage_of key.txn.server v);
            prepared = λ j y. refl;
            telling = append-nil (taken word (telling_of c.in_flight));
          })
          (owns heard_desks key (held.parts key) v stages_voted unknown) (recalls_answer_nothing k v s p c.lines) (λ w i. absurd i)
          (λ r i u e. voted_stay v l.leader.txn p.uses s.rows r u i e)
          (locks_home v counts says)

      pub led_home : LedHolds (then_of k from c (peer.Vote m) (after_own (vote_here s l.leader.session p)))
      led_home = home_counted (vote_here s l.leader.session p) (counts_here s l.leader.session p is_here) refl
