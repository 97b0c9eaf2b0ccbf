-- A leader is told that a part is done: all that holds of the cluster holds then. With the last part the rows are unlocked, and the
-- session is sent the answer that it was owed.
use mathlib.Core.Path.{fun_ext}
use Rattle.std.proofs.Common.{◌≡◌, ℕ, ◌+◌, ◌==◌, ◌≤◌, not, Bool, true, false, List, [], ◌∷◌, ◌++◌, length, map, filter, cond}
use Rattle.std.proofs.Common.{refl, sym, ap, ap₂, ◌∙◌, subst, append-nil, length-append, arith}
use Rattle.std.specs.Prelude.{Some, None, is_some, slice_get, slice_set}
use Rattle.std.proofs.lemmas.List.Elements.{filter-append}
use Rattle.fs_ident.specs.In.{In}
use Rattle.fs_ident.specs.declared.actor.Peer.{Peer}
use Rattle.fs_ident.specs.declared.actor.Session.{Session}
use Rattle.fs_ident.specs.declared.actor.TxnNo.{TxnNo}
use Rattle.fs_ident.proofs.Passing.{found}
use Rattle.fs_ident.proofs.Same.{itself, one_session}
use Rattle.fs_ident.proofs.Standing.{In-got, In-mapped}
use Rattle.fs_field.specs.Table.{same_txn}
use Rattle.fs_field.specs.declared.row.Row.{Row}
use Rattle.fs_msg.specs.declared.answer.Answer.{Answer}
use Rattle.fs_msg.specs.declared.answer.Answer.TheVariants as answer
use Rattle.fs_msg.specs.declared.client_msg.ClientMsg.{ClientMsg}
use Rattle.fs_msg.specs.declared.done.Done.{Done as DoneMsg}
use Rattle.fs_msg.specs.declared.msg.Msg.{Msg}
use Rattle.fs_msg.specs.declared.peer_msg.PeerMsg.TheVariants as peer
use Rattle.fs_msg.specs.declared.server_note.ServerNote.{ServerNote}
use Rattle.fs_msg.specs.declared.server_note.ServerNote.TheVariants as note
use Rattle.fs_server.specs.Counts.{done_step, done_with}
use Rattle.fs_server.specs.Server.{Stepped, to_session}
use Rattle.fs_server.specs.declared.event.ServerEvent.{ServerEvent}
use Rattle.fs_server.specs.declared.event.ServerEvent.TheVariants as event
use Rattle.fs_server.specs.declared.state.Server.{Server}
use Rattle.fs_txn.specs.Leading.{ending_of, with_ending, without_done, without_ending}
use Rattle.fs_txn.specs.Locks.{rows_unlocked}
use Rattle.fs_txn.specs.declared.leading.Ending.{Ending}
use Rattle.fs_txn.proofs.Keys.{kept_in, txn_is}
use Rattle.fs_serial.specs.Cluster.{Cluster, InFlight, IsThere, after_step, in_flight_from, is_between, parcels_of, without_first}
use Rattle.fs_serial.specs.Exchange.{asked_server, due}
use Rattle.fs_serial.specs.Leading.{IsEnded, LedHolds}
use Rattle.fs_serial.specs.Owed.{ends_in, ends_with, owed_at, owed_to}
use Rattle.fs_serial.specs.Seen.{ClusterHolds, world_of}
use Rattle.fs_serial.specs.Words.{decided_among, ended_in, ending_at}
use Rattle.fs_serial.specs.World.{Ends, WorldHolds, with_ends}
use Rattle.fs_serial.specs.World as world
use Rattle.fs_serial.proofs.ClientMessages.Due.{one_due}
use Rattle.fs_serial.proofs.DecidedEffects.GuardsAgain.{alone_in}
use Rattle.fs_serial.proofs.DecidedEffects.OwnApart.{one_each}
use Rattle.fs_serial.proofs.Lists.EachAt.{each_alone, each_same, nothing_of}
use Rattle.fs_serial.proofs.Lists.SetAt.{In_without}
use Rattle.fs_serial.proofs.Lists.Traffic.{messages}
use Rattle.fs_serial.proofs.Moves.KeptPaths.{same_paths}
use Rattle.fs_serial.proofs.Transactions.AwaitedWords.{IsAwaitedBy, done_awaited, done_is}
use Rattle.fs_serial.proofs.Transactions.Desks.{is_at, is_still, was_at}
use Rattle.fs_serial.proofs.Transactions.OneOfSession.{all_owed_due, due_both}
use Rattle.fs_serial.proofs.Transactions.OneOwner.{some_there}
use Rattle.fs_serial.proofs.Transactions.PlacesAfter.{AreRelocked, AreWords, StaysHome, answer_words, no_words, places_stepped}
use Rattle.fs_serial.proofs.Transactions.PlacesAfter.{relocked_not, unlocked_so, word_taken}
use Rattle.fs_serial.proofs.Transactions.SeenMeanwhile.{meanwhile_sent, taken_same}
use Rattle.fs_serial.proofs.Transactions.Tables.{In_all, ending_other, ending_over, ending_set}
use Rattle.fs_serial.proofs.Transactions.ToldOrOwed.{left_same}
use Rattle.fs_serial.proofs.WholeRuns.Addressing.{AreDue, sent_addressed}
use Rattle.fs_serial.proofs.WholeRuns.LedAnswers.{owed_then, rotated}
use Rattle.fs_serial.proofs.WholeRuns.LedKept.{all_keep_led}
use Rattle.fs_serial.proofs.WholeRuns.LedStillDecided.{SameSessions, still_decided}
use Rattle.fs_serial.proofs.WholeRuns.LedWorlds.{OnlyRelocks, relocked_stands, undecided_taken}

module _ (skew greatest k : ℕ) (c : Cluster) (s : Server) (at : slice_get c.servers k ≡ Some s) (h : ClusterHolds skew greatest c)
    (from : ℕ) (m : DoneMsg) (comes : IsThere k (event.FromPeer from (peer.Done m)) c) where
  abbrev e : ServerEvent
  e = event.FromPeer from (peer.Done m)

  abbrev f : InFlight
  f = record { from = from; to = k; message = peer.Done m }

  here : In s c.servers
  here = In-got c.servers k s at

  me : s.me ≡ k
  me = h.places.numbered k s at

  q : IsAwaitedBy m.number (ending_of m.txn s.ending) from
  q = done_awaited k from c s at h.led m comes

  -- the transaction that was decided
  abbrev x : Ending
  x = q.ending

  there : In x s.ending
  there = (found (λ (y : Ending). same_txn y.txn m.txn) s.ending x q.is).0

  x_holds : IsEnded c.lines s h.led.parts x
  x_holds = h.led.ending s here x there

  -- and what is left of it
  abbrev left : Ending
  left = without_done m.number x

  abbrev more : Bool
  more = is_some (slice_get left.awaits 0)

  abbrev by : Session
  by = x.session

  abbrev its_end : Answer
  its_end = answer.Led x.end

  abbrev heard : List Answer
  heard = messages (c.lines by).down

  -- ## What the session was owed

  few : length (owed_to by c.servers) ≤ 1
  few =
      let one : length (ends_in c by).up + length (due (ends_in c by).down) ≤ 1 = one_each skew greatest c h s here by in
      let down : length (due (ends_in c by).down) ≡ length (owed_to by c.servers) + length (due heard) =
      ap length (due_both (owed_to by c.servers) heard ∙ ap (λ ys. ys ++ due heard) (all_owed_due by c.servers))
      ∙ length-append (owed_to by c.servers) (due heard) in
      omega (arith, one, down)

  owed_here : In its_end (owed_at by s)
  owed_here =
      In-mapped (λ (z : Ending). answer.Led z.end) x (filter (λ (z : Ending). z.session.0 == by.0) s.ending)
      (kept_in (λ (z : Ending). z.session.0 == by.0) x s.ending there (itself by.0))

  owed_was : owed_to by c.servers ≡ its_end ∷ []
  owed_was = alone_in its_end (owed_to by c.servers) (In_all (owed_at by) its_end s c.servers here owed_here) few

  -- its number is that of one transaction
  only_its : (z : Ending) → In z s.ending → same_txn z.txn x.txn ≡ true → z ≡ x
  only_its z i same =
      let both : Some z ≡ Some x =
      sym (h.led.ending s here z i).one ∙ ap (λ u. ending_of u s.ending) (txn_is z.txn x.txn same) ∙ x_holds.one in
      cc

  -- ## A step that does it

  module _ (rows : List Row) (relocked : AreRelocked s.rows rows) (n : ServerNote) (ms : List (Peer × Msg)) where
    abbrev t : Server
    t = record s { rows = rows; ending = with_ending left s.ending }

    abbrev step : Stepped
    step = record { server = t; out = record { note = n; send = ms; admitted = [] } }

    abbrev after : Cluster
    after = after_step k e step c

    abbrev servers : List Server
    servers = slice_set c.servers k t

    -- ## What is owed then

    its_owed : owed_to by servers ≡ cond more (its_end ∷ []) []
    its_owed =
        let some : 1 ≤ length (owed_at by s) = some_there its_end (owed_at by s) owed_here in
        each_alone (owed_at by) c.servers k s t at (omega (arith, few, some))
        ∙ owed_then skew greatest k c s at h x there left.awaits t refl

    module _ (y : Session) (off : (by.0 == y.0) ≡ false) where
      still_there : filter (λ (z : Ending). z.session.0 == y.0) (without_ending x.txn s.ending)
          ≡ filter (λ (z : Ending). z.session.0 == y.0) s.ending
      still_there = left_same (λ (z : Ending). z.session.0 == y.0) (λ (z : Ending). not (same_txn z.txn x.txn)) s.ending
          (λ z i own. stays z i own (same_txn z.txn x.txn) refl)
        where
          stays : (z : Ending) → In z s.ending → (z.session.0 == y.0) ≡ true → (b : Bool) → same_txn z.txn x.txn ≡ b → not b ≡ true
          stays z i own true same =
              let wrong : false ≡ true = sym off ∙ ap (λ (w : Ending). w.session.0 == y.0) (sym (only_its z i same)) ∙ own in
              absurd (cc wrong)
          stays z i own false same = refl

      owed_same : owed_at y t ≡ owed_at y s
      owed_same =
          ap (map (λ (z : Ending). answer.Led z.end))
          (filter-append (λ (z : Ending). z.session.0 == y.0) (without_ending x.txn s.ending) (cond more (left ∷ []) [])
          ∙ ap₂ (λ (as_ bs : List Ending). as_ ++ bs) still_there (none more)
          ∙ append-nil (filter (λ (z : Ending). z.session.0 == y.0) s.ending))
        where
          none : (b : Bool) → filter (λ (z : Ending). z.session.0 == y.0) (cond b (left ∷ []) []) ≡ []
          none true = ap (λ b. cond b (left ∷ []) []) off
          none false = refl

      others_owed : owed_to y servers ≡ owed_to y c.servers
      others_owed = each_same (owed_at y) c.servers k s t at owed_same

    -- ## Before answers are sent

    abbrev held : Session → Ends
    held y = ends_with y servers (c.lines y)

    held_with : (y : Session) (os : List Answer) → owed_to y servers ≡ os
        → held y ≡ (let z : Ends = record (ends_in c y) { down = os ++ messages (c.lines y).down } in z)
    held_with y os e =
        ap₂ (λ (us : List ClientMsg) (as_ : List Answer). let z : Ends =
        record { client = (c.lines y).client; up = messages (c.lines y).up ++ us; down = as_ ++ messages (c.lines y).down } in z)
        (taken_same c.servers k s t at refl y (c.lines y).client.led) e

    others_held : (y : Session) → (by.0 == y.0) ≡ false → held y ≡ ends_in c y
    others_held y off = held_with y (owed_to y c.servers) (others_owed y off)

    then_is : (y : Session) → ends_in after y ≡ world.with_sent ms held y
    then_is y = meanwhile_sent k ms servers c.lines y

    -- ## What is decided stays

    abbrev WasEnded : TxnNo → Ending → Type 0
    WasEnded txn y = (z : Ending) × ((ended_in c.servers txn ≡ Some z) × (z.session ≡ y.session))

    ended_before : SameSessions c.servers servers
    ended_before txn y is = by_server (txn.server == k) refl
      where
        by_server : (b : Bool) → (txn.server == k) ≡ b → WasEnded txn y
        by_server false off = (y, (sym (ap (λ o. ending_of txn (ending_at o)) (is_still c.servers k s t at txn.server off)) ∙ is, refl))
        by_server true mine = by_txn (same_txn txn x.txn) refl
          where
            is_then : ending_of txn t.ending ≡ Some y
            is_then = sym (ap (λ o. ending_of txn (ending_at o)) (is_at c.servers k s t at txn.server mine)) ∙ is

            was : ended_in c.servers txn ≡ ending_of txn s.ending
            was = ap (λ o. ending_of txn (ending_at o)) (was_at c.servers k s t at txn.server mine)

            by_txn : (b : Bool) → same_txn txn x.txn ≡ b → WasEnded txn y
            by_txn false off = (y, (was ∙ sym (ending_other left txn s.ending off) ∙ is_then, refl))
            by_txn true same = by_more more refl
              where
                it : txn ≡ x.txn
                it = txn_is txn x.txn same

                by_more : (b : Bool) → more ≡ b → WasEnded txn y
                by_more true some =
                    let both : Some left ≡ Some y =
                    sym (ending_set left s.ending some) ∙ ap (λ u. ending_of u t.ending) (sym it) ∙ is_then in
                    let equal : left ≡ y = cc in
                    (x, (was ∙ ap (λ u. ending_of u s.ending) it ∙ x_holds.one, ap (λ (z : Ending). z.session) equal))
                by_more false none =
                    let wrong : None ≡ Some y =
                    sym (ending_over left s.ending none) ∙ ap (λ u. ending_of u t.ending) (sym it) ∙ is_then in
                    absurd (cc wrong)

    -- ## All that holds then

    module _ (words : AreWords (length c.servers) ms) (quiet : in_flight_from k ms ≡ [])
        (asked : AreDue k ms (λ y. asked_server (c.lines y).client.exchange)) (led : LedHolds after)
        (holds : WorldHolds greatest (record (world_of s c) { ends = ends_in after }))
        (silent : (y : Session) → due (ends_in after y).down ≡ [] → due (ends_in c y).down ≡ []) where
      abbrev rest : List InFlight
      rest = without_first (is_between from k) c.in_flight

      flight : after.in_flight ≡ rest
      flight = ap (λ fs. rest ++ fs) quiet ∙ append-nil rest

      parcels : parcels_of rest ≡ parcels_of c.in_flight
      parcels = word_taken (is_between from k) c.in_flight f comes refl

      home : StaysHome s t
      home = record {
        me = refl;
        owners = refl;
        rows = relocked;
        records = (h.places.homes s here).records;
      }

      changes : OnlyRelocks k s t c after
      changes = record {
        servers = refl;
        me = refl;
        skew = refl;
        last = refl;
        given = refl;
        reaps = refl;
        records = refl;
        paths = same_paths s.paths s.paths refl;
        rows = relocked;
        parcels = ap parcels_of flight ∙ parcels;
        decided = still_decided c.servers after led ended_before ∙ ap (decided_among c.servers) flight
            ∙ undecided_taken c.servers (is_between from k) c.in_flight f comes refl;
        journal = append-nil c.journal;
        replied = refl;
      }

      stands : ClusterHolds skew greatest after
      stands =
          relocked_stands skew greatest k c s t at h after changes holds silent led
          (places_stepped k c s t at h.places home rest ms [] c.replied after.lines parcels
          (λ z i. In_without (is_between from k) c.in_flight z i) words)
          (sent_addressed k ms c.lines asked h.addressed)

  -- ## Other parts are awaited

  module _ (awaited : more ≡ true) (n : ServerNote) where
    abbrev waiting : Cluster
    waiting = after s.rows (relocked_not s.rows) n []

    own_still : held s.rows (relocked_not s.rows) n [] by ≡ ends_in c by
    own_still = held_with s.rows (relocked_not s.rows) n [] by (owed_to by c.servers)
        (its_owed s.rows (relocked_not s.rows) n [] ∙ ap (λ b. cond b (its_end ∷ []) []) awaited ∙ sym owed_was)

    still : (y : Session) → ends_in waiting y ≡ ends_in c y
    still y = by_test (by.0 == y.0) refl
      where
        by_test : (b : Bool) → (by.0 == y.0) ≡ b → ends_in waiting y ≡ ends_in c y
        by_test true same = subst (λ z. ends_in waiting z ≡ ends_in c z) (one_session by y same) own_still
        by_test false off = others_held s.rows (relocked_not s.rows) n [] y off

    goes_on : LedHolds waiting → ClusterHolds skew greatest waiting
    goes_on led =
        stands s.rows (relocked_not s.rows) n [] (no_words (length c.servers)) refl (λ to a i. absurd i) led
        (subst (λ es. WorldHolds greatest (record (world_of s c) { ends = es })) (sym (fun_ext still)) (h.parts s here).0)
        (λ y none. ap (λ (z : Ends). due z.down) (sym (still y)) ∙ none)

  -- ## All is done

  module _ (over : more ≡ false) (n : ServerNote) where
    abbrev rows : List Row
    rows = rows_unlocked x.txn s.rows

    abbrev sent : List (Peer × Msg)
    sent = to_session by its_end ∷ []

    abbrev ended : Cluster
    ended = after rows (unlocked_so x.txn s.rows) n sent

    abbrev was : Session → Ends
    was = held rows (unlocked_so x.txn s.rows) n sent

    abbrev last : Ends
    last = record (ends_in c by) { down = heard ++ its_end ∷ [] }

    own_then : ends_in ended by ≡ last
    own_then =
        then_is rows (unlocked_so x.txn s.rows) n sent by
        ∙ ap (λ b. let z : Ends = cond b (let w : Ends = record (was by) { down = (was by).down ++ its_end ∷ [] } in w) (was by) in z)
        (itself by.0)
        ∙ ap (λ (z : Ends). let w : Ends = record z { down = z.down ++ its_end ∷ [] } in w)
        (held_with rows (unlocked_so x.txn s.rows) n sent by []
        (its_owed rows (unlocked_so x.txn s.rows) n sent ∙ ap (λ b. cond b (its_end ∷ []) []) over))

    others_then : (y : Session) → (by.0 == y.0) ≡ false → ends_in ended y ≡ ends_in c y
    others_then y off =
        then_is rows (unlocked_so x.txn s.rows) n sent y
        ∙ ap (λ b. let z : Ends = cond b (let w : Ends = record (was y) { down = (was y).down ++ its_end ∷ [] } in w) (was y) in z) off
        ∙ others_held rows (unlocked_so x.txn s.rows) n sent y off

    holds_then : WorldHolds greatest (record (world_of s c) { ends = ends_in ended })
    holds_then =
        subst (λ es. WorldHolds greatest (record (world_of s c) { ends = es })) (fun_ext same)
        (rotated greatest by heard (its_end ∷ []) (world_of s c) (ap (λ os. os ++ heard) owed_was) (h.parts s here).0)
      where
        same : (y : Session) → with_ends by last (ends_in c) y ≡ ends_in ended y
        same y = by_test (by.0 == y.0) refl
          where
            by_test : (b : Bool) → (by.0 == y.0) ≡ b → (let z : Ends = cond b last (ends_in c y) in z) ≡ ends_in ended y
            by_test true own = sym own_then ∙ ap (ends_in ended) (one_session by y own)
            by_test false off = sym (others_then y off)

    -- nobody is owed more than before
    silent_then : (y : Session) → due (ends_in ended y).down ≡ [] → due (ends_in c y).down ≡ []
    silent_then y = by_test (by.0 == y.0) refl
      where
        not_own : due (ends_in ended by).down ≡ [] → due (ends_in c by).down ≡ []
        not_own none =
            let all : due heard ++ its_end ∷ [] ≡ [] =
            sym (due_both heard (its_end ∷ [])) ∙ ap (λ (z : Ends). due z.down) (sym own_then) ∙ none in
            let wrong : its_end ∷ [] ≡ [] = (nothing_of (due heard) (its_end ∷ []) all).1 in
            absurd (cc wrong)

        by_test : (b : Bool) → (by.0 == y.0) ≡ b → due (ends_in ended y).down ≡ [] → due (ends_in c y).down ≡ []
        by_test true own = subst (λ z. due (ends_in ended z).down ≡ [] → due (ends_in c z).down ≡ []) (one_session by y own) not_own
        by_test false off = λ none. ap (λ (z : Ends). due z.down) (sym (others_then y off)) ∙ none

    ends : LedHolds ended → ClusterHolds skew greatest ended
    ends led =
        stands rows (unlocked_so x.txn s.rows) n sent (answer_words (length c.servers) by its_end) refl
        (one_due k (λ y. asked_server (c.lines y).client.exchange) by its_end []
        (ap asked_server x_holds.client.asked ∙ ap Some me) (λ z i. absurd i)) led holds_then silent_then

  -- ## Both

  by_awaits : (ys : List (ℕ × ℕ)) → left.awaits ≡ ys → LedHolds (after_step k e (done_with left ys s) c)
      → ClusterHolds skew greatest (after_step k e (done_with left ys s) c)
  by_awaits [] none led = ends (ap (λ ys. is_some (slice_get ys 0)) none) (note.Ends x.txn) led
  by_awaits (y ∷ ys) some led = goes_on (ap (λ zs. is_some (slice_get zs 0)) some) (note.Waits x.txn) led

  pub done_event : ClusterHolds skew greatest (after_step k e (done_step m s) c)
  done_event =
      let is : done_step m s ≡ done_with left left.awaits s = done_is k from c s at h.led m q in
      subst (λ z. ClusterHolds skew greatest (after_step k e z c)) (sym is)
      (by_awaits left.awaits refl (subst (λ z. LedHolds (after_step k e z c)) is
      ((all_keep_led skew greatest k c s at h).done from m comes)))
