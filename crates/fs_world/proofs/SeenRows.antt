-- Whose rows a server has, and to whom it sends: the sessions that asked.
use Rattle.std.proofs.Common.{◌≡◌, ℕ, ◌+◌, Bool, true, false, List, [], ◌∷◌, ◌++◌, map, not, Option, Some, None}
use Rattle.std.proofs.Common.{refl, sym, ap, subst, cond, ◌∙◌, inl, inr}
use Rattle.std.specs.Prelude.{◌&&◌, is_some}
use Rattle.std.specs.List.{AllByRecursion, filter, find, list_all}
use Rattle.fs_ident.specs.Ident.{child}
use Rattle.fs_ident.specs.In.{In}
use Rattle.fs_ident.specs.declared.actor.LeaseNo.{LeaseNo}
use Rattle.fs_ident.specs.declared.actor.Peer.{Peer}
use Rattle.fs_ident.specs.declared.actor.Peer.TheVariants.{Client, Server as OfServer}
use Rattle.fs_ident.specs.declared.actor.Session.{Session}
use Rattle.fs_ident.specs.declared.actor.TxnNo.{TxnNo}
use Rattle.fs_ident.proofs.Passing.{found}
use Rattle.fs_ident.proofs.Standing.{In-filter, In-map, In-put}
use Rattle.fs_field.specs.declared.field.Field.{Field}
use Rattle.fs_field.specs.declared.field.Field.TheVariants.{Life}
use Rattle.fs_field.specs.declared.lease_kind.LeaseKind.{LeaseKind}
use Rattle.fs_field.specs.declared.lease_kind.LeaseKind.TheVariants.{Exclusive}
use Rattle.fs_field.specs.declared.row.Row.{Row}
use Rattle.fs_field.specs.declared.path.PathAnswer.{PathAnswer}
use Rattle.fs_field.specs.declared.used.Part.{Part}
use Rattle.fs_field.specs.declared.used.Use.{Use}
use Rattle.fs_field.specs.Field.{file_of, same_field}
use Rattle.fs_field.specs.Table.{borne_numbers, has_no, is_live, no_before, renewed_row, same_txn, unlocked_row, with_row}
use Rattle.fs_field.proofs.Leases.{SameLease, renewed_same, unlocked_same}
use Rattle.fs_map.specs.Lists.{piece_of}
use Rattle.fs_map.specs.Map.{server_of}
use Rattle.fs_parcel.specs.declared.error.MoveError.{MoveError}
use Rattle.fs_rows.specs.Granted.{with_rows}
use Rattle.fs_rows.specs.Live.{unlocked_on, unlocked_rows_on}
use Rattle.fs_rows.specs.Moving.{is_on_given}
use Rattle.fs_record.specs.Fresh.{fresh_number, is_directory}
use Rattle.fs_record.specs.declared.parcel.Parcel.{Parcel}
use Rattle.fs_msg.specs.declared.answer.Answer.TheVariants as reply
use Rattle.fs_msg.specs.declared.answer.Grant.{Grant}
use Rattle.fs_msg.specs.declared.client_msg.ClientMsg.{ClientMsg}
use Rattle.fs_msg.specs.declared.client_msg.ClientMsg.TheVariants.{Ask, Renew, Release, Ship, Lead}
use Rattle.fs_msg.specs.declared.end.End.{End}
use Rattle.fs_msg.specs.declared.end.End.TheVariants as end
use Rattle.fs_msg.specs.declared.entry.Entry.{Entry}
use Rattle.fs_msg.specs.declared.item.Item.{Item}
use Rattle.fs_msg.specs.declared.lead.Lead.{Lead as ToLead}
use Rattle.fs_msg.specs.declared.msg.Msg.{Msg}
use Rattle.fs_msg.specs.declared.msg.Msg.TheVariants as msg
use Rattle.fs_field.specs.declared.vote.Vote.{Vote as AVote}
use Rattle.fs_field.specs.declared.vote.Vote.TheVariants as the_vote
use Rattle.fs_msg.specs.declared.decide.Decide.{Decide as ToDecide}
use Rattle.fs_msg.specs.declared.done.Done.{Done as ToldDone}
use Rattle.fs_msg.specs.declared.prepare.Prepare.{Prepare as ToPrepare}
use Rattle.fs_msg.specs.declared.peer_msg.PeerMsg.{PeerMsg}
use Rattle.fs_msg.specs.declared.peer_msg.PeerMsg.TheVariants.{Parcel as OfParcel, Prepare, Vote, Decide, Done}
use Rattle.fs_msg.specs.declared.server_note.ServerNote.{ServerNote}
use Rattle.fs_msg.specs.declared.server_note.ServerNote.TheVariants as note
use Rattle.fs_msg.specs.declared.voted.Voted.{Voted}
use Rattle.fs_record.specs.Effects.{tells_its_effects}
use Rattle.fs_record.specs.declared.led_end.LedEnd.{LedEnd}
use Rattle.fs_txn.specs.Deciding.{decision}
use Rattle.fs_txn.specs.Leading.{elsewhere, end_of_decision, leading_of, without_done}
use Rattle.fs_txn.specs.Locks.{rows_unlocked}
use Rattle.fs_txn.specs.Preparing.{row_locked, rows_voted}
use Rattle.fs_txn.specs.declared.decision.Decision.{Decision}
use Rattle.fs_txn.specs.declared.leading.Ending.{Ending}
use Rattle.fs_txn.specs.declared.leading.Leading.{Leading}
use Rattle.fs_txn.specs.declared.mode.Mode2.{Mode2}
use Rattle.fs_txn.proofs.Locking.{used_same}
use Rattle.fs_server.proofs.Leading.{LeadEnds, begun as txn_begun, kept as path_kept, lead_ends, put_off, unled}
use Rattle.fs_server.proofs.Leading.{wanted as path_wanted}
use Rattle.fs_server.proofs.OneByOne.{each_item, reaps_leave, ships_leave}
use Rattle.fs_server.specs.Begins.{Round, begins, first_round, leader_with, part_round, parts_in, round_of, rounds, txn_of}
use Rattle.fs_server.specs.Concludes.{ends_now, goes_on, keeps_for, path_for, tells}
use Rattle.fs_server.specs.Counts.{after_own_vote, ask_for, asked_at, done_step, done_with, vote_step, with_vote}
use Rattle.fs_server.specs.Leads.{lead_step}
use Rattle.fs_server.specs.PathsHere.{asks_up}
use Rattle.fs_server.specs.Asks.{Asking, ask_fresh, ask_from, ask_step, asked_in, fresh_for, fresh_in, fresh_of, kind_for, recall_of}
use Rattle.fs_server.specs.Asks.{recalls_at, with_lease}
use Rattle.fs_server.specs.Follows.{applies, is_prepared, recalls_for as paths_back, to_server, vote_here, votes}
use Rattle.fs_server.proofs.Following.{IsOneOf, decided_rows, voted_rows}
use Rattle.fs_server.specs.Moves.{fits_here, move_at, parcel_at, peer_step}
use Rattle.fs_server.specs.Pairs.{numbers_in, pairs_here, released_rows, renewed_rows}
use Rattle.fs_server.specs.Reaps.{Reaping, lapsed_in, reap_from, recalls_for, turn_over}
use Rattle.fs_server.specs.Server.{Stepped, begun, end_of, is_mine, moved, strange, to_session}
use Rattle.fs_server.specs.Ships.{ship_from, ship_step, shipped}
use Rattle.fs_server.specs.Step.{event_step, message_step, recalls_of, step}
use Rattle.fs_server.specs.declared.event.ServerEvent.{ServerEvent}
use Rattle.fs_server.specs.declared.event.ServerEvent.TheVariants.{FromClient, FromPeer, Turn, Recall, Move}
use Rattle.fs_server.specs.declared.state.Server.{Server}
use Rattle.std.specs.Prelude.{IfSome}
use Rattle.fs_serial.specs.Cluster.{parcel_in}
use Rattle.fs_serial.specs.PathLaws.{IsPathMessage}
use Rattle.fs_serial.proofs.Moves.Parcels.{if_some}
use Rattle.fs_serial.proofs.Moves.PathSteps.{ArePathSends, each_message, refusal_here, refused, up_sent}
use Rattle.fs_serial.proofs.Transactions.Recalled.{recalls_on_paths}
use Rattle.fs_serial.proofs.Transactions.RoundsLocks.{round_by}
use Rattle.fs_world.proofs.LedEach.{each_done, each_goes, each_vote}
use Rattle.fs_world.proofs.OpenHandles.{each_both}

-- each row is of one of these sessions
abbrev pub AreOf : (Session → Type 0) → List Row → Type 0
AreOf these rows = (row : Row) → In row rows → these row.session

-- the rows of the parcel that the message brings, if it brings one, are of these sessions
abbrev pub BringsOf : (Session → Type 0) → PeerMsg → Type 0
BringsOf these m = IfSome (parcel_in m) (λ (p : Parcel). AreOf these p.rows)

pub brings_still : (these those : Session → Type 0) → ((s : Session) → these s → those s) → (m : PeerMsg) → BringsOf these m
    → BringsOf those m
brings_still these those stay m h = if_some (λ (p : Parcel). AreOf these p.rows) (λ (p : Parcel). AreOf those p.rows)
    (λ p of row i. stay row.session (of row i)) (parcel_in m) h

-- it goes to one of these sessions, or to a server with rows of these
abbrev pub IsSentTo : (Session → Type 0) → Peer × Msg → Type 0
IsSentTo these (Client s, msg.Answer a) = these s
IsSentTo these (OfServer to, msg.Peer m) = BringsOf these m
IsSentTo these x = ⊥

abbrev pub AreSentTo : (Session → Type 0) → List (Peer × Msg) → Type 0
AreSentTo these messages = AllByRecursion (λ (x : Peer × Msg). IsSentTo these x) messages

-- ## Leases are asked back from the sessions of their rows

-- one that no transaction keeps is of one of these
unlocked : (these : Session → Type 0) (field : Field) (rows : List Row) → AreOf these rows → (x : LeaseNo × Session)
    → In x (unlocked_on field rows) → these x.1
unlocked these field rows h x i =
    let at = In-map (λ (row : Row). (row.no, row.session)) x (unlocked_rows_on field rows) i in
    subst these (ap (λ (y : LeaseNo × Session). y.1) (sym at.1.1))
    (h at.0 (In-filter (λ (row : Row). same_field row.field field && not (is_some row.lock)) at.0 rows at.1.0))

-- what holds where one of these is asked for a lease holds of all that is sent so
module _ (these : Session → Type 0) (P : Peer × Msg → Type 0) (recall : (s : Session) (n : LeaseNo) → these s
    → P (to_session s (reply.Recall n))) where
  abbrev ArePassed : List (Peer × Msg) → Type 0
  ArePassed messages = AllByRecursion P messages

  -- what stands in the way
  recalled : (blocker : LeaseNo) (o : Option Row) (rows : List Row) → find (has_no blocker) rows ≡ o → AreOf these rows
      → ArePassed (recall_of blocker o)
  recalled blocker None rows e h = tt
  recalled blocker (Some row) rows e h = (recall row.session blocker (h row (found (has_no blocker) rows row e).0), tt)

  pub recalled_at : (e : End) (rows : List Row) → AreOf these rows → ArePassed (recalls_at e rows)
  recalled_at end.All rows h = tt
  recalled_at (end.Wait blocker) rows h = recalled blocker (find (has_no blocker) rows) rows refl h
  recalled_at (end.Locked txn) rows h = tt
  recalled_at (end.Moved prefix to) rows h = tt
  recalled_at (end.NoIds full) rows h = tt
  recalled_at (end.Ended n missed until now) rows h = tt

  -- each of those in the way
  pub recalled_for : (rows : List Row) (ns : List LeaseNo) → AreOf these rows → ArePassed (recalls_for rows ns)
  recalled_for rows [] h = tt
  recalled_for rows (n ∷ ns) h = each_both P (recall_of n (find (has_no n) rows)) (recalls_for rows ns)
      (recalled n (find (has_no n) rows) rows refl h) (recalled_for rows ns h)

  recalls_sent : (leases : List (LeaseNo × Session)) → ((x : LeaseNo × Session) → In x leases → these x.1) → ArePassed (recalls_of leases)
  recalls_sent [] h = tt
  recalls_sent (x ∷ xs) h = (recall x.1 x.0 (h x (inl refl)), recalls_sent xs (λ y i. h y (inr i)))

  pub recall_sent : (b : Bool) (field : Field) (rows : List Row) → AreOf these rows
      → ArePassed (recalls_of (cond b (unlocked_on field rows) []))
  recall_sent true field rows h = recalls_sent (unlocked_on field rows) (unlocked these field rows h)
  recall_sent false field rows h = tt

module _ (these : Session → Type 0) where
  -- the session that the event is of, if it is of one, is one of these, and so are those of the rows that come
  abbrev pub IsAsked : ServerEvent → Type 0
  IsAsked (FromClient by m) = these by
  IsAsked (FromPeer from m) = BringsOf these m
  IsAsked e = Unit {0}

  -- what the server leads is for these sessions
  pub record LedOf (s : Server) : Type 0 where
    pub leading : (l : Leading) → In l s.leading → these l.leader.session
    pub ending : (x : Ending) → In x s.ending → these x.session

  -- the rows that a step leaves are of these sessions, and so is whoever it sends to
  pub record IsOf (x : Stepped) : Type 0 where
    pub rows : AreOf these x.server.rows
    pub sends : AreSentTo these x.out.send

  -- ## Rows

  pub filtered : (test : Row → Bool) (rows : List Row) → AreOf these rows → AreOf these (filter test rows)
  filtered test rows h row i = h row (In-filter test row rows i)

  pub put : (new : Row) (rows : List Row) → these new.session → AreOf these rows → AreOf these (with_row new rows)
  put new rows h all row i = elim (In-put (λ (r : Row). no_before new.no r.no) row new rows i) [
    | inl e ↦ subst these (ap (λ (r : Row). r.session) (sym e)) h
    | inr j ↦ all row j
  ]

  pub put_all : (more rows : List Row) → AreOf these more → AreOf these rows → AreOf these (with_rows more rows)
  put_all [] rows h all = all
  put_all (r ∷ rs) rows h all = put_all rs (with_row r rows) (λ x i. h x (inr i)) (put r rows (h r (inl refl)) all)

  lent : (by : Session) (field : Field) (kind : LeaseKind) (promise : Option Bool) (s : Server) → these by → AreOf these s.rows
      → AreOf these (with_lease by field kind promise s).rows
  lent by field kind promise s h all row i = put _ s.rows h all row i

  -- what leaves the leases leaves their sessions
  mapped : (f : Row → Row) → ((r : Row) → SameLease r (f r)) → (rows : List Row) → AreOf these rows → AreOf these (map f rows)
  mapped f same rows h row i =
      let at = In-map f row rows i in
      subst these (sym (ap (λ (r : Row). r.session) at.1.1 ∙ (same at.0).session)) (h at.0 at.1.0)

  pub renewed : (until : ℕ) (ns : List LeaseNo) (rows : List Row) → AreOf these rows → AreOf these (renewed_rows until ns rows)
  renewed until [] rows h = h
  renewed until (n ∷ ns) rows h =
      renewed until ns (map (renewed_row n until) rows) (mapped (renewed_row n until) (renewed_same n until) rows h)

  pub released : (ns : List LeaseNo) (rows : List Row) → AreOf these rows → AreOf these (released_rows ns rows)
  released [] rows h = h
  released (n ∷ ns) rows h = released ns (filter (λ r. not (has_no n r)) rows) (filtered (λ r. not (has_no n r)) rows h)

  -- ## A question

  after_items : (by : Session) → these by → (xs : List (Field × LeaseKind)) (s : Server) (grants : List Grant) → AreOf these s.rows
      → AreOf these (ask_from by xs s grants).server.rows
  after_items by p = each_item by (λ xs s grants a. AreOf these s.rows → AreOf these a.server.rows)
      (λ s grants h. h)
      (λ x xs s grants promise a mine e more h. more (lent by x.0 (kind_for x.0 x.1) promise s p h))
      (λ x xs s grants at why h. h)

  -- a new file's identifier
  after_fresh_of : (by : Session) (dir : List ℕ) (k : Option ℕ) (a : Asking) → these by → AreOf these a.server.rows
      → AreOf these (fresh_of by dir k a).server.rows
  after_fresh_of by dir (Some k) a p h = lent by (Life (child dir k)) Exclusive None a.server p h
  after_fresh_of by dir None a p h = h

  after_fresh_in : (by : Session) (dir : List ℕ) (b : Bool) (a : Asking) → these by → AreOf these a.server.rows
      → AreOf these (fresh_in by dir b a).server.rows
  after_fresh_in by dir true a p h = after_fresh_of by dir (fresh_number a.server.records dir (borne_numbers dir a.server.rows)) a p h
  after_fresh_in by dir false a p h = h

  after_fresh_for : (by : Session) (dir : Option (List ℕ)) (a : Asking) → these by → AreOf these a.server.rows
      → AreOf these (fresh_for by dir a).server.rows
  after_fresh_for by None a p h = h
  after_fresh_for by (Some dir) a p h =
      elim (is_mine a.server dir) as (λ (b : Bool).
      AreOf these (cond b (fresh_in by dir (is_directory a.server.records dir) a) (record a { end = moved a.server dir })).server.rows) [
        | true ↦ after_fresh_in by dir (is_directory a.server.records dir) a p h
        | false ↦ h
      ]

  after_fresh : (by : Session) (dir : Option (List ℕ)) (e : End) (a : Asking) → these by → AreOf these a.server.rows
      → AreOf these (ask_fresh by dir e a).server.rows
  after_fresh by dir end.All a p h = after_fresh_for by dir a p h
  after_fresh by dir (end.Wait blocker) a p h = h
  after_fresh by dir (end.Locked txn) a p h = h
  after_fresh by dir (end.Moved prefix to) a p h = h
  after_fresh by dir (end.NoIds full) a p h = h
  after_fresh by dir (end.Ended n missed until now) a p h = h

  ask_of : (by : Session) (items : List (Field × LeaseKind)) (dir : Option (List ℕ)) (s : Server) → these by → AreOf these s.rows
      → IsOf (ask_step by items dir s)
  ask_of by items dir s p h =
      let rows : AreOf these (asked_in by items dir s).server.rows =
      after_fresh by dir (ask_from by items s []).end (ask_from by items s []) p (after_items by p items s [] h) in
      record {
        rows = rows;
        sends = (
          p,
          recalled_at these (λ (x : Peer × Msg). IsSentTo these x) (λ s n h. h) (asked_in by items dir s).end
              (asked_in by items dir s).server.rows rows,
        );
      }

  -- ## Other messages

  strange_of : (s : Server) → AreOf these s.rows → IsOf (strange s)
  strange_of s h = record { rows = h; sends = tt }

  -- no entry changes a row
  after_entries : (by : Session) (es : List Entry) (s : Server) (admitted : List Item) → AreOf these s.rows
      → AreOf these (ship_from by es s admitted).server.rows
  after_entries by es s admitted h = subst (AreOf these) (sym (ap (λ (t : Server). t.rows) (ships_leave by es s admitted))) h

  ship_of : (by : Session) (entries : List Entry) (s : Server) → these by → AreOf these s.rows → IsOf (ship_step by entries s)
  ship_of by entries s p h = either (list_all (λ (e : Entry). tells_its_effects e.op) entries)
    where
      either : (b : Bool) → IsOf (cond b (shipped by (ship_from by entries s [])) (strange s))
      either true = record { rows = after_entries by entries s [] h; sends = (p, tt) }
      either false = strange_of s h

  -- ## Messages of path leases

  path_brings : (m : PeerMsg) → IsPathMessage m → BringsOf these m
  path_brings (OfParcel p) is = absurd is
  path_brings (Prepare m) is = absurd is
  path_brings (Vote m) is = absurd is
  path_brings (Decide m) is = absurd is
  path_brings (Done m) is = absurd is
  path_brings m is = tt

  paths_sent : (ms : List (Peer × Msg)) → ArePathSends ms → AreSentTo these ms
  paths_sent [] sent = tt
  paths_sent ((OfServer to, msg.Peer m) ∷ rest) sent = (path_brings m sent.0, paths_sent rest sent.1)
  paths_sent ((OfServer to, msg.Answer a) ∷ rest) sent = absurd sent.0
  paths_sent ((OfServer to, msg.Client a) ∷ rest) sent = absurd sent.0
  paths_sent ((Client to, m) ∷ rest) sent = absurd sent.0

  back_sent : (v : AVote) (s : Server) (p : Part) → AreSentTo these (paths_back v s p)
  back_sent v s p = paths_sent (paths_back v s p) (recalls_on_paths v s p)

  -- ## What the server leads

  voted_rows_of : (v : AVote) (txn : TxnNo) (uses : List Use) (rows : List Row) → AreOf these rows
      → AreOf these (rows_voted v txn uses rows)
  voted_rows_of the_vote.Yes txn uses rows h = mapped (row_locked txn uses) (used_same txn uses) rows h
  voted_rows_of (the_vote.Ended lease until now) txn uses rows h = h
  voted_rows_of (the_vote.Moved prefix to) txn uses rows h = h
  voted_rows_of (the_vote.PathsOut lease) txn uses rows h = h

  unlocked_rows_of : (txn : TxnNo) (rows : List Row) → AreOf these rows → AreOf these (rows_unlocked txn rows)
  unlocked_rows_of txn rows h = mapped (unlocked_row txn) (unlocked_same txn) rows h

  tells_of : (txn : TxnNo) (d : Decision) (out : List (ℕ × ℕ)) → AreSentTo these (tells txn d out)
  tells_of txn d [] = tt
  tells_of txn d (x ∷ xs) = (tt, tells_of txn d xs)

  ends_of : (out : List (ℕ × ℕ)) (by : Session) (e : LedEnd) → these by → AreSentTo these (ends_now out by e)
  ends_of [] by e p = (p, tt)
  ends_of (x ∷ xs) by e p = tt

  sent_more : (xs ys : List (Peer × Msg)) → AreSentTo these xs → AreSentTo these ys → AreSentTo these (xs ++ ys)
  sent_more = each_both (λ (x : Peer × Msg). IsSentTo these x)

  goes_of : (n : ServerNote) (l : Leading) (path : Option PathAnswer) (sent : List (Peer × Msg)) (s : Server) → these l.leader.session
      → AreSentTo these sent → AreOf these s.rows → IsOf (goes_on n l path sent s)
  goes_of n l path sent s p g h =
      let d : Decision = decision l.leader path in
      let out : List (ℕ × ℕ) = elsewhere s.me l in
      let told = tells l.leader.txn d out in
      let ends = ends_now out l.leader.session (end_of_decision d) in
      each_goes IsOf n l path sent s
      (record {
        rows = elim (keeps_for d out) as (λ b. AreOf these (cond b s.rows (rows_unlocked l.leader.txn s.rows))) [
          | true ↦ h
          | false ↦ unlocked_rows_of l.leader.txn s.rows h
        ];
        sends = sent_more sent (told ++ ends) g
            (sent_more told ends (tells_of l.leader.txn d out) (ends_of out l.leader.session (end_of_decision d) p));
      })
      (record { rows = h; sends = g })

  -- its parts vote, or are asked for
  pub record RoundOf (r : Round) : Type 0 where
    pub rows : AreOf these r.server.rows
    pub sends : AreSentTo these r.send

  rounds_of : (txn : TxnNo) (number : ℕ) (by : Session) (ps : List Part) (r : Round) → RoundOf r → RoundOf (rounds txn number by ps r)
  rounds_of txn number by [] r h = h
  rounds_of txn number by (p ∷ ps) r h = rounds_of txn (number + 1) by ps (part_round txn number by p r)
      (elim (is_mine r.server p.file) as (λ b. RoundOf (round_by txn number by p r b)) [
        | true ↦ record {
          rows = voted_rows_of (vote_here r.server by p) txn p.uses r.server.rows h.rows;
          sends = sent_more r.send (paths_back (vote_here r.server by p) r.server p) h.sends
              (back_sent (vote_here r.server by p) r.server p);
        }
        | false ↦ record {
          rows = h.rows;
          sends = sent_more r.send (to_server (server_of r.server.map p.file) (ask_for txn number by p) ∷ []) h.sends (tt, tt);
        }
      ])

  begins_of : (mode : Mode2) (by : Session) (m : ToLead) (s : Server) → these by → AreOf these s.rows → IsOf (begins mode by m s)
  begins_of mode by m s p h =
      let g : Round = round_of mode by m s in
      let all : RoundOf g = rounds_of (txn_of s) 0 by (parts_in mode m) (first_round s) (record { rows = h; sends = tt }) in
      goes_of (note.Prepares (txn_of s)) (record { leader = leader_with mode (txn_of s) by m g.votes; at = g.at }) (path_for mode m.op s)
      g.send g.server p all.sends all.rows

  vote_of : (m : Voted) (s : Server) → LedOf s → AreOf these s.rows → IsOf (vote_step m s)
  vote_of m s led h = each_vote IsOf m s (strange_of s h)
      (λ l p to f. record { rows = h; sends = (tt, tt) })
      (λ l v f. goes_of (note.Waits l.leader.txn) (with_vote m.number v l) (path_for l.leader.mode l.leader.op s) [] s (its l f) tt h)
      (λ l p f. let v : AVote = vote_here s l.leader.session p in
      goes_of (note.Waits l.leader.txn) (with_vote m.number v (asked_at m.number s.me l)) (path_for l.leader.mode l.leader.op s)
      (paths_back v s p) (after_own_vote l.leader.txn p v s) (its l f) (back_sent v s p) (voted_rows_of v l.leader.txn p.uses s.rows h))
    where
      its : (l : Leading) → leading_of m.txn s.leading ≡ Some l → these l.leader.session
      its l f = led.leading l (found (λ (x : Leading). same_txn x.leader.txn m.txn) s.leading l f).0

  left_of : (x : Ending) (left : List (ℕ × ℕ)) (s : Server) → these x.session → AreOf these s.rows → IsOf (done_with x left s)
  left_of x [] s p h = record { rows = unlocked_rows_of x.txn s.rows h; sends = (p, tt) }
  left_of x (y ∷ ys) s p h = record { rows = h; sends = tt }

  done_of : (m : ToldDone) (s : Server) → LedOf s → AreOf these s.rows → IsOf (done_step m s)
  done_of m s led h = each_done IsOf m s (strange_of s h)
      (λ x left f. left_of (without_done m.number x) left s (led.ending x (found (λ (y : Ending). same_txn y.txn m.txn) s.ending x f).0) h)

  lead_of : (by : Session) (m : ToLead) (s : Server) (x : Stepped) → LeadEnds by m s x → these by → AreOf these s.rows → IsOf x
  lead_of by m s x (unled l) p h = strange_of s h
  lead_of by m s x (put_off w l r) p h = record { rows = h; sends = (p, tt) }
  lead_of by m s x (path_wanted top dir l o) p h = record { rows = h; sends = (p, paths_sent (asks_up top dir s) (up_sent top dir s)) }
  lead_of by m s x (path_kept file txn l o) p h = record { rows = h; sends = (p, tt) }
  lead_of by m s x (txn_begun mode l b) p h = begins_of mode by m s p h

  -- ## Each message of a session

  message_of : (by : Session) (m : ClientMsg) (s : Server) → these by → AreOf these s.rows → IsOf (message_step by m s)
  message_of by (Ask items fresh) s p h = ask_of by items fresh s p h
  message_of by (Renew pairs) s p h = record { rows = renewed (end_of s) (numbers_in (pairs_here s pairs)) s.rows h; sends = (p, tt) }
  message_of by (Release pairs) s p h = record { rows = released (numbers_in (pairs_here s pairs)) s.rows h; sends = (p, tt) }
  message_of by (Ship entries) s p h = ship_of by entries s p h
  message_of by (Lead m) s p h = lead_of by m s (lead_step by m s) (lead_ends by m s) p h

  -- ## Reaps

  -- a reap changes no row
  reap_rows : (xs : List (List ℕ × Session)) (s : Server) (admitted : List Item) (blockers : List LeaseNo)
      → (reap_from xs s admitted blockers).server.rows ≡ s.rows
  reap_rows xs s admitted blockers = ap (λ (t : Server). t.rows) (reaps_leave xs s admitted blockers)

  turn_of : (xs : List (List ℕ × Session)) (s : Server) → AreOf these s.rows → IsOf (turn_over xs s)
  turn_of [] s h = record { rows = h; sends = tt }
  turn_of (x ∷ xs) s h =
      let all : Reaping = reap_from (x ∷ xs) s [] [] in
      let rows : AreOf these all.server.rows = subst (AreOf these) (sym (reap_rows (x ∷ xs) s [] [])) h in
      record {
        rows = rows;
        sends =
            recalled_for these (λ (x : Peer × Msg). IsSentTo these x) (λ s n h. h) all.server.rows all.blockers rows;
      }

  -- ## Moves

  move_of : (o : Option MoveError) (prefix : List ℕ) (to : ℕ) (s : Server) → AreOf these s.rows → IsOf (move_at o prefix to s)
  move_of (Some why) prefix to s h =
      refused IsOf s (λ n ms paths asking given noted sent. record { rows = h; sends = paths_sent ms sent }) why prefix to
  move_of None prefix to s h =
      let piece = piece_of s.map s.me prefix in
      record {
        rows = filtered (λ r. not (is_on_given prefix piece r)) s.rows h;
        sends = (filtered (is_on_given prefix piece) s.rows h, tt);
      }

  parcel_of : (b : Bool) (p : Parcel) (s : Server) → AreOf these p.rows → AreOf these s.rows → IsOf (parcel_at b p s)
  parcel_of true p s come h = record { rows = put_all p.rows s.rows come h; sends = tt }
  parcel_of false p s come h = strange_of s h

  -- ## Parts of what others lead

  -- rows of the same leases are of the same sessions
  one_of : (rows : List Row) (row : Row) → AreOf these rows → IsOneOf rows row → these row.session
  one_of rows row h q = subst these (sym (q.2).session) (h q.0 q.1)

  voted_of : (v : AVote) (from : ℕ) (m : ToPrepare) (s : Server) → AreOf these s.rows → IsOf (votes v from m s)
  voted_of v from m s h = record {
    rows = λ row i. one_of s.rows row h (voted_rows v from m s row i);
    sends = (tt, back_sent v s m.part);
  }

  prepare_of : (b : Bool) (v : AVote) (from : ℕ) (m : ToPrepare) (s : Server) → AreOf these s.rows
      → IsOf (cond b (strange s) (votes v from m s))
  prepare_of true v from m s h = strange_of s h
  prepare_of false v from m s h = voted_of v from m s h

  decide_of : (b : Bool) (from : ℕ) (m : ToDecide) (s : Server) → AreOf these s.rows → IsOf (cond b (applies from m s) (strange s))
  decide_of true from m s h = record { rows = λ row i. one_of s.rows row h (decided_rows from m s row i); sends = (tt, tt) }
  decide_of false from m s h = strange_of s h

  peer_of : (from : ℕ) (m : PeerMsg) (s : Server) → BringsOf these m → LedOf s → AreOf these s.rows → IsOf (peer_step from m s)
  peer_of from (OfParcel p) s come led h = parcel_of (fits_here p s) p s come h
  peer_of from (Prepare m) s come led h = prepare_of (is_prepared m.txn m.number s.prepared) (vote_here s m.session m.part) from m s h
  peer_of from (Vote m) s come led h = vote_of m s led h
  peer_of from (Decide m) s come led h = decide_of (is_prepared m.txn m.number s.prepared) from m s h
  peer_of from (Done m) s come led h = done_of m s led h
  peer_of from m s come led h =
      each_message IsOf s (λ n ms paths asking given noted sent. record { rows = h; sends = paths_sent ms sent }) from m tt

  -- ## An event

  event_of : (e : ServerEvent) (s : Server) → IsAsked e → LedOf s → AreOf these s.rows → IsOf (event_step e s)
  event_of (FromClient by m) s p led h = message_of by m s p h
  event_of (FromPeer from m) s come led h = peer_of from m s come led h
  event_of Turn s p led h = turn_of (lapsed_in s) s h
  event_of (Recall field) s p led h =
      record {
        rows = h;
        sends = recall_sent these (λ (x : Peer × Msg). IsSentTo these x) (λ s n h. h) (is_mine s (file_of field)) field s.rows h;
      }
  event_of (Move prefix to) s p led h = move_of (refusal_here prefix to s) prefix to s h

  -- a step keeps the rows of these sessions, and sends to these alone
  pub step_of : (s : Server) (now : ℕ) (e : ServerEvent) → IsAsked e → AreOf these s.rows → LedOf s → IsOf (step s now e)
  step_of s now e p h led = event_of e (begun now s) p (record { leading = led.leading; ending = led.ending })
      (filtered (is_live (begun now s).last s.skew) s.rows h)
