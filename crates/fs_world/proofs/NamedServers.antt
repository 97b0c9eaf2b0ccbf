-- What a server has and sends: it knows of servers that there are, has rows of sessions that have joined, and its handles
-- can be told; what it sends goes to such sessions and to other servers, and can be read.
use Rattle.std.proofs.Common.{◌≡◌, ◌<◌, ℕ, Bool, true, false, List, [], ◌∷◌, ◌++◌, map, not, Option, Some, None, refl, sym, subst}
use Rattle.std.proofs.Common.{cond, arith}
use Rattle.std.specs.Prelude.{◌==◌}
use Rattle.std.specs.FinMap.{empty, get}
use Rattle.std.specs.List.{AllByRecursion, list_all}
use Rattle.fs_ident.specs.Ident.{child}
use Rattle.fs_ident.specs.declared.actor.LeaseNo.{LeaseNo}
use Rattle.fs_ident.specs.declared.actor.Session.{Session}
use Rattle.fs_ident.proofs.Booleans.{first, joined, second}
use Rattle.fs_field.specs.After.{Handles}
use Rattle.fs_field.specs.Field.{file_of}
use Rattle.fs_field.specs.Table.{borne_numbers, is_live}
use Rattle.fs_field.specs.declared.effect.Effect.TheVariants.{RemoveHandle}
use Rattle.fs_field.specs.declared.field.Field.{Field}
use Rattle.fs_field.specs.declared.field.Field.TheVariants.{Life}
use Rattle.fs_field.specs.declared.lease_kind.LeaseKind.{LeaseKind}
use Rattle.fs_field.specs.declared.lease_kind.LeaseKind.TheVariants.{Exclusive}
use Rattle.fs_map.specs.Lists.{piece_of}
use Rattle.fs_parcel.specs.Parcel.{not_mine}
use Rattle.fs_parcel.specs.declared.error.MoveError.{MoveError}
use Rattle.fs_parcel.specs.declared.error.MoveError.TheVariants as move
use Rattle.fs_record.specs.Effects.{effects_of, reap_effects, tells_its_effects}
use Rattle.fs_record.specs.Fresh.{fresh_number, is_directory, records_after_gift}
use Rattle.fs_record.specs.Records.{AreRecords, first_records, node_of, root_record}
use Rattle.fs_record.specs.ValueOf.{handles_of, own_of}
use Rattle.fs_record.specs.declared.led_end.LedEnd.TheVariants as led_end
use Rattle.fs_record.specs.declared.led_end.Why.{Why}
use Rattle.fs_record.specs.declared.parcel.Parcel.{Parcel}
use Rattle.fs_record.proofs.AllApplied.{after_all_kept}
use Rattle.fs_record.proofs.Coming.{left_kept, with_kept}
use Rattle.fs_record.proofs.Kept.{given_kept, kept_empty, kept_insert, root_kept}
use Rattle.fs_record.proofs.Returning.{given_each}
use Rattle.fs_rows.specs.Moving.{is_on_given}
use Rattle.fs_model.specs.Asking.{home_of}
use Rattle.fs_msg.specs.Readable.{is_readable, is_readable_entry, is_readable_grant}
use Rattle.fs_msg.specs.declared.answer.Grant.{Grant}
use Rattle.fs_msg.specs.declared.client_msg.ClientMsg.{ClientMsg}
use Rattle.fs_msg.specs.declared.client_msg.ClientMsg.TheVariants.{Ask, Renew, Release, Ship, Lead}
use Rattle.fs_msg.specs.declared.end.End.{End}
use Rattle.fs_msg.specs.declared.end.End.TheVariants as end
use Rattle.fs_msg.specs.declared.entry.Entry.{Entry}
use Rattle.fs_msg.specs.declared.item.Item.{Item}
use Rattle.fs_msg.specs.declared.lead.Lead.{Lead as ToLead}
use Rattle.fs_msg.specs.declared.msg.Msg.TheVariants as msg
use Rattle.fs_msg.specs.declared.peer_msg.PeerMsg.{PeerMsg}
use Rattle.fs_msg.specs.declared.peer_msg.PeerMsg.TheVariants.{Parcel as OfParcel, PathAsk, PathGrant, PathNo, PathRecall, PathRelease}
use Rattle.fs_msg.specs.declared.peer_msg.PeerMsg.TheVariants.{Prepare, Vote, Decide, Done}
use Rattle.fs_server.proofs.Leading.{LeadEnds, begun as begins_to_lead, kept, lead_ends, put_off, refusal_is, unled, wanted}
use Rattle.fs_server.proofs.OneByOne.{AskEnds, ShipEnds, each_entry, each_item, each_lapsed, elsewhere, kept_off, misplaced, refused, waits}
use Rattle.fs_server.specs.Asks.{Asking, ask_fresh, ask_from, ask_step, asked_in, fresh_for, fresh_in, fresh_of, grant_of, kind_for}
use Rattle.fs_server.specs.Asks.{with_lease}
use Rattle.fs_server.specs.Leads.{lead_refusal, lead_step, wants_path}
use Rattle.fs_server.specs.Moves.{fits_here, move_at, parcel_at, peer_step}
use Rattle.fs_server.specs.Pairs.{numbers_in, pairs_end, pairs_here, released_rows, renewed_rows}
use Rattle.fs_server.specs.Reaps.{Reaping, lapsed_in, reap_from, turn_over}
use Rattle.fs_server.specs.Server.{Stepped, begun, end_of, first_server, is_mine, moved, strange}
use Rattle.fs_server.specs.Ships.{Shipping, ship_from, ship_step, shipped}
use Rattle.fs_server.specs.Step.{event_step, message_step, step}
use Rattle.fs_server.specs.declared.event.ServerEvent.{ServerEvent}
use Rattle.fs_server.specs.declared.event.ServerEvent.TheVariants.{FromClient, FromPeer, Move, Recall, Turn}
use Rattle.fs_server.specs.declared.state.Server.{Server as Core}
use Rattle.fs_serial.specs.PathLaws.{IsPathMessage}
use Rattle.fs_serial.specs.Places.{MessageNames}
use Rattle.fs_serial.proofs.Moves.PathSteps.{refusal_here}
use Rattle.fs_wire.specs.Readable.{is_readable_session}
use Rattle.fs_world.specs.Linked.{HasJoined, IsCarried, IsNamedEnd, IsNamedLed, IsParcelOf, IsServed}
pub use Rattle.fs_world.proofs.NamedSends.{AreSent, IsBrought, IsSent, IsStepped, in_range, sent_readable}
use Rattle.fs_world.proofs.NamedPaths.{path_goes, stays_goes, up_sent}
use Rattle.fs_world.proofs.NamedSends.{either_goes, differ, strange_goes, with_others}
use Rattle.fs_world.proofs.NamedTransactions.{begin_goes, decide_goes, prepare_goes, told_goes, vote_goes}
use Rattle.fs_world.specs.Served.{SessionStates}
use Rattle.fs_world.proofs.NamedMaps.{moved_named, named_first, named_give, named_take, why_named}
use Rattle.fs_world.proofs.OpenHandles.{AddsOpen, effects_open, first_open, open_after_all, open_after_gift, open_given, open_left}
use Rattle.fs_world.proofs.OpenHandles.{open_with, value_open}
use Rattle.fs_world.proofs.SeenRows.{filtered, put, put_all, recall_sent, recalled_at, recalled_for, released, renewed}

-- ## Steps

first_kept : (first : Bool) → AreRecords (first_records first)
first_kept true = kept_insert empty [] root_record kept_empty root_kept
first_kept false = kept_empty

pub first_served_core : (servers : ℕ) (sessions : SessionStates) (k skew term : ℕ) → 0 < servers
    → IsServed servers sessions k (first_server k skew term)
first_served_core servers sessions k skew term some = record {
  me = refl;
  peers = (λ l i. absurd i, λ g i. absurd i);
  named = named_first servers some;
  records = first_kept (k == 0);
  handles = first_open (k == 0);
  rows = λ row i. absurd i;
  leading = λ l i. absurd i;
  ending = λ x i. absurd i;
}

module _ (servers : ℕ) (sessions : SessionStates) (k : ℕ) (some : k < servers) (readable : (s : Session) → HasJoined sessions s
    → is_readable_session s ≡ true) where
  abbrev Fine : Core → Type 0
  Fine s = IsServed servers sessions k s

  abbrev Goes : Stepped → Type 0
  Goes x = IsStepped servers sessions k x

  begun_fine : (now : ℕ) (s : Core) → Fine s → Fine (begun now s)
  begun_fine now s h = record {
    me = h.me;
    peers = h.peers;
    named = h.named;
    records = h.records;
    handles = h.handles;
    rows =
        filtered (HasJoined sessions) (is_live (begun now s).last s.skew) s.rows h.rows;
    leading = h.leading;
    ending = h.ending;
  }

  moved_end : (s : Core) (id : List ℕ) → Fine s → IsNamedEnd servers (moved s id)
  moved_end s id h = moved_named servers s id (omega (arith, some)) h.named

  -- ## A question

  lease_fine : (by : Session) (field : Field) (kind : LeaseKind) (promise : Option Bool) (s : Core) → HasJoined sessions by → Fine s
      → Fine (with_lease by field kind promise s)
  lease_fine by field kind promise s of h = record {
    me = h.me;
    peers = h.peers;
    named = h.named;
    records = h.records;
    handles = h.handles;
    rows = put (HasJoined sessions) _ s.rows of h.rows;
    leading = h.leading;
    ending = h.ending;
  }

  -- the server, and the answer so far
  record IsAsking (a : Asking) : Type 0 where
    server : Fine a.server
    grants : list_all is_readable_grant a.grants ≡ true
    end : IsNamedEnd servers a.end

  either_asking : (b : Bool) (x y : Asking) → IsAsking x → IsAsking y → IsAsking (cond b x y)
  either_asking true x y h g = h
  either_asking false x y h g = g

  one_grant : (gs : List Grant) (g : Grant) → list_all is_readable_grant gs ≡ true → is_readable_grant g ≡ true
      → list_all is_readable_grant (gs ++ g ∷ []) ≡ true
  one_grant [] g h own = joined _ _ own refl
  one_grant (x ∷ gs) g h own = joined _ _ (first _ _ h) (one_grant gs g (second _ _ h) own)

  ask_end : (by : Session) (x : Field × LeaseKind) (s : Core) (at : End) → AskEnds by x s at → Fine s → IsNamedEnd servers at
  ask_end by x s at (waits number mine e) h = tt
  ask_end by x s at (kept_off txn mine e) h = tt
  ask_end by x s at (elsewhere mine) h = moved_end s (file_of x.0) h

  asked_fine : (by : Session) → HasJoined sessions by → (items : List (Field × LeaseKind)) (s : Core) (grants : List Grant) → Fine s
      → list_all is_readable_grant grants ≡ true → IsAsking (ask_from by items s grants)
  asked_fine by of = each_item by (λ items s grants a. Fine s → list_all is_readable_grant grants ≡ true → IsAsking a)
      (λ s grants h g. record { server = h; grants = g; end = tt })
      (λ x xs s grants promise a mine e more h g.
      let kind = kind_for x.0 x.1 in
      more (lease_fine by x.0 kind promise s of h) (one_grant grants (grant_of by x.0 kind s) g (value_open s.records by x.0 h.handles)))
      (λ x xs s grants at why h g. record { server = h; grants = g; end = ask_end by x s at why h })

  fresh_fine : (by : Session) (dir borne : List ℕ) (o : Option ℕ) (a : Asking) → fresh_number a.server.records dir borne ≡ o
      → HasJoined sessions by → IsAsking a → IsAsking (fresh_of by dir o a)
  fresh_fine by dir borne None a is of h = record { server = h.server; grants = h.grants; end = tt }
  fresh_fine by dir borne (Some n) a is of h =
      let lent = lease_fine by (Life (child dir n)) Exclusive None a.server of h.server in
      record {
        server = record {
          me = lent.me;
          peers = lent.peers;
          named = lent.named;
          records = subst (λ (o : Option ℕ). AreRecords (records_after_gift a.server.records dir o)) is
              (given_kept a.server.records dir borne h.server.records);
          handles =
              open_after_gift a.server.records dir n h.server.handles;
          rows = lent.rows;
          leading = lent.leading;
          ending = lent.ending;
        };
        grants = one_grant a.grants (grant_of by (Life (child dir n)) Exclusive a.server) h.grants
            (value_open a.server.records by (Life (child dir n)) h.server.handles);
        end = tt;
      }

  there_fine : (by : Session) (dir : List ℕ) (b : Bool) (a : Asking) → HasJoined sessions by → IsAsking a → IsAsking (fresh_in by dir b a)
  there_fine by dir true a of h =
      let borne = borne_numbers dir a.server.rows in
      fresh_fine by dir borne (fresh_number a.server.records dir borne) a refl of h
  there_fine by dir false a of h = h

  wanted_fine : (by : Session) (dir : Option (List ℕ)) (a : Asking) → HasJoined sessions by → IsAsking a → IsAsking (fresh_for by dir a)
  wanted_fine by None a of h = h
  wanted_fine by (Some dir) a of h =
      either_asking (is_mine a.server dir) (fresh_in by dir (is_directory a.server.records dir) a) (record a { end = moved a.server dir })
      (there_fine by dir (is_directory a.server.records dir) a of h) (record {
        server = h.server;
        grants = h.grants;
        end =
            moved_end a.server dir h.server;
      })

  all_asked_fine : (by : Session) (dir : Option (List ℕ)) (e : End) (a : Asking) → HasJoined sessions by → IsAsking a
      → IsAsking (ask_fresh by dir e a)
  all_asked_fine by dir end.All a of h = wanted_fine by dir a of h
  all_asked_fine by dir e a of h = h

  ask_goes : (by : Session) (items : List (Field × LeaseKind)) (dir : Option (List ℕ)) (s : Core) → HasJoined sessions by → Fine s
      → Goes (ask_step by items dir s)
  ask_goes by items dir s of h =
      let a = ask_from by items s [] in
      let all : IsAsking (asked_in by items dir s) = all_asked_fine by dir a.end a of (asked_fine by of items s [] h refl) in
      record {
        server = all.server;
        sends = (
          (of, all.end, all.grants),
          recalled_at (HasJoined sessions) (IsSent servers sessions k) (λ s n h. (h, tt, refl))
              (asked_in by items dir s).end (asked_in by items dir s).server.rows all.server.rows,
        );
      }

  -- ## Renewals and releases

  pairs_fine : (s : Core) (pairs : List (List ℕ × LeaseNo)) → Fine s → IsNamedEnd servers (pairs_end s pairs)
  pairs_fine s [] h = tt
  pairs_fine s (p ∷ ps) h = either (is_mine s p.0) (pairs_fine s ps h)
    where
      either : (b : Bool) → IsNamedEnd servers (pairs_end s ps) → IsNamedEnd servers (cond b (pairs_end s ps) (moved s p.0))
      either true rest = rest
      either false rest = moved_end s p.0 h

  -- ## A log that is handed in

  -- the server, and the answer so far
  record IsShipping (x : Shipping) : Type 0 where
    server : Fine x.server
    end : IsNamedEnd servers x.end

  ship_end : (by : Session) (e : Entry) (es : List Entry) (s : Core) (at : End) (gaps : List ℕ) → ShipEnds by e es s at gaps → Fine s
      → IsNamedEnd servers at
  ship_end by e es s at gaps (refused u mine gone) h = tt
  ship_end by e es s at gaps (misplaced mine) h = moved_end s (home_of e.op) h

  entries_fine : (by : Session) → HasJoined sessions by → (es : List Entry) (s : Core) (admitted : List Item)
      → list_all is_readable_entry es ≡ true → Fine s → IsShipping (ship_from by es s admitted)
  entries_fine by of = each_entry by (λ es s admitted x. list_all is_readable_entry es ≡ true → Fine s → IsShipping x)
      (λ s admitted r h. record { server = h; end = tt })
      (λ e es s admitted x mine here more r h. more (second _ _ r)
      (record {
        me = h.me;
        peers = h.peers;
        named = h.named;
        records = after_all_kept s.records (effects_of by e.op e.reply) h.records;
        handles = open_after_all s.records (effects_of by e.op e.reply) (effects_open by e.op e.reply (readable by of) (first _ _ r))
            h.handles;
        rows = h.rows;
        leading = h.leading;
        ending = h.ending;
      }))
      (λ e es s admitted at gaps why r h. record { server = h; end = ship_end by e es s at gaps why h })

  ship_goes : (by : Session) (entries : List Entry) (s : Core) → HasJoined sessions by → list_all is_readable_entry entries ≡ true → Fine s
      → Goes (ship_step by entries s)
  ship_goes by entries s of r h =
      let all : IsShipping (ship_from by entries s []) = entries_fine by of entries s [] r h in
      either_goes servers sessions k (list_all (λ (e : Entry). tells_its_effects e.op) entries) (shipped by (ship_from by entries s []))
      (strange s) (record { server = all.server; sends = ((of, all.end, refl), tt) }) (strange_goes servers sessions k s h)

  -- ## An operation that is led

  why_fine : (m : ToLead) (s : Core) (w : Why) → lead_refusal s m ≡ Some w → Fine s → IsNamedLed servers (led_end.Again w)
  why_fine m s w e h =
      subst (λ v. IsNamedLed servers (led_end.Again v)) (sym (refusal_is s m w e).1)
      (why_named servers s.map (home_of m.op) (omega (arith, some)) h.named)

  -- a path is wanted
  wants_goes : (by : Session) (top dir : List ℕ) (s : Core) → HasJoined sessions by → Fine s → Goes (wants_path by top dir s)
  wants_goes by top dir s of h = record {
    server = record {
      me = h.me;
      peers = h.peers;
      named = h.named;
      records = h.records;
      handles = h.handles;
      rows = h.rows;
      leading = h.leading;
      ending = h.ending;
    };
    sends = ((of, tt, refl), up_sent servers sessions k some s h top dir);
  }

  lead_goes : (by : Session) (m : ToLead) (s : Core) (x : Stepped) → LeadEnds by m s x → HasJoined sessions by → Fine s → Goes x
  lead_goes by m s x (unled l) of h = strange_goes servers sessions k s h
  lead_goes by m s x (put_off w l r) of h = record { server = h; sends = ((of, why_fine m s w r h, refl), tt) }
  lead_goes by m s x (wanted top dir l o) of h = wants_goes by top dir s of h
  lead_goes by m s x (kept file txn l o) of h = record { server = h; sends = ((of, tt, refl), tt) }
  lead_goes by m s x (begins_to_lead mode l b) of h = begin_goes servers sessions k some mode by m s of h

  message_goes : (by : Session) (m : ClientMsg) (s : Core) → HasJoined sessions by → is_readable (msg.Client m) ≡ true → Fine s
      → Goes (message_step by m s)
  message_goes by (Ask items fresh) s of r h = ask_goes by items fresh s of h
  message_goes by (Renew pairs) s of r h = record {
    server = with_others servers sessions k s (renewed_rows (end_of s) (numbers_in (pairs_here s pairs)) s.rows) h
        (renewed (HasJoined sessions) (end_of s) (numbers_in (pairs_here s pairs)) s.rows h.rows);
    sends = ((of, pairs_fine s pairs h, refl), tt);
  }
  message_goes by (Release pairs) s of r h = record {
    server = with_others servers sessions k s (released_rows (numbers_in (pairs_here s pairs)) s.rows) h
        (released (HasJoined sessions) (numbers_in (pairs_here s pairs)) s.rows h.rows);
    sends = ((of, pairs_fine s pairs h, refl), tt);
  }
  message_goes by (Ship entries) s of r h = ship_goes by entries s of r h
  message_goes by (Lead m) s of r h = lead_goes by m s (lead_step by m s) (lead_ends by m s) of h

  -- ## Reaps

  -- a reap adds no handle
  reap_open : (file : List ℕ) (by : Session) (hs : Handles) → AllByRecursion AddsOpen (map (λ h. RemoveHandle file by h.0) hs)
  reap_open file by [] = tt
  reap_open file by (h ∷ hs) = (tt, reap_open file by hs)

  reaped_fine : (xs : List (List ℕ × Session)) (s : Core) (admitted : List Item) (blockers : List LeaseNo) → Fine s
      → Fine (reap_from xs s admitted blockers).server
  reaped_fine = each_lapsed (λ xs s admitted blockers r. Fine s → Fine r.server)
      (λ s admitted blockers h. h)
      (λ f x xs s admitted blockers r e more h. more
      (record {
        me = h.me;
        peers = h.peers;
        named = h.named;
        records = after_all_kept s.records (reap_effects s.records f x) h.records;
        handles = open_after_all s.records (reap_effects s.records f x)
            (reap_open f x (own_of x (handles_of (node_of (get s.records f))))) h.handles;
        rows = h.rows;
        leading = h.leading;
        ending =
            h.ending;
      }))
      (λ f x xs s admitted blockers r number e more h. more h)

  turn_goes : (xs : List (List ℕ × Session)) (s : Core) → Fine s → Goes (turn_over xs s)
  turn_goes [] s h = record { server = h; sends = tt }
  turn_goes (x ∷ xs) s h =
      let all : Reaping = reap_from (x ∷ xs) s [] [] in
      let fine : Fine all.server = reaped_fine (x ∷ xs) s [] [] h in
      record {
        server = fine;
        sends =
            recalled_for (HasJoined sessions) (IsSent servers sessions k) (λ s n h. (h, tt, refl)) all.server.rows all.blockers fine.rows;
      }

  -- ## Moves

  -- it moves to another server
  not_same : (mine here same : Bool) (e : Option (List ℕ × ℕ)) (later : Option MoveError)
      → cond (not mine) (Some (not_mine e)) (cond (not here) (Some move.NoFile) (cond same (Some move.Same) later)) ≡ None → same ≡ false
  not_same false here same e later h = absurd (cc)
  not_same true false same e later h = absurd (cc)
  not_same true true true e later h = absurd (cc)
  not_same true true false e later h = refl

  moves_goes : (prefix : List ℕ) (to : ℕ) (s : Core) (o : Option MoveError) → refusal_here prefix to s ≡ o
      → to < servers → Fine s → Goes (move_at o prefix to s)
  moves_goes prefix to s (Some why) e few h = stays_goes servers sessions k some s h why prefix to
  moves_goes prefix to s None e few h =
      let piece = piece_of s.map s.me prefix in
      record {
        server = record {
          me = h.me;
          peers = h.peers;
          named = named_give servers s.map s.me prefix to few h.named;
          records = left_kept prefix piece s.records h.records;
          handles = open_left prefix piece s.records h.handles;
          rows = filtered (HasJoined sessions) (λ r. not (is_on_given prefix piece r)) s.rows h.rows;
          leading = h.leading;
          ending = h.ending;
        };
        sends = (
          record {
            from = some;
            to = few;
            apart = differ servers sessions k to s h (not_same _ _ (to == s.me) _ _ e);
            brings = record {
              each = given_each prefix piece s.records h.records;
              handles = open_given prefix piece s.records h.handles;
              rows = filtered (HasJoined sessions) (is_on_given prefix piece) s.rows h.rows;
            };
          },
          tt,
        );
      }

  -- ## A parcel comes

  parcel_goes : (b : Bool) (p : Parcel) (s : Core) → IsParcelOf sessions p → Fine s → Goes (parcel_at b p s)
  parcel_goes true p s of h = record {
    server = record {
      me = h.me;
      peers = h.peers;
      named = named_take servers s.map s.me p.prefix p.piece.given (subst (λ (n : ℕ). n < servers) (sym h.me) some) h.named;
      records = with_kept s.records p.records h.records of.each;
      handles = open_with p.records s.records of.handles h.handles;
      rows = put_all (HasJoined sessions) p.rows s.rows of.rows h.rows;
      leading = h.leading;
      ending = h.ending;
    };
    sends = tt;
  }
  parcel_goes false p s of h = strange_goes servers sessions k s h

  its_path_goes : (from : ℕ) (m : PeerMsg) (s : Core) → IsCarried servers sessions (record { from = from; to = k; message = m })
      → MessageNames servers m → IsPathMessage m → Fine s → Goes (peer_step from m s)
  its_path_goes from m s of names is h = path_goes servers sessions k some s h from m (of.from, λ e. of.apart (sym e)) names is

  peer_goes : (from : ℕ) (m : PeerMsg) (s : Core) → IsCarried servers sessions (record { from = from; to = k; message = m }) → Fine s
      → Goes (peer_step from m s)
  peer_goes from (OfParcel p) s of h = parcel_goes (fits_here p s) p s of.brings h
  peer_goes from (Prepare m) s of h = prepare_goes servers sessions k some from m s of.from (λ e. of.apart (sym e)) h
  peer_goes from (Vote m) s of h = vote_goes servers sessions k some m s of.brings h
  peer_goes from (Decide m) s of h = decide_goes servers sessions k some from m s of.from (λ e. of.apart (sym e)) of.brings h
  peer_goes from (Done m) s of h = told_goes servers sessions k some m s h
  peer_goes from (PathAsk file dir) s of h = its_path_goes from (PathAsk file dir) s of tt tt h
  peer_goes from (PathGrant number file path) s of h = its_path_goes from (PathGrant number file path) s of tt tt h
  peer_goes from (PathNo file w) s of h = its_path_goes from (PathNo file w) s of of.brings tt h
  peer_goes from (PathRecall number) s of h = its_path_goes from (PathRecall number) s of tt tt h
  peer_goes from (PathRelease number) s of h = its_path_goes from (PathRelease number) s of tt tt h

  -- ## An event

  event_goes : (e : ServerEvent) (s : Core) → IsBrought servers sessions k e → Fine s → Goes (event_step e s)
  event_goes (FromClient by m) s b h = message_goes by m s b.0 b.1 h
  event_goes (FromPeer from m) s b h = peer_goes from m s b h
  event_goes Turn s b h = turn_goes (lapsed_in s) s h
  event_goes (Recall field) s b h = record {
    server = h;
    sends = recall_sent (HasJoined sessions) (IsSent servers sessions k) (λ s n h. (h, tt, refl)) (is_mine s (file_of field)) field
        s.rows h.rows;
  }
  event_goes (Move prefix to) s b h = moves_goes prefix to s (refusal_here prefix to s) refl b h

  pub step_goes : (s : Core) (now : ℕ) (e : ServerEvent) → IsBrought servers sessions k e → Fine s → Goes (step s now e)
  step_goes s now e b h = event_goes e (begun now s) b (begun_fine now s h)
