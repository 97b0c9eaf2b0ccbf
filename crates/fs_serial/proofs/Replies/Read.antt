-- A client with an empty log answers a read, which is admitted at once.
use Rattle.std.proofs.Common.{◌≡◌, ℕ, zero, suc, ◌+◌, ◌<◌, true, false, List, [], ◌∷◌, ◌++◌, ◌⊎◌, map, refl, sym, ap, ◌∙◌, subst, inl, inr, arith, append-nil}
use Rattle.std.proofs.lemmas.Bool.{ltb-true}
use Rattle.std.specs.Prelude.{Option, Some, None, is_some}
use Rattle.fs_ident.specs.In.{In}
use Rattle.fs_ident.specs.declared.actor.Peer.TheVariants.{Client as OfSession}
use Rattle.fs_ident.specs.declared.actor.Session.{Session}
use Rattle.fs_ident.specs.declared.kind.Kind.TheVariants.{Dir}
use Rattle.fs_ident.specs.declared.kind.Kind.{Kind}
use Rattle.fs_field.specs.declared.used.Use.{Use}
use Rattle.fs_model.specs.Namespace.{NodeMap, first_space}
use Rattle.fs_model.specs.Sound.{is_change}
use Rattle.fs_model.specs.Step.{step}
use Rattle.fs_model.specs.declared.op.Op.{Op}
use Rattle.fs_model.specs.declared.op.Op.TheVariants as op
use Rattle.fs_model.specs.declared.reply.Reply.{Reply}
use Rattle.fs_model.specs.declared.reply.Reply.TheVariants as reply
use Rattle.fs_model.proofs.SoundRuns.{step_reads}
use Rattle.fs_msg.specs.Journal.{item_step, may_admit}
use Rattle.fs_msg.specs.declared.answer.Answer.{Answer}
use Rattle.fs_msg.specs.declared.answer.Answer.TheVariants.{Granted, Renewed, Released, Shipped, Recall, Led}
use Rattle.fs_msg.specs.declared.client_msg.ClientMsg.{ClientMsg}
use Rattle.fs_msg.specs.declared.entry.Entry.{Entry}
use Rattle.fs_msg.specs.declared.item.Item.{Item}
use Rattle.fs_record.specs.Records.{nodes_of}
use Rattle.fs_record.specs.ValueOf.{value_of}
use Rattle.fs_client.specs.Acts.{entry_of, with_id}
use Rattle.fs_client.specs.Answers.{over_after}
use Rattle.fs_client.specs.Client.{with_read}
use Rattle.fs_client.specs.declared.state.Client.{Client}
use Rattle.fs_server.specs.Ships.{item_of}
use Rattle.fs_view.specs.Gone.{IsUnread}
use Rattle.fs_view.specs.View.{value_after_log}
use Rattle.fs_serial.specs.Fresh.{made, made_by, or_else, IsMade, NodesMade, FreshReserved, Reserved}
use Rattle.fs_serial.specs.Leases.{IsBacked}
use Rattle.fs_serial.specs.Numbers.{AreNumbered, all_items, is_session, items_by}
use Rattle.fs_serial.specs.Parts.{ServersHold, SessionHolds, SessionFits}
use Rattle.fs_serial.specs.Pending.{IsAnswer}
use Rattle.fs_serial.specs.Serial.{JournalSerial}
use Rattle.fs_serial.specs.Settled.{Lease, Settled, acknowledged, acknowledged_all, effects_in, with_over, told, settled, settled_now}
use Rattle.fs_serial.specs.Sight.{Sight}
use Rattle.fs_serial.specs.Steps.{IsReplied, IsReadNow}
use Rattle.fs_serial.proofs.Admission.Answered.{answered, no_reap}
use Rattle.fs_serial.proofs.ClientMessages.Carried.{GoesOnAs, exchange_still}
use Rattle.fs_serial.proofs.Lists.Journals.{items-own, made-append, made_before, made_one, or_none, serial_push, session_itself}
use Rattle.fs_serial.proofs.Replies.Knowing.{IsUseOf, use_from}
use Rattle.fs_serial.proofs.OtherSessions.Gone.{lost_in, lost_unread, made_more, telling_later, tells_later}
use Rattle.fs_serial.proofs.LedOperations.LedKept.{none_led}
use Rattle.fs_serial.proofs.Admission.Births.{named_makes}
use Rattle.fs_serial.proofs.Replies.Reply.{IsNext, IsOfLease, number_more, value_seen}
use Rattle.fs_serial.proofs.Replies.ReplyNext.{next}
use Rattle.fs_serial.proofs.ClientMessages.SessionStates.{SessionStateHolds, seen_at}
use Rattle.fs_serial.proofs.ClientMessages.Settling.{led_all, none_ends, settled_log, settled_next, settled_unled}

-- ## One number more

abbrev pub with_next : ℕ → Settled → Settled
with_next n d = record d { next = n }

one_next : (by : Session) (n : ℕ) (es : List Entry) (d : Settled) → acknowledged by es (with_next n d) ≡ with_next n (acknowledged by es d)
one_next by n [] d = refl
one_next by n (e ∷ es) d = refl

all_next : (by : Session) (n k : ℕ) (d : Settled) → acknowledged_all by k (with_next n d) ≡ with_next n (acknowledged_all by k d)
all_next by n zero d = refl
all_next by n (suc k) d = ap (acknowledged_all by k) (one_next by n d.log d) ∙ all_next by n k (acknowledged by d.log d)

pub settled_number : (by : Session) (n : ℕ) (answers : List Answer) (d : Settled) → d.led ≡ None → settled by answers (with_next n d) ≡ with_next n (settled by answers d)
settled_number by n [] d z = refl
settled_number by n (Granted grants fresh end ∷ rest) d z = settled_number by n rest (told by (Granted grants fresh end) d) z
settled_number by n (Shipped count end ∷ rest) d z = ap (λ x. settled by rest (with_over (over_after end d.over) x)) (all_next by n count d) ∙ settled_number by n rest (told by (Shipped count end) d) (led_all by count d ∙ z)
settled_number by n (Renewed rows end ∷ rest) d z = settled_number by n rest d z
settled_number by n (Released count end ∷ rest) d z = settled_number by n rest d z
settled_number by n (Led end ∷ rest) d z = ap (settled by rest) (none_ends by end (with_next n d) z) ∙ settled_number by n rest d z ∙ ap (λ x. with_next n (settled by rest x)) (sym (none_ends by end d z))
settled_number by n (Recall number ∷ rest) d z = settled_number by n rest d z

pub nothing_in : {X : Type 0} (xs : List X) → ((x : X) → In x xs → ⊥) → xs ≡ []
nothing_in [] h = refl
nothing_in (x ∷ xs) h = absurd (h x (inl refl))

-- a read makes no file
pub unmade_read : (o : Op) (r : Reply) (id : List ℕ) → is_change r ≡ false → is_some (made_by o r id) ≡ true → ⊥
unmade_read (op.Create dir name kind (Some new)) reply.Made id h m = absurd (cc)
unmade_read o r id h m = absurd (cc)

pub no_kind : (a : Option Kind) → (is_some a ≡ true → ⊥) → a ≡ None
no_kind None h = refl
no_kind (Some k) h = absurd (h refl)

-- ## What may join the journal

-- an item with that number of the session which, where the nodes are these, is the namespace's own, changes nothing and makes no file
pub record IsReadOf (m : NodeMap) (by : Session) (k : ℕ) (i : Item) : Type 0 where
  pub session : i.by ≡ OfSession by
  pub number : i.n ≡ k
  pub admitted : may_admit i.by i.op ≡ true
  pub gets : (item_step m i).reply ≡ i.reply
  pub stays : (item_step m i).nodes ≡ m
  pub makes : (id : List ℕ) → is_some (made_by i.op i.reply id) ≡ true → ⊥

-- the read as the client hands it out
abbrev pub item_read : Client → Op → Reply → Item
item_read c o r = record { by = OfSession c.session; n = c.next; op = with_id c.view c.last o r; reply = r }

-- such an item there always is: the root is asked for its kind
abbrev pub plain_read : NodeMap → Session → ℕ → Item
plain_read m by k = record { by = OfSession by; n = k; op = op.Kind []; reply = (step m by (op.Kind [])).reply }

pub plain_is_read : (m : NodeMap) (by : Session) (k : ℕ) → IsReadOf m by k (plain_read m by k)
plain_is_read m by k = record { session = refl; number = refl; admitted = refl; gets = refl; stays = refl; makes = λ id h. absurd (cc) }

-- ## Its session

module _ (skew greatest : ℕ) (s : Sight) (by : Session) (replied : List Item) (c : Client) (up : List ClientMsg) (down : List Answer) (h : SessionStateHolds skew greatest s by replied c up down) (unled : c.led ≡ None) where
  abbrev d : Settled
  d = seen_at by c down

  -- the client's next number, and that nothing is led, stay
  number : c.next ≡ d.next
  number = sym (settled_next by down (settled_now c) unled)

  none_then : d.led ≡ None
  none_then = settled_unled by down (settled_now c) unled

  none : c.log ≡ [] → d.log ≡ []
  none empty = nothing_in d.log (λ x i. subst (In x) empty (settled_log by down (settled_now c) x i))

  module _ (o : Op) (r : Reply) (a : IsReplied c down o r) where
    abbrev e : Entry
    e = entry_of o r c

    n : IsNext by d e
    n = next by c down o r a.reply h.client a.unled a.plain a.asked h.fits.fresh h.fits.entries

    -- ## What the client reads is the namespace's, where its leases have not ended

    module _ (t : IsReadNow skew greatest c r) where
      -- its leases have their rows, which tell the truth
      right : IsAnswer (value_of s.records by) e
      right = n.right (value_of s.records by) (λ l held u i same.
          let w : IsOfLease d.leases u = n.of_lease u i in
          let q : IsUseOf c.view c.last u = use_from c.view c.last o u (ap is_some a.reply) i in
          let it : l ≡ w.lease = h.fits.distinct l w.lease held w.held (same ∙ sym w.number) in
          let until : l.until ≡ q.lease.until = ap (λ (l : Lease). l.until) it ∙ w.until ∙ sym (ap (λ (u : Use). u.until) q.used) in
          let live : c.last < q.lease.until = ltb-true c.last q.lease.until q.live in
          let within = t.within in
          let b : IsBacked s.rows l.no l.until = h.holds.backed l held (omega arith) in
          elim (h.holds.telling l held b.row b.stands b.number) as (λ _. IsUnread (value_of s.records by) l.field ⊎ (value_of s.records by l.field ≡ value_seen by d l)) [
            | inl gone ↦ inl (lost_unread s.journal (value_of s.records by) l.field (lost_in s.records by s.journal l.field gone))
            | inr told ↦ inr (sym told ∙ sym (ap (λ es. value_after_log by l.field l.base (map (effects_in by) es)) (none t.empty)))
          ])
          -- a read names no identifier
          (λ id is. absurd (unmade_read e.op r id t.read (named_makes e.uses e.op r id n.entry.named is)))

      gets : (step (nodes_of s.records) by e.op).reply ≡ r
      gets = answered s.records by e n.entry right

      pub read_right : IsReadOf (nodes_of s.records) by c.next (item_of by e)
      read_right = record {
        session = refl;
        number = refl;
        admitted = no_reap e.op n.entry.plain;
        gets = gets;
        stays = step_reads (nodes_of s.records) by e.op (ap is_change gets ∙ t.read);
        makes = λ id. unmade_read e.op r id t.read;
      }

  -- ## Such an item joins the journal

  module _ (empty : c.log ≡ []) (i : Item) (is : IsReadOf (nodes_of s.records) by c.next i) where
    abbrev later : Sight
    later = record s { journal = s.journal ++ i ∷ [] }

    pub read_serial : ServersHold s → JournalSerial later.journal s.records
    read_serial servers = serial_push first_space s.journal (nodes_of s.records) (nodes_of s.records) i servers.serial is.admitted is.gets is.stays

    own : is_session by i.by ≡ true
    own = ap (is_session by) is.session ∙ session_itself by

    more : all_items by later.journal d.log ≡ all_items by s.journal d.log ++ i ∷ []
    more =
        ap (λ es. all_items by later.journal es) (none empty) ∙ append-nil (items_by by later.journal) ∙ items-own by s.journal i own
        ∙ sym (ap (λ is. is ++ i ∷ []) (ap (λ es. all_items by s.journal es) (none empty) ∙ append-nil (items_by by s.journal)))

    seen : seen_at by (with_read c) down ≡ with_next (d.next + 1) d
    seen = settled_number by (c.next + 1) down (settled_now c) unled ∙ ap (λ k. with_next k d) (ap (λ k. k + 1) number)

    holds : SessionHolds skew greatest later by (replied ++ i ∷ []) (with_next (d.next + 1) d)
    holds = record {
      backed = h.holds.backed;
      telling = telling_later s.rows s.records s.journal later.journal (made_more s.journal i) by d.leases h.holds.telling;
      pending = h.holds.pending;
      numbers = subst (λ is. AreNumbered 1 is (d.next + 1)) (sym more) (number_more 1 (all_items by s.journal d.log) d.next i h.holds.numbers (is.number ∙ number));
      replies = more ∙ ap (λ is. is ++ i ∷ []) h.holds.replies;
    }

    fits : SessionFits skew greatest later by (with_next (d.next + 1) d)
    fits = record {
      given = h.fits.given;
      distinct = h.fits.distinct;
      matching = h.fits.matching;
      fresh = h.fits.fresh;
      lives = λ l at file on. tells_later s.journal later.journal file l.base (made_one s.journal i file Dir) (h.fits.lives l at file on);
      held = h.fits.held;
      backed = h.fits.backed;
      entries = h.fits.entries;
      once = h.fits.once;
      refused = h.fits.refused;
      led = none_led skew greatest later by (with_next (d.next + 1) d) none_then;
    }

    goes_on : GoesOnAs c (with_read c) []
    goes_on = record {
      exchange = refl;
      led = refl;
      fewer = λ k i. record { kept = k; among = i; number = refl };
      log = sym (append-nil c.log);
      went = λ k i z. record { kept = k; among = i; pair = refl; leaving = z };
      goes = λ k i z. record { kept = k; among = i; number = refl; leaving = z };
    }

    pub session_read : SessionStateHolds skew greatest later by (replied ++ i ∷ []) (with_read c) up down
    session_read = record {
      holds = subst (SessionHolds skew greatest later by (replied ++ i ∷ [])) (sym seen) holds;
      fits = subst (SessionFits skew greatest later by) (sym seen) fits;
      client = record { session = h.client.session; viewed = h.client.viewed; pending = h.client.pending; distinct = h.client.distinct; pinned = h.client.pinned; held = h.client.held };
      exchange = exchange_still skew greatest s.given s.rows by c (with_read c) [] up down (settled_now c) (settled_now (with_read c)) d (seen_at by (with_read c) down) goes_on
          (λ l i. record { lease = l; held = i; number = refl })
          (λ l i. record { lease = l; held = subst (λ (x : Settled). In l x.leases) seen i; number = refl })
          (ap (λ (x : Settled). x.log) seen ∙ sym (append-nil d.log)) (ap (λ (x : Settled). x.over) seen) h.exchange;
    }

    -- ## Identifiers

    still_made : (id : List ℕ) → IsMade later.journal id → IsMade s.journal id
    still_made id m = elim (made_before s.journal i id m) as (λ _. IsMade s.journal id) [ inl p ↦ p | inr p ↦ absurd (is.makes id p) ]

    pub read_reserved : (reserved : Reserved) → FreshReserved reserved s.stored s.journal → FreshReserved reserved s.stored later.journal
    read_reserved reserved f = record {
      once = f.once;
      unmade = λ x n i j p m. f.unmade x n i j p (still_made j m);
      made_before = λ dir k j q le m. f.made_before dir k j q le (still_made j m);
      reserved_before = f.reserved_before;
    }

    pub read_made : NodesMade s.records s.journal → NodesMade s.records later.journal
    read_made nodes id kind p = made-append s.journal i id ∙ ap (or_else (made s.journal id)) (no_kind (made_by i.op i.reply id) (is.makes id)) ∙ or_none (made s.journal id) ∙ nodes id kind p
