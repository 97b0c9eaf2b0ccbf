-- What a client makes of an operation.
use Rattle.std.proofs.Common.{◌≡◌, ℕ, ◌+◌, ◌≤◌, ◌==◌, true, false, List, [], ◌∷◌, cond, refl, sym, ap, ◌∙◌, subst, ◌⊎◌, inl, inr}
use Rattle.std.specs.Prelude.{Option, Some, None, is_some, option_map}
use Rattle.fs_ident.specs.declared.actor.Peer.TheVariants.{Client as OfSession}
use Rattle.fs_ident.specs.declared.actor.Session.{Session}
use Rattle.fs_ident.proofs.Options.{not_some}
use Rattle.fs_field.specs.declared.asked.Need.{Need}
use Rattle.fs_field.specs.declared.asked.Need.TheVariants as need
use Rattle.fs_ident.specs.declared.kind.Kind.{Kind}
use Rattle.fs_model.specs.Asking.{home_of}
use Rattle.fs_model.specs.Sound.{IsSound, is_change}
use Rattle.fs_model.specs.declared.op.Op.{Op}
use Rattle.fs_model.specs.declared.reply.Reply.{Reply}
use Rattle.fs_msg.specs.declared.act.Act.{Act}
use Rattle.fs_msg.specs.declared.act.Act.TheVariants as act
use Rattle.fs_msg.specs.declared.act.Busy.TheVariants as busy
use Rattle.fs_msg.specs.declared.answer.Answer.{Answer}
use Rattle.fs_msg.specs.declared.client_msg.ClientMsg.{ClientMsg}
use Rattle.fs_msg.specs.declared.item.Item.{Item}
use Rattle.fs_record.specs.Effects.{tells_its_effects}
use Rattle.fs_record.specs.Records.{nodes_of}
use Rattle.fs_server.specs.Ships.{item_of}
use Rattle.fs_client.specs.Acts.{act_on, answer_with, answers, ask_for, asks, entry_of, fresh_asked, full_one, hinted, items_of, leads, led_with, need_file, needs_at, reads, replies, stays, unless_led, with_id, worth}
use Rattle.fs_client.specs.Client.{changed}
use Rattle.fs_client.specs.Led.{is_led, moved_known}
use Rattle.fs_client.specs.declared.led.Led.{Led}
use Rattle.fs_client.specs.declared.plan.Plan.{Plan}
use Rattle.fs_client.specs.declared.state.Client.{Client}
use Rattle.fs_view.specs.View.{given_by, known_by, missing_in, reply_in}
use Rattle.fs_serial.specs.Fresh.{FreshReserved, reserved_by}
use Rattle.fs_serial.specs.Numbers.{is_server, is_session, items_by}
use Rattle.fs_serial.specs.Parts.{ServersHold, ServersFit}
use Rattle.fs_serial.specs.Settled.{Settled, settled_now}
use Rattle.fs_serial.specs.Sight.{Sight}
use Rattle.fs_serial.specs.Steps.{IsReplied}
use Rattle.fs_serial.specs.World.{is_called, message_in, pushed, told_by}
use Rattle.fs_serial.proofs.Replies.Answering.{AnswerEnds, answer_ends, as_entry, as_led, as_move, as_read, not_told, put_off}
use Rattle.fs_serial.proofs.OneServer.ClientSteps.{IsMoved, with_journal}
use Rattle.fs_serial.proofs.Lists.Journals.{items-other, reaps-still}
use Rattle.fs_serial.proofs.LedOperations.LeadSession.{leads_reserves, session_leads}
use Rattle.fs_serial.proofs.Replies.MoveReads.{move_read}
use Rattle.fs_serial.proofs.Replies.PlainAsks.{asks_given, some_given}
use Rattle.fs_serial.proofs.Replies.Read.{IsReadOf, item_read, read_made, read_reserved, read_right, read_serial, session_read, settled_number}
use Rattle.fs_serial.proofs.Replies.ReplySession.{reply_reserves, session_reply}
use Rattle.fs_serial.proofs.Grants.Claims.{AreUnborn, NoneAnew, none_anew}
use Rattle.fs_serial.proofs.OtherSessions.Gone.{MakeAnew}
use Rattle.fs_serial.proofs.ClientMessages.SessionStates.{SessionStateHolds, few, seen_at}
use Rattle.fs_serial.proofs.ClientMessages.Sends.{AreOfGivenKinds, session_asks}

-- what an item more does to the servers' parts
pub record ServersMoved (s t : Sight) : Type 0 where
  pub holds : ServersHold s → ServersHold t
  pub fits : ServersFit s → ServersFit t
  pub reserved : (clients : Session → Settled) → FreshReserved (reserved_by clients) s.stored s.journal → FreshReserved (reserved_by clients) t.stored t.journal

-- what comes of a plan of the client, which has begun
pub record IsPlanned {N : Type 0} (skew greatest : ℕ) (s : Sight) (by : Session) (replied : List Item) (c : Client) (up : List ClientMsg) (down rest : List Answer) (p : Plan N) : Type 0 where
  pub now : p.ready.now ≡ c.last
  pub moved : IsMoved skew greatest s (with_journal (pushed p.out.admitted s.journal) s) by replied c down (told_by by p.ready.change p.out.admitted) (record { client = changed p.ready.change c; up = pushed (message_in p.out.send) up; down = rest })
  pub servers : ServersMoved s (with_journal (pushed p.out.admitted s.journal) s)
  pub others : (x : Session) → (by.0 == x.0) ≡ false → items_by x (pushed p.out.admitted s.journal) ≡ items_by x s.journal

pub servers_stay : (s : Sight) → ServersMoved s s
servers_stay s = record { holds = λ h. h; fits = λ f. f; reserved = λ clients f. f }

-- ## What joins the journal

-- another item joins the journal than the plan admits
abbrev pub with_items : {N : Type 0} → (Item → Item) → Plan N → Plan N
with_items f p = record { ready = p.ready; out = record { note = p.out.note; send = p.out.send; admitted = option_map f p.out.admitted } }

same_item : (o : Option Item) → option_map (λ i. i) o ≡ o
same_item None = refl
same_item (Some i) = refl

pub same_items : {N : Type 0} (p : Plan N) → with_items (λ i. i) p ≡ p
same_items {N} p = ap (λ (o : Option Item). let q : Plan N = record { ready = p.ready; out = record { note = p.out.note; send = p.out.send; admitted = o } } in q) (same_item p.out.admitted)

-- what the client makes of the operation, where nothing is led; in place of a read this item may join the journal
module _ (skew greatest : ℕ) (s : Sight) (by : Session) (replied : List Item) (c : Client) (up : List ClientMsg) (down : List Answer) (o : Op) (called : is_called o ≡ true) (h : SessionStateHolds skew greatest s by replied c up down) where
  -- it reads at once
  abbrev pub ReadsAt : Reply → Type 0
  ReadsAt r = (c.led ≡ None) × (reply_in c.view c.last o ≡ Some r) × (c.log ≡ []) × ((is_change r ≡ false × tells_its_effects o ≡ true) ⊎ (is_led o r ≡ false × tells_its_effects o ≡ false))

  plainly : (r : Reply) → tells_its_effects o ≡ true → c.led ≡ None → reply_in c.view c.last o ≡ Some r → IsReplied c down o r
  plainly r plain unled e = record { plain = plain; asked = called; reply = e; few = few skew greatest s by replied c up down h; unled = unled }

  item_is : (r : Reply) → item_of by (entry_of o r c) ≡ item_read c o r
  item_is r = ap (λ (x : Session). let y : Item = record { by = OfSession x; n = c.next; op = with_id c.view c.last o r; reply = r } in y) (sym h.client.session)

  -- what it reads while its leases last is the namespace's
  pub reads_right : IsSound (nodes_of s.records) → greatest ≤ c.last + skew → (r : Reply) → ReadsAt r → IsReadOf (nodes_of s.records) by c.next (item_read c o r)
  reads_right sound within r a = elim a.3 as (λ _. IsReadOf (nodes_of s.records) by c.next (item_read c o r)) [
    | inl p ↦ subst (IsReadOf (nodes_of s.records) by c.next) (item_is r)
        (read_right skew greatest s by replied c up down h a.0 o r (plainly r p.1 a.0 a.1) (record { read = p.0; empty = a.2; within = within }))
    | inr p ↦ move_read skew greatest s by replied c up down h a.0 o r sound p.1 called p.0 a.1 a.2 within
  ]

module _ (skew greatest : ℕ) (s : Sight) (by : Session) (replied : List Item) (c : Client) (up : List ClientMsg) (down : List Answer) (o : Op) (called : is_called o ≡ true) (h : SessionStateHolds skew greatest s by replied c up down) (anew : MakeAnew by s.journal (seen_at by c down).log) (unborn : AreUnborn s.records (seen_at by c down)) (put : Item → Item) (fine : (r : Reply) → ReadsAt skew greatest s by replied c up down o called h r → IsReadOf (nodes_of s.records) by c.next (put (item_read c o r))) where
  abbrev IsDone : Plan Act → Type 0
  IsDone p = IsPlanned skew greatest s by replied c up down down (with_items put p)

  stayed : (a : Act) → IsDone (stays a c)
  stayed a = record { now = refl; moved = record { state = h; reserves = none_anew (seen_at by c down) }; servers = servers_stay s; others = λ x q. refl }

  -- ## Something is missing

  full : (needs : List Need) → IsDone (full_one needs c)
  full [] = stayed (act.NoIds [])
  full (need.Lease field kind ∷ needs) = full needs
  full (need.Fresh dir ∷ needs) = stayed (act.NoIds dir)

  asking : (to : ℕ) (needs : List Need) → needs ≡ worth c.full (missing_in c.view c.last o) → c.exchange ≡ None → IsDone (asks to needs c)
  asking to needs is idle = record {
    now = refl;
    moved = record {
      state = session_asks skew greatest s by replied c up down to (items_of (needs_at c to needs)) (fresh_asked (needs_at c to needs)) idle
          (some_given (λ n. hinted c (need_file n) == to) needs (subst (λ ns. AreOfGivenKinds (items_of ns)) (sym is) (asks_given (known_by c.view c.last) (given_by c.view c.last) c.full o called))) h;
      reserves = none_anew (seen_at by c down);
    };
    servers = servers_stay s;
    others = λ x q. refl;
  }

  asked_for : (missing needs : List Need) → needs ≡ worth c.full (missing_in c.view c.last o) → IsDone (ask_for missing needs c)
  asked_for missing [] is = full missing
  asked_for missing (n ∷ ns) is = elim (is_some c.exchange) as (λ b. is_some c.exchange ≡ b → IsDone (cond b (stays (act.Busy busy.Exchange) c) (asks (hinted c (need_file n)) (n ∷ ns) c))) [
    | true ↦ λ e. stayed (act.Busy busy.Exchange)
    | false ↦ λ e. asking (hinted c (need_file n)) (n ∷ ns) is (not_some c.exchange e)
  ] refl

  -- ## Nothing is missing

  -- and nothing is led
  module _ (unled : c.led ≡ None) where
    replying : (r : Reply) → tells_its_effects o ≡ true → reply_in c.view c.last o ≡ Some r → IsDone (replies o r c)
    replying r plain e =
        let a = plainly skew greatest s by replied c up down o called h r plain unled e in
        record {
          now = refl;
          moved = record {
            state = session_reply skew greatest s by replied c up down o r h anew unborn a;
            reserves = reply_reserves skew greatest s by replied c up down o r h anew unborn a;
          };
          servers = servers_stay s;
          others = λ x q. refl;
        }

    reading : (r : Reply) → ReadsAt skew greatest s by replied c up down o called h r → IsDone (reads o r c)
    reading r a =
        let i = put (item_read c o r) in
        let is : IsReadOf (nodes_of s.records) by c.next i = fine r a in
        record {
          now = refl;
          moved = record {
            state = session_read skew greatest s by replied c up down h unled a.2 i is;
            reserves = subst (NoneAnew (seen_at by c down)) (sym (settled_number by (c.next + 1) down (settled_now c) unled)) (none_anew (seen_at by c down));
          };
          servers = record {
            holds = λ q. record { apart = q.apart; promises = q.promises; serial = read_serial skew greatest s by replied c up down h unled a.2 i is q; reaped = reaps-still s.reaps s.journal i (λ k. ap (is_server k) is.session) q.reaped };
            fits = λ f. record { shaped = f.shaped; counted = f.counted; given = f.given; sound = f.sound; made = read_made skew greatest s by replied c up down h unled a.2 i is f.made };
            reserved = λ clients. read_reserved skew greatest s by replied c up down h unled a.2 i is (reserved_by clients);
          };
          others = λ x q. items-other x s.journal i (ap (is_session x) is.session ∙ q);
        }

    leading : (r : Reply) → is_led o r ≡ true → c.exchange ≡ None → c.log ≡ [] → reply_in c.view c.last o ≡ Some r → (moved : List ℕ × Kind) → moved_known (known_by c.view c.last) o ≡ Some moved → (to : ℕ) → IsDone (leads to (led_with o r moved c) c)
    leading r l idle empty e moved k to = record {
      now = refl;
      moved = record {
        state = session_leads skew greatest s by replied c up down o r h l idle empty unled e moved k to;
        reserves = leads_reserves skew greatest s by replied c up down o r h l idle empty unled e moved k to;
      };
      servers = servers_stay s;
      others = λ x q. refl;
    }

    by_end : (r : Reply) → reply_in c.view c.last o ≡ Some r → (p : Plan Act) → AnswerEnds o r c p → IsDone p
    by_end r e p (as_entry t) = replying r t e
    by_end r e p (as_read t n empty) = reading r (unled, e, empty, inl (n, t))
    by_end r e p (as_move t n empty) = reading r (unled, e, empty, inr (n, t))
    by_end r e p (as_led t l x empty moved k) = leading r l x empty e moved k (hinted c (home_of o))
    by_end r e p (put_off what) = stayed (act.Busy what)
    by_end r e p not_told = stayed (act.NoIds [])

    answered_with : (r : Option Reply) → reply_in c.view c.last o ≡ r → IsDone (answer_with r o c)
    answered_with (Some r) e = by_end r e (answers o r c) (answer_ends o r c)
    answered_with None e = asked_for (missing_in c.view c.last o) (worth c.full (missing_in c.view c.last o)) refl

  unless : (led : Option Led) → c.led ≡ led → IsDone (unless_led led o c)
  unless (Some l) e = stayed (act.Busy busy.Led)
  unless None e = answered_with e (reply_in c.view c.last o) refl

  on : (over : Option ℕ) → IsDone (act_on over o c)
  on (Some n) = stayed (act.Over n)
  on None = unless c.led refl

  pub act_moved : IsDone (act_on c.over o c)
  act_moved = on c.over
