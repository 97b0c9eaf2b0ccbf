-- What a client tells its session of its operation is what was answered it.
use Rattle.std.proofs.Common.{◌≡◌, ◌∙◌, ℕ, ◌+◌, ◌/◌, ◌&&◌, not, true, false, List, [], ◌∷◌, ◌++◌, cond, refl, ap, sym, subst, inl, inr}
use Rattle.std.specs.Prelude.{Option, Some, None, is_some}
use Rattle.std.specs.List.{find}
use Rattle.fs_ident.specs.In.{In}
use Rattle.fs_ident.specs.declared.actor.Peer.TheVariants.{Client}
use Rattle.fs_ident.specs.declared.actor.Session.{Session}
use Rattle.fs_ident.proofs.Passing.{found}
use Rattle.fs_ident.proofs.Standing.{In-behind, In-mapped}
use Rattle.fs_field.specs.declared.asked.Need.{Need}
use Rattle.fs_field.specs.declared.asked.Need.TheVariants as need
use Rattle.fs_model.specs.Step.{is_empty}
use Rattle.fs_model.specs.declared.op.Op.{Op}
use Rattle.fs_model.specs.declared.op.Op.TheVariants as op
use Rattle.fs_model.specs.declared.reply.Reply.{Reply}
use Rattle.fs_model.specs.declared.reply.Reply.TheVariants as reply
use Rattle.fs_view.specs.View.{View, fresh, missing_in, reply_in}
use Rattle.fs_view.specs.declared.view_lease.ViewLease.{ViewLease}
use Rattle.fs_msg.specs.declared.act.Act.{Act}
use Rattle.fs_msg.specs.declared.act.Act.TheVariants as act
use Rattle.fs_msg.specs.declared.act.Busy.TheVariants as busy
use Rattle.fs_msg.specs.declared.answer.Answer.{Answer}
use Rattle.fs_msg.specs.declared.answer.Answer.TheVariants as TheAnswer
use Rattle.fs_msg.specs.declared.client_msg.ClientMsg.{ClientMsg}
use Rattle.fs_msg.specs.declared.client_note.ClientNote.{ClientNote}
use Rattle.fs_msg.specs.declared.client_note.ClientNote.TheVariants as client_note
use Rattle.fs_msg.specs.declared.entry.Entry.{Entry}
use Rattle.fs_msg.specs.declared.item.Item.{Item}
use Rattle.fs_msg.specs.declared.note.Note.{Note}
use Rattle.fs_msg.specs.declared.note.Note.TheVariants as note
use Rattle.fs_client.specs.Acts.{act_on, act_plan, answer_with, answers, ask_for, asks, full_one, hinted, led_with, need_file, stays}
use Rattle.fs_client.specs.Acts.{unless_led, with_id, worth}
use Rattle.fs_client.specs.Answers.{answer_fits, ended_plan, fits, hear, led_plan, strange, fitting_plan}
use Rattle.fs_client.specs.Client.{begun}
use Rattle.fs_client.specs.Led.{end_fits}
use Rattle.fs_client.specs.Turns.{ending, idle, release_some, renew_some, returned, ship_some, turn_free, turn_plan}
use Rattle.fs_client.specs.declared.exchange.Exchange.{Exchange}
use Rattle.fs_client.specs.declared.exchange.Exchange.TheVariants as exchange
use Rattle.fs_client.specs.declared.led.Led.{Led}
use Rattle.fs_client.specs.declared.plan.Plan.{Plan}
use Rattle.fs_client.specs.declared.state.Client.{Client as ClientState}
use Rattle.fs_record.specs.declared.led_end.LedEnd.{LedEnd}
use Rattle.fs_record.specs.declared.led_end.LedEnd.TheVariants as end
use Rattle.fs_serial.specs.Cluster.{is_with, without_first}
use Rattle.fs_serial.specs.Exchange.{OneExchange, asked_server, due, is_recall, server_of_question}
use Rattle.fs_serial.specs.World.{told_by}
use Rattle.fs_serial.proofs.Replies.Answering.{AnswerEnds, answer_ends, as_entry, as_led, as_move, as_read, not_told, put_off}
use Rattle.fs_serial.proofs.OneServer.ClientEvents.{led_end_fits}
use Rattle.fs_serial.proofs.Grants.RowKinds.{In-kept}
use Rattle.fs_serial.proofs.Lists.Traffic.{messages}
use Rattle.fs_world.specs.Coming.{item_with, items_with, led_item}
use Rattle.fs_world.specs.Order.{Agrees, Leads, SameButId, ReplyGiven, ended_in, leads_in, replies_in, reply_given, told_with}
use Rattle.fs_world.proofs.Coming.{heard_comes, led_after, more_come, one_comes, quiet_comes}
use Rattle.fs_world.proofs.RepliesGiven.{TellsOf, tells_done, tells_freed, tells_led, tells_none, tells_one}

-- ## What a client makes of an operation

pub same_id : (v : View) (now : ℕ) (o : Op) (r : Reply) → SameButId o (with_id v now o r)
same_id v now (op.Create dir name kind id) reply.Made = (fresh v now dir, refl)
same_id v now (op.Create dir name kind id) r = (None, refl)
same_id v now (op.Lookup dir name) r = refl
same_id v now (op.List dir) r = refl
same_id v now (op.Kind file) r = refl
same_id v now (op.Info file) r = refl
same_id v now (op.OpenFile file n modes) r = refl
same_id v now (op.Close file n) r = refl
same_id v now (op.Set file n size stamp) r = refl
same_id v now (op.Delete dir name) r = refl
same_id v now (op.Rename sdir sname ddir dname) r = refl
same_id v now (op.Reap file session) r = refl

same_op : (o : Op) → SameButId o o
same_op (op.Create dir name kind id) = (id, refl)
same_op (op.Lookup dir name) = refl
same_op (op.List dir) = refl
same_op (op.Kind file) = refl
same_op (op.Info file) = refl
same_op (op.OpenFile file n modes) = refl
same_op (op.Close file n) = refl
same_op (op.Set file n size stamp) = refl
same_op (op.Delete dir name) = refl
same_op (op.Rename sdir sname ddir dname) = refl
same_op (op.Reap file session) = refl

module _ (s : Session) (o : Op) (c : ClientState) (own : c.session ≡ s) (down : List Answer)
    (quiet : c.exchange ≡ None → due down ≡ []) (leads : Leads) where
  -- what the plan tells is what its change answers
  abbrev Tells : Plan Act → Type 0
  Tells p = TellsOf s c.led (led_after p.ready.change c.led) down down (told_by s p.ready.change p.out.admitted)
      (replies_in s o (note.Act p.out.note ∷ [])) leads (leads_in s o (note.Act p.out.note ∷ []) leads)

  full_tells : (needs : List Need) → Tells (full_one needs c)
  full_tells [] = tells_none refl refl refl refl refl
  full_tells (need.Lease field kind ∷ needs) = full_tells needs
  full_tells (need.Fresh dir ∷ needs) = tells_none refl refl refl refl refl

  ask_tells : (needs some : List Need) → Tells (ask_for needs some c)
  ask_tells needs [] = full_tells needs
  ask_tells needs (n ∷ ns) =
      elim (is_some c.exchange) as (λ b. Tells (cond b (stays (act.Busy busy.Exchange) c) (asks (hinted c (need_file n)) (n ∷ ns) c))) [
        | true ↦ tells_none refl refl refl refl refl
        | false ↦ tells_none refl refl refl refl refl
      ]

  -- the reply to it
  abbrev told_reply : Reply → ReplyGiven
  told_reply r = record { session = s; n = c.next; asked = o; reply = r }

  as_asked : (r : Reply) (i : Item) → i.op ≡ with_id c.view c.last o r → i.reply ≡ r → Agrees i (told_reply r)
  as_asked r i op_is reply_is = record { op = subst (SameButId o) (sym op_is) (same_id c.view c.last o r); reply = reply_is }

  end_tells : c.led ≡ None → (r : Reply) (p : Plan Act) → AnswerEnds o r c p → Tells p
  end_tells none r p (as_entry t) = let i : Item = record { by = Client s; n = c.next; op = with_id c.view c.last o r; reply = r } in
      tells_one none none i (told_reply r) refl refl refl (record { by = refl; n = refl }) (as_asked r i refl refl) refl
  end_tells none r p (as_read t n e) = let i : Item = record {
    by = Client c.session;
    n = c.next;
    op = with_id c.view c.last o r;
    reply =
        r;
  } in tells_one none none i (told_reply r) refl refl refl (record { by = ap Client own; n = refl }) (as_asked r i refl refl) refl
  end_tells none r p (as_move t n e) = let i : Item = record {
    by = Client c.session;
    n = c.next;
    op = with_id c.view c.last o r;
    reply =
        r;
  } in tells_one none none i (told_reply r) refl refl refl (record { by = ap Client own; n = refl }) (as_asked r i refl refl) refl
  end_tells none r p (as_led t l x e moved k) =
      tells_led none (led_with o r moved c) refl (quiet_comes s (Some (led_with o r moved c)) down (quiet x)) refl refl refl
  end_tells none r p (put_off what) = tells_none refl refl refl refl refl
  end_tells none r p not_told = tells_none refl refl refl refl refl

  with_tells : c.led ≡ None → (r : Option Reply) → Tells (answer_with r o c)
  with_tells none (Some r) = end_tells none r (answers o r c) (answer_ends o r c)
  with_tells none None = ask_tells (missing_in c.view c.last o) (worth c.full (missing_in c.view c.last o))

  unless_tells : (stands : Option Led) → c.led ≡ stands → Tells (unless_led stands o c)
  unless_tells (Some l) e = tells_none refl refl refl refl refl
  unless_tells None e = with_tells e (reply_in c.view c.last o)

  on_tells : (over : Option ℕ) → Tells (act_on over o c)
  on_tells (Some n) = tells_none refl refl refl refl refl
  on_tells None = unless_tells c.led refl

pub act_tells : (s : Session) (o : Op) (c : ClientState) (now : ℕ) → c.session ≡ s
    → (down : List Answer) → (c.exchange ≡ None → due down ≡ []) → (leads : Leads)
    → TellsOf s c.led (led_after (act_plan c now o).ready.change c.led) down down
    (told_by s (act_plan c now o).ready.change (act_plan c now o).out.admitted)
    (replies_in s o (note.Act (act_plan c now o).out.note ∷ [])) leads (leads_in s o (note.Act (act_plan c now o).out.note ∷ []) leads)
act_tells s o c now own down quiet leads = on_tells s o (begun now c) own down quiet leads c.over

-- ## What a client hears

-- a note with no end of what was led
pub quiet_note : (s : Session) (lead : Option Op) (n : Note) → reply_given n ≡ None → ended_in s lead (n ∷ []) ≡ []
quiet_note s None n e = refl
quiet_note s (Some o) n e = ap (λ r. told_with s o r ++ []) e

module _ (s : Session) (k : ℕ) (raw : ClientState) (now : ℕ) (up : List ClientMsg) (owed : List Answer) (down : List (ℕ × Answer))
    (one : OneExchange raw raw.exchange up (owed ++ messages down)) (leads : Leads)
    (asked : (d : Led) → raw.led ≡ Some d → leads s ≡ Some d.entry.op) where
  abbrev c : ClientState
  c = begun now raw

  -- what is owed stands in front of what is on its way
  abbrev coming : List Answer
  coming = owed ++ messages down

  abbrev rest : List Answer
  rest = owed ++ messages (without_first (is_with k) down)

  abbrev Hears : Plan ClientNote → Type 0
  Hears p =
      TellsOf s raw.led (led_after p.ready.change raw.led) coming rest (told_by s p.ready.change p.out.admitted)
      (ended_in s (leads s) (note.Client p.out.note ∷ [])) leads leads

  -- what ends nothing that is led
  brings_none : (a : Answer) → ((d : Led) → item_with s (Some d) a ≡ []) → item_with s raw.led a ≡ []
  brings_none a e = elim raw.led as (λ o. item_with s o a ≡ []) [ None ↦ refl | Some d ↦ e d ]

  still_comes : (a : Answer) → ((d : Led) → item_with s (Some d) a ≡ []) → find (is_with k) down ≡ Some (k, a)
      → items_with s raw.led rest ≡ items_with s raw.led coming
  still_comes a e f =
      more_come s raw.led owed (messages (without_first (is_with k) down))
      ∙ ap (λ is. items_with s raw.led owed ++ is) (heard_comes s raw.led k a down f (brings_none a e))
      ∙ sym (more_come s raw.led owed (messages down))

  -- the end of what is led is the one answer that is due, and it fits
  led_hears : (e : LedEnd) (x : Option Exchange) → OneExchange raw x up coming → In (TheAnswer.Led e) (due coming) → asked_server x ≡ Some k
      → (due coming ≡ TheAnswer.Led e ∷ []) × (fits k x (TheAnswer.Led e) c ≡ true)
  led_hears e None h i at = absurd (subst (In (TheAnswer.Led e)) h.1 i)
  led_hears e (Some x) (inl h) i at = absurd (subst (In (TheAnswer.Led e)) h.silent i)
  led_hears e (Some x) (inr h) i at =
      elim (subst (In (TheAnswer.Led e)) h.told i)
      as (λ _. (due coming ≡ TheAnswer.Led e ∷ []) × (fits k (Some x) (TheAnswer.Led e) c ≡ true)) [
        | inl same ↦
            let server : server_of_question x ≡ k = cc in (
              h.told ∙ ap (λ b. b ∷ []) (sym same),
              by x (subst (λ n. answer_fits n x (TheAnswer.Led e) raw ≡ true) server
                  (subst (λ b. answer_fits (server_of_question x) x b raw ≡ true) (sym same) h.fits)),
            )
        | inr z ↦ absurd z
      ]
    where
      by : (x : Exchange) → answer_fits k x (TheAnswer.Led e) raw ≡ true → fits k (Some x) (TheAnswer.Led e) c ≡ true
      by (exchange.Leads to) f = f
      by (exchange.Asks to items fresh) f = absurd (cc)
      by (exchange.Renews to numbers) f = absurd (cc)
      by (exchange.Releases to numbers) f = absurd (cc)
      by (exchange.Ships to count) f = absurd (cc)

  ended_tells : (d : Led) → raw.led ≡ Some d → (e : LedEnd) → due coming ≡ TheAnswer.Led e ∷ [] → Hears (ended_plan d e c)
  ended_tells d is (end.Done r) due_is = tells_done refl (led_item s d r)
      (record { session = s; n = d.entry.n; asked = d.entry.op; reply = r })
      (ap (λ o. items_with s o coming) is ∙ one_comes s d coming (TheAnswer.Led (end.Done r)) due_is) refl
      (ap (λ o. ended_in s o (note.Client (client_note.Led d.entry.n r) ∷ [])) (asked d is)) refl (record {
        by = refl;
        n =
            refl;
      }) (record { op = same_op d.entry.op; reply = refl }) refl
  ended_tells d is (end.Ended lease until at) due_is = tells_freed refl
      (ap (λ o. items_with s o coming) is ∙ one_comes s d coming (TheAnswer.Led (end.Ended lease until at)) due_is) refl
      (quiet_note s (leads s) _ refl) refl
  ended_tells d is (end.Again why) due_is = tells_freed refl
      (ap (λ o. items_with s o coming) is ∙ one_comes s d coming (TheAnswer.Led (end.Again why)) due_is) refl
      (quiet_note s (leads s) _ refl) refl

  led_tells : (led : Option Led) → raw.led ≡ led → (e : LedEnd) → end_fits led e ≡ true
      → due coming ≡ TheAnswer.Led e ∷ [] → Hears (led_plan led e c)
  led_tells None is e f due_is = absurd (cc)
  led_tells (Some d) is e f due_is = ended_tells d is e due_is

  pub hear_tells : (a : Answer) → find (is_with k) down ≡ Some (k, a) → (is_recall a ≡ false → asked_server raw.exchange ≡ Some k)
      → Hears (hear k a c)
  hear_tells (TheAnswer.Granted gs fresh e) f at = elim (fits k c.exchange (TheAnswer.Granted gs fresh e) c) as (λ b.
      Hears (cond b (fitting_plan (TheAnswer.Granted gs fresh e) c) (strange c))) [
        | true ↦ tells_none refl (still_comes _ (λ d. refl) f)
            refl (quiet_note s (leads s) _ refl) refl
        | false ↦ tells_none refl (still_comes _ (λ d. refl) f) refl (quiet_note s (leads s) _ refl) refl
      ]
  hear_tells (TheAnswer.Renewed ends e) f at = elim (fits k c.exchange (TheAnswer.Renewed ends e) c) as (λ b.
      Hears (cond b (fitting_plan (TheAnswer.Renewed ends e) c) (strange c))) [
        | true ↦ tells_none refl (still_comes _ (λ d. refl) f) refl
            (quiet_note s (leads s) _ refl) refl
        | false ↦ tells_none refl (still_comes _ (λ d. refl) f) refl (quiet_note s (leads s) _ refl)
            refl
      ]
  hear_tells (TheAnswer.Released count e) f at = elim (fits k c.exchange (TheAnswer.Released count e) c) as (λ b.
      Hears (cond b (fitting_plan (TheAnswer.Released count e) c) (strange c))) [
        | true ↦ tells_none refl (still_comes _ (λ d. refl) f) refl
            (quiet_note s (leads s) _ refl) refl
        | false ↦ tells_none refl (still_comes _ (λ d. refl) f) refl (quiet_note s (leads s) _ refl)
            refl
      ]
  hear_tells (TheAnswer.Shipped count e) f at = elim (fits k c.exchange (TheAnswer.Shipped count e) c) as (λ b.
      Hears (cond b (fitting_plan (TheAnswer.Shipped count e) c) (strange c))) [
        | true ↦ tells_none refl (still_comes _ (λ d. refl) f) refl
            (quiet_note s (leads s) _ refl) refl
        | false ↦ tells_none refl (still_comes _ (λ d. refl) f) refl (quiet_note s (leads s) _ refl)
            refl
      ]
  hear_tells (TheAnswer.Recall number) f at = elim (fits k c.exchange (TheAnswer.Recall number) c) as (λ b.
      Hears (cond b (fitting_plan (TheAnswer.Recall number) c) (strange c))) [
        | true ↦ tells_none refl (still_comes _ (λ d. refl) f) refl
            (quiet_note s (leads s) _ refl) refl
        | false ↦ tells_none refl (still_comes _ (λ d. refl) f) refl (quiet_note s (leads s) _ refl)
            refl
      ]
  hear_tells (TheAnswer.Led e) f at =
      let there : In (TheAnswer.Led e) (messages down) =
      In-mapped (λ (m : ℕ × Answer). m.1) (k, TheAnswer.Led e) down (found (is_with k) down (k, TheAnswer.Led e) f).0 in
      let q = led_hears e raw.exchange one
      (In-kept (λ (b : Answer). not (is_recall b)) (TheAnswer.Led e) coming
      (In-behind (TheAnswer.Led e) owed (messages down) there) refl) (at refl) in
      subst (λ b. Hears (cond b (fitting_plan (TheAnswer.Led e) c) (strange c))) (sym q.1)
      (led_tells raw.led refl e (led_end_fits k c.exchange e c q.1) q.0)

-- ## Turns

module _ (s : Session) (raw : ClientState) (now : ℕ) (down : List Answer) (leads : Leads) where
  abbrev began : ClientState
  began = begun now raw

  abbrev Turns : Plan ClientNote → Type 0
  Turns p = TellsOf s raw.led (led_after p.ready.change raw.led) down down (told_by s p.ready.change p.out.admitted) [] leads leads

  renews_tell : (ks : List ViewLease) → Turns (renew_some ks began)
  renews_tell [] = tells_none refl refl refl refl refl
  renews_tell (k ∷ ks) = tells_none refl refl refl refl refl

  releases_tell : (ks : List ViewLease) → Turns (release_some ks began)
  releases_tell [] = renews_tell (ending (began.last + began.term / 2) began.view)
  releases_tell (k ∷ ks) = tells_none refl refl refl refl refl

  ships_tell : (es : List Entry) → Turns (ship_some es began)
  ships_tell [] = tells_none refl refl refl refl refl
  ships_tell (e ∷ es) = tells_none refl refl refl refl refl

  free_tells : Turns (turn_free began)
  free_tells = elim (not (is_empty began.log) && not (is_some began.over)) as (λ b.
      Turns (cond b (ship_some began.log began) (release_some (returned began.view) began))) [
        | true ↦ ships_tell began.log
        | false ↦ releases_tell (returned began.view)
      ]

  -- a turn tells nothing
  pub turn_tells : Turns (turn_plan raw now)
  turn_tells = elim (is_some began.exchange) as (λ b. Turns (cond b (idle began) (turn_free began))) [
    | true ↦ tells_none refl refl refl
        refl refl
    | false ↦ free_tells
  ]
