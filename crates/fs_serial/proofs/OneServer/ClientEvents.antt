-- The clients' events keep all that holds.
use Rattle.std.proofs.Common.{◌≡◌, ℕ, ◌+◌, ◌≤◌, ◌==◌, not, ◌&&◌, ◌/◌, true, false, List, [], ◌∷◌, cond, refl, sym, ap, ◌∙◌, subst, arith}
use Rattle.std.specs.Prelude.{◌≢◌, Option, Some, None, is_some}
use Rattle.fs_ident.specs.declared.actor.Session.{Session}
use Rattle.fs_ident.proofs.Booleans.{second}
use Rattle.fs_model.specs.Step.{is_empty}
use Rattle.fs_model.specs.declared.op.Op.{Op}
use Rattle.fs_model.specs.declared.reply.Reply.{Reply}
use Rattle.fs_msg.specs.declared.act.Act.{Act}
use Rattle.fs_msg.specs.declared.answer.Answer.{Answer}
use Rattle.fs_msg.specs.declared.answer.Answer.TheVariants.{Granted, Renewed, Released, Shipped, Recall, Led}
use Rattle.fs_msg.specs.declared.client_msg.ClientMsg.{ClientMsg}
use Rattle.fs_msg.specs.declared.client_note.ClientNote.TheVariants as note
use Rattle.fs_msg.specs.declared.entry.Entry.{Entry}
use Rattle.fs_msg.specs.declared.item.Item.{Item}
use Rattle.fs_record.specs.Records.{nodes_of}
use Rattle.fs_client.specs.Acts.{act_on, act_plan}
use Rattle.fs_record.specs.declared.led_end.LedEnd.{LedEnd}
use Rattle.fs_record.specs.declared.led_end.LedEnd.TheVariants as end
use Rattle.fs_client.specs.Answers.{answer_plan, ended_plan, fits, hear, led_plan, strange, fitting_plan}
use Rattle.fs_client.specs.Client.{begun, changed, committed, with_hints}
use Rattle.fs_client.specs.Turns.{ending, idle, release_some, renew_some, returned, ship_some, turn_free, turn_on}
use Rattle.fs_client.specs.Led.{end_fits}
use Rattle.fs_client.specs.declared.exchange.Exchange.{Exchange}
use Rattle.fs_client.specs.declared.exchange.Exchange.TheVariants.{Leads}
use Rattle.fs_client.specs.declared.led.Led.{Led as TheLed}
use Rattle.fs_client.specs.declared.plan.Plan.{Plan}
use Rattle.fs_client.specs.declared.state.Client.{Client}
use Rattle.fs_view.specs.declared.view_lease.ViewLease.{ViewLease}
use Rattle.fs_serial.specs.Exchange.{asked_server, is_recall}
use Rattle.fs_serial.specs.Numbers.{items_by}
use Rattle.fs_serial.specs.Sight.{Sight}
use Rattle.fs_serial.specs.World.{CanCome, is_called, ClientEvent, Does, Ends, Hears, Turns, World, WorldHolds, after_client, after_plan, message_in, pushed, settled_at, sight_in, told_by}
use Rattle.fs_serial.proofs.ClientMessages.ActMoves.{IsPlanned, ServersMoved, ReadsAt, act_moved, reads_right, same_items, servers_stay, with_items}
use Rattle.fs_serial.proofs.OneServer.ClientSteps.{IsMoved, begun_again, begun_moved, hinted_moved, session_of, with_journal, world_moved}
use Rattle.fs_serial.proofs.Grants.Claims.{AreUnborn, none_anew_then}
use Rattle.fs_serial.proofs.OtherSessions.Gone.{MakeAnew, all_anew, all_unborn, dirs_pushed, made_pushed}
use Rattle.fs_serial.proofs.ClientMessages.HearMoves.{fits_first, hear_moved}
use Rattle.fs_serial.proofs.Returns.Lapse.{lapse_fewer}
use Rattle.fs_serial.proofs.Replies.Read.{IsReadOf, item_read, plain_is_read, plain_read}
use Rattle.fs_serial.proofs.ClientMessages.SessionStates.{SessionStateHolds, seen_at}
use Rattle.fs_serial.proofs.ClientMessages.TurnMoves.{turn_moved}

-- ## A plan of a client that has begun

module _ {N : Type 0} (greatest now : ℕ) (w : World) (by : Session) (rest : List Answer) (p : Plan N) (h : WorldHolds greatest w) where
  abbrev c : Client
  c = (w.ends by).client

  abbrev s : Sight
  s = sight_in w

  abbrev then : List Item
  then = pushed p.out.admitted w.journal

  module _ (q : IsPlanned w.server.skew greatest s by (w.replied by) (begun now c) (w.ends by).up (w.ends by).down rest p) where
    abbrev d : Client
    d = changed p.ready.change (begun now c)

    client_is : committed p.ready c ≡ with_hints p.ready.hints d
    client_is = ap (λ n. with_hints p.ready.hints (changed p.ready.change (begun n c))) q.now ∙ ap (λ x. with_hints p.ready.hints (changed p.ready.change x)) (begun_again c now)

    abbrev e : Client → Ends
    e d = record { client = d; up = pushed (message_in p.out.send) (w.ends by).up; down = rest }

    moved : IsMoved w.server.skew greatest s (with_journal then s) by (w.replied by) c (w.ends by).down (told_by by p.ready.change p.out.admitted) (e d)
    moved = record {
      state = q.moved.state;
      reserves = none_anew_then (seen_at by c (w.ends by).down) (seen_at by (begun now c) (w.ends by).down) (seen_at by d rest)
          (begun_moved w.server.skew greatest s by (w.replied by) c (w.ends by).up (w.ends by).down now (session_of greatest w by h)).reserves q.moved.reserves;
    }

    pub plan_keeps : WorldHolds greatest (after_plan by rest p w)
    plan_keeps = world_moved greatest w by then (told_by by p.ready.change p.out.admitted) (e (committed p.ready c)) h (made_pushed p.out.admitted w.journal) (dirs_pushed p.out.admitted w.journal) q.others (q.servers.holds h.all.servers) (q.servers.fits h.all.kept)
        (q.servers.reserved (λ x. settled_at x (w.ends x)) h.all.reserved)
        (subst (λ d. IsMoved w.server.skew greatest s (with_journal then s) by (w.replied by) c (w.ends by).down (told_by by p.ready.change p.out.admitted) (e d)) (sym client_is)
        (hinted_moved w.server.skew greatest s (with_journal then s) by (w.replied by) c d (pushed (message_in p.out.send) (w.ends by).up) (w.ends by).down rest (told_by by p.ready.change p.out.admitted) p.ready.hints moved))

-- ## Plans that admit nothing and answer nothing

pub record IsQuiet {N : Type 0} (by : Session) (c : Client) (p : Plan N) : Type 0 where
  pub now : p.ready.now ≡ c.last
  pub admits : p.out.admitted ≡ None
  pub tells : told_by by p.ready.change None ≡ None

-- the caller is told nothing
pub quiet_tells : {N : Type 0} (by : Session) (c : Client) (p : Plan N) → IsQuiet by c p → told_by by p.ready.change p.out.admitted ≡ None
quiet_tells by c p q = ap (told_by by p.ready.change) q.admits ∙ q.tells

quiet_planned : {N : Type 0} (skew greatest : ℕ) (s : Sight) (by : Session) (replied : List Item) (c : Client) (up : List ClientMsg) (down rest : List Answer) (p : Plan N) → IsQuiet by c p
    → IsMoved skew greatest s s by replied c down None (record { client = changed p.ready.change c; up = pushed (message_in p.out.send) up; down = rest }) → IsPlanned skew greatest s by replied c up down rest p
quiet_planned skew greatest s by replied c up down rest p q m =
    let e : Ends = record { client = changed p.ready.change c; up = pushed (message_in p.out.send) up; down = rest } in
    record {
      now = q.now;
      moved = subst (λ (a : Option Item). IsMoved skew greatest s (with_journal (pushed a s.journal) s) by replied c down (told_by by p.ready.change a) e) (sym q.admits) (subst (λ t. IsMoved skew greatest s s by replied c down t e) (sym q.tells) m);
      servers = subst (λ (a : Option Item). ServersMoved s (with_journal (pushed a s.journal) s)) (sym q.admits) (servers_stay s);
      others = λ x o. ap (λ a. items_by x (pushed a s.journal)) q.admits;
    }

ended_quiet : (by : Session) (c : Client) (l : TheLed) (e : LedEnd) → IsQuiet by c (ended_plan l e c)
ended_quiet by c l (end.Done r) = record { now = refl; admits = refl; tells = refl }
ended_quiet by c l (end.Ended lease until now) = record { now = refl; admits = refl; tells = refl }
ended_quiet by c l (end.Again why) = record { now = refl; admits = refl; tells = refl }

led_quiet : (by : Session) (c : Client) (led : Option TheLed) (e : LedEnd) → IsQuiet by c (led_plan led e c)
led_quiet by c None e = record { now = refl; admits = refl; tells = refl }
led_quiet by c (Some l) e = ended_quiet by c l e

told_quiet : (by : Session) (c : Client) (a : Answer) → IsQuiet by c (fitting_plan a c)
told_quiet by c (Granted gs fresh e) = record { now = refl; admits = refl; tells = refl }
told_quiet by c (Renewed ends e) = record { now = refl; admits = refl; tells = refl }
told_quiet by c (Released count e) = record { now = refl; admits = refl; tells = refl }
told_quiet by c (Shipped count e) = record { now = refl; admits = refl; tells = refl }
told_quiet by c (Led e) = led_quiet by c c.led e
told_quiet by c (Recall n) = record { now = refl; admits = refl; tells = refl }

-- the end of what is led fits only where something is
pub led_end_fits : (from : ℕ) (x : Option Exchange) (e : LedEnd) (c : Client) → fits from x (Led e) c ≡ true → end_fits c.led e ≡ true
led_end_fits from None e c h = absurd (cc)
led_end_fits from (Some (Leads to)) e c h = second (to == from) (end_fits c.led e) h
led_end_fits from (Some x) e c h = absurd (cc)

ended_known : (c : Client) (l : TheLed) (e : LedEnd) → (ended_plan l e c).out.note ≢ note.Strange
ended_known c l (end.Done r) = λ h. cc
ended_known c l (end.Ended lease until now) = λ h. cc
ended_known c l (end.Again why) = λ h. cc

led_known : (c : Client) (led : Option TheLed) (e : LedEnd) → end_fits led e ≡ true → (led_plan led e c).out.note ≢ note.Strange
led_known c None e fit = absurd (cc)
led_known c (Some l) e fit = ended_known c l e

-- what is told is noted
told_known : (c : Client) (from : ℕ) (a : Answer) → fits from c.exchange a c ≡ true → (fitting_plan a c).out.note ≢ note.Strange
told_known c from (Granted gs fresh e) fit = λ h. cc
told_known c from (Renewed ends e) fit = λ h. cc
told_known c from (Released count e) fit = λ h. cc
told_known c from (Shipped count e) fit = λ h. cc
told_known c from (Led e) fit = led_known c c.led e (led_end_fits from c.exchange e c fit)
told_known c from (Recall n) fit = λ h. cc

pub hear_quiet : (by : Session) (c : Client) (from : ℕ) (a : Answer) → IsQuiet by c (hear from a c)
hear_quiet by c from a = elim (fits from c.exchange a c) as (λ b. IsQuiet by c (cond b (fitting_plan a c) (strange c))) [
  | true ↦ told_quiet by c a
  | false ↦ record { now = refl; admits = refl; tells = refl }
]

renew_quiet : (by : Session) (c : Client) (ks : List ViewLease) → IsQuiet by c (renew_some ks c)
renew_quiet by c [] = record { now = refl; admits = refl; tells = refl }
renew_quiet by c (k ∷ ks) = record { now = refl; admits = refl; tells = refl }

release_quiet : (by : Session) (c : Client) (ks : List ViewLease) → IsQuiet by c (release_some ks c)
release_quiet by c [] = renew_quiet by c (ending (c.last + c.term / 2) c.view)
release_quiet by c (k ∷ ks) = record { now = refl; admits = refl; tells = refl }

ship_quiet : (by : Session) (c : Client) (es : List Entry) → IsQuiet by c (ship_some es c)
ship_quiet by c [] = record { now = refl; admits = refl; tells = refl }
ship_quiet by c (e ∷ es) = record { now = refl; admits = refl; tells = refl }

free_quiet : (by : Session) (c : Client) → IsQuiet by c (turn_free c)
free_quiet by c = elim (not (is_empty c.log) && not (is_some c.over)) as (λ b. IsQuiet by c (cond b (ship_some c.log c) (release_some (returned c.view) c))) [
  | true ↦ ship_quiet by c c.log
  | false ↦ release_quiet by c (returned c.view)
]

pub turn_quiet : (by : Session) (c : Client) → IsQuiet by c (turn_on c)
turn_quiet by c = elim (is_some c.exchange) as (λ b. IsQuiet by c (cond b (idle c) (turn_free c))) [
  | true ↦ record { now = refl; admits = refl; tells = refl }
  | false ↦ free_quiet by c
]

-- ## Each event

module _ (greatest now : ℕ) (w : World) (by : Session) (h : WorldHolds greatest w) where
  abbrev began : Client
  began = begun now (w.ends by).client

  session_began : SessionStateHolds w.server.skew greatest (sight_in w) by (w.replied by) began (w.ends by).up (w.ends by).down
  session_began = (begun_moved w.server.skew greatest (sight_in w) by (w.replied by) (w.ends by).client (w.ends by).up (w.ends by).down now (session_of greatest w by h)).state

  abbrev here : Sight
  here = sight_in w

  anew : MakeAnew by w.journal (seen_at by began (w.ends by).down).log
  anew = subst (MakeAnew by w.journal) (sym (lapse_fewer by (w.ends by).client now (h.clients by) (w.ends by).down).log) (all_anew w.server.skew greatest (sight_in w) w.replied (λ x. settled_at x (w.ends x)) h.all by)

  unborn : AreUnborn here.records (seen_at by began (w.ends by).down)
  unborn n id r = all_unborn w.server.skew greatest (sight_in w) w.replied (λ x. settled_at x (w.ends x)) h.all by n id
      (record { lease = r.lease; held = (lapse_fewer by (w.ends by).client now (h.clients by) (w.ends by).down).fewer r.lease r.held; number = r.number; fresh = r.fresh; file = r.file })

  -- another item may join the journal in place of a read
  acts_as : (o : Op) (called : is_called o ≡ true) (put : Item → Item)
      → ((r : Reply) → ReadsAt w.server.skew greatest here by (w.replied by) began (w.ends by).up (w.ends by).down o called session_began r → IsReadOf (nodes_of (sight_in w).records) by began.next (put (item_read began o r)))
      → WorldHolds greatest (after_plan by (w.ends by).down (with_items put (act_on began.over o began)) w)
  acts_as o called put fine = plan_keeps greatest now w by (w.ends by).down (with_items put (act_on began.over o began)) h
      (act_moved w.server.skew greatest here by (w.replied by) began (w.ends by).up (w.ends by).down o called session_began anew unborn put fine)

  acts : (o : Op) → is_called o ≡ true → greatest ≤ now + w.server.skew → WorldHolds greatest (after_client by now (Does o) w)
  acts o called within =
      subst (λ (p : Plan Act). WorldHolds greatest (after_plan by (w.ends by).down p w)) (same_items (act_on began.over o began))
      (acts_as o called (λ i. i) (reads_right w.server.skew greatest here by (w.replied by) began (w.ends by).up (w.ends by).down o called session_began h.all.kept.sound.space (omega arith)))

  -- with any reading the root's kind, as the servers have it, may join the journal in place of what was read
  pub acts_plainly : (o : Op) → is_called o ≡ true → WorldHolds greatest (after_plan by (w.ends by).down (with_items (λ i. plain_read (nodes_of (sight_in w).records) by (w.ends by).client.next) (act_plan (w.ends by).client now o)) w)
  acts_plainly o called = acts_as o called (λ i. plain_read (nodes_of (sight_in w).records) by (w.ends by).client.next) (λ r a. plain_is_read (nodes_of (sight_in w).records) by (w.ends by).client.next)

  pub turn_keeps : WorldHolds greatest (after_client by now Turns w)
  turn_keeps = plan_keeps greatest now w by (w.ends by).down (turn_on began) h
      (quiet_planned w.server.skew greatest (sight_in w) by (w.replied by) began (w.ends by).up (w.ends by).down (w.ends by).down (turn_on began) (turn_quiet by began)
      (turn_moved w.server.skew greatest (sight_in w) by (w.replied by) began (w.ends by).up (w.ends by).down session_began))

  pub hear_keeps : (from : ℕ) (a : Answer) (rest : List Answer) → (w.ends by).down ≡ a ∷ rest → (is_recall a ≡ false → asked_server (w.ends by).client.exchange ≡ Some from) → WorldHolds greatest (after_client by now (Hears from a rest) w)
  hear_keeps from a rest first at = plan_keeps greatest now w by rest (hear from a began) h
      (subst (λ down. IsPlanned w.server.skew greatest (sight_in w) by (w.replied by) began (w.ends by).up down rest (hear from a began)) (sym first)
      (quiet_planned w.server.skew greatest (sight_in w) by (w.replied by) began (w.ends by).up (a ∷ rest) rest (hear from a began) (hear_quiet by began from a)
      (hear_moved w.server.skew greatest (sight_in w) by (w.replied by) began (w.ends by).up rest from a at
      (subst (λ down. SessionStateHolds w.server.skew greatest (sight_in w) by (w.replied by) began
      (w.ends by).up down) first session_began))))

  pub client_keeps : (e : ClientEvent) → CanCome by e w.ends → greatest ≤ now + w.server.skew → WorldHolds greatest (after_client by now e w)
  client_keeps (Does o) can within = acts o can within
  client_keeps Turns can within = turn_keeps
  client_keeps (Hears from a rest) can within = hear_keeps from a rest can.0 can.1

  -- no answer that comes is strange
  pub never_strange : (from : ℕ) (a : Answer) (rest : List Answer) → CanCome by (Hears from a rest) w.ends → (answer_plan (w.ends by).client now from a).out.note ≢ note.Strange
  never_strange from a rest can =
      let fit = fits_first w.server.skew greatest (sight_in w) by (w.replied by) began (w.ends by).up rest from a can.1
      (subst (λ down. SessionStateHolds w.server.skew greatest (sight_in w) by (w.replied by) began
      (w.ends by).up down) can.0 session_began) in
      subst (λ b. (cond b (fitting_plan a began) (strange began)).out.note ≢ note.Strange) (sym fit) (told_known began from a fit)
