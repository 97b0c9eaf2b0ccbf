-- No more lines of its script are done than it has: a line that is led waits.
use Rattle.std.proofs.Common.{◌≡◌, ◌∙◌, ℕ, ◌+◌, ◌/◌, ◌≤◌, Bool, true, false, not, ◌&&◌, List, [], ◌∷◌, Option, Some, None, cond, refl, ap, arith, ◌<◌, length}
use Rattle.std.specs.List.{sum_by}
use Rattle.std.specs.Prelude.{is_some, min}
use Rattle.std.proofs.lemmas.List.Sums.{sum_by-append}
use Rattle.std.specs.List.{slice_get}
use Rattle.std.proofs.lemmas.Option.{slice_get_within}
use Rattle.fs_ident.specs.declared.actor.Peer.{Peer}
use Rattle.fs_ident.specs.declared.actor.Peer.TheVariants as peer
use Rattle.fs_ident.specs.declared.limits.TheConstants.{LATEST}
use Rattle.fs_io.specs.Calls.{Datagram}
use Rattle.fs_io.specs.Faults.{raised}
use Rattle.fs_schedule.specs.declared.script.Script.{Script}
use Rattle.fs_schedule.specs.declared.script.Script.TheVariants as script
use Rattle.fs_window.specs.Post.{post_accepted}
use Rattle.fs_window.specs.declared.packet.Packet.{Packet}
use Rattle.fs_actor.specs.Actor.{client_acts, client_turns}
use Rattle.fs_actor.specs.Laws.{client_alone}
use Rattle.fs_ident.specs.declared.actor.Session.{Session}
use Rattle.fs_ident.specs.declared.kind.Kind.{Kind}
use Rattle.fs_field.specs.declared.asked.Need.{Need}
use Rattle.fs_field.specs.declared.asked.Need.TheVariants.{Lease, Fresh}
use Rattle.fs_frag.specs.declared.joined.Joined.{Joined}
use Rattle.fs_map.specs.Map.{Owners}
use Rattle.fs_model.specs.declared.op.Op.{Op}
use Rattle.fs_model.specs.declared.reply.Reply.{Reply}
use Rattle.fs_model.specs.Sound.{is_change}
use Rattle.fs_model.specs.Step.{is_empty}
use Rattle.fs_msg.specs.declared.act.Act.{Act}
use Rattle.fs_msg.specs.declared.act.Act.TheVariants as act
use Rattle.fs_msg.specs.declared.act.Busy.TheVariants as busy
use Rattle.fs_msg.specs.declared.answer.Answer.{Answer}
use Rattle.fs_msg.specs.declared.answer.Answer.TheVariants as answer
use Rattle.fs_msg.specs.declared.client_note.ClientNote.{ClientNote}
use Rattle.fs_msg.specs.declared.entry.Entry.{Entry}
use Rattle.fs_msg.specs.declared.note.Note.TheVariants as note
use Rattle.fs_record.specs.Effects.{tells_its_effects}
use Rattle.fs_record.specs.declared.led_end.LedEnd.{LedEnd}
use Rattle.fs_record.specs.declared.led_end.LedEnd.TheVariants as led
use Rattle.fs_view.specs.View.{known_by, missing_in, reply_in}
use Rattle.fs_view.specs.declared.view_lease.ViewLease.{ViewLease}
use Rattle.fs_client.specs.Acts.{act_on, act_plan, answer_with, answers, ask_for, asks, full_one, hinted, leads_on, need_file, reads, replies, stays, unless_led, worth}
use Rattle.fs_client.specs.Answers.{answer_plan, fits, hints_told, led_plan, strange, fitting_plan}
use Rattle.fs_client.specs.Client.{admitted_all, begun, committed, with_hints}
use Rattle.fs_client.specs.Led.{hints_again, is_led, moved_known}
use Rattle.fs_client.specs.Turns.{ending, idle, release_some, renew_some, returned, ship_some, turn_plan}
use Rattle.fs_client.specs.declared.led.Led.{Led}
use Rattle.fs_client.specs.declared.plan.Plan.{Plan}
use Rattle.fs_client.specs.declared.state.Client.{Client}
use Rattle.fs_client.proofs.AdmittedFront.{admitted_is}
use Rattle.fs_actor.specs.Hearing.{answer_from, message_in}
use Rattle.fs_actor.specs.Several.{ClientRun, client_hears_each, client_hears_one, client_begins, client_told_all, unjoined_notes}
use Rattle.fs_node.specs.Arrivals.{arrival_of}
use Rattle.fs_node.specs.ClientNode.{after_event, after_run, client_asks, client_at, client_idles, client_step, lines_done, side_of}
use Rattle.fs_node.specs.Scripts.{asked_by}
use Rattle.fs_node.specs.ScriptLines.{HasLines, lines_led}
use Rattle.fs_node.specs.declared.arrival.Arrival.{Arrival}
use Rattle.fs_node.specs.declared.arrival.Arrival.TheVariants.{Quiet, Dropped, Came}
use Rattle.fs_node.specs.declared.client_state.ClientState.{ClientState}
use Rattle.fs_node.proofs.Lines.{unjoined_none}

one_led : (l : Option Led) → lines_led l ≤ 1
one_led None = omega arith
one_led (Some l) = omega arith

-- ## An operation that is asked for is one line at most, done or led

abbrev IsOne : Client → Plan Act → Type 0
IsOne c p = lines_done (note.Act p.out.note) + lines_led (committed p.ready c).led ≤ 1

-- where nothing is led, and nothing is to be
free : (c : Client) → c.led ≡ None → lines_led c.led ≡ 0
free c h = ap lines_led h

one_full : (c : Client) (now : ℕ) → c.led ≡ None → (needs : List Need) → IsOne c (full_one needs (begun now c))
one_full c now h [] = omega (arith, free c h)
one_full c now h (Lease field kind ∷ needs) = one_full c now h needs
one_full c now h (Fresh dir ∷ needs) = omega (arith, free c h)

one_asked : (c : Client) (now : ℕ) → c.led ≡ None → (needs some : List Need) → IsOne c (ask_for needs some (begun now c))
one_asked c now h needs [] = one_full c now h needs
one_asked c now h needs (n ∷ ns) = go (is_some c.exchange)
  where
    go : (b : Bool) → IsOne c (cond b (stays (act.Busy busy.Exchange) (begun now c)) (asks (hinted (begun now c) (need_file n)) (n ∷ ns) (begun now c)))
    go true = omega (arith, free c h)
    go false = omega (arith, free c h)

one_led_on : (c : Client) (now : ℕ) → c.led ≡ None → (o : Op) (r : Reply) (m : Option (List ℕ × Kind)) → IsOne c (leads_on m o r (begun now c))
one_led_on c now h o r None = omega (arith, free c h)
one_led_on c now h o r (Some m) = omega arith

one_answered : (c : Client) (now : ℕ) → c.led ≡ None → (o : Op) (r : Reply) → IsOne c (answers o r (begun now c))
one_answered c now h o r = go (tells_its_effects o) (not (is_change r) && is_empty c.log) (is_led o r) (is_some c.exchange) (is_empty c.log)
  where
    b : Client
    b = begun now c

    go : (plain reading moves asked empty : Bool) → IsOne c (cond plain (cond reading (reads o r b) (replies o r b))
        (cond moves (cond asked (stays (act.Busy busy.Exchange) b) (cond empty (leads_on (moved_known (known_by b.view b.last) o) o r b) (stays (act.Busy busy.Log) b)))
        (cond empty (reads o r b) (stays (act.Busy busy.Log) b))))
    go true true moves asked empty = omega (arith, free c h)
    go true false moves asked empty = omega (arith, free c h)
    go false reading true true empty = omega (arith, free c h)
    go false reading true false true = one_led_on c now h o r (moved_known (known_by b.view b.last) o)
    go false reading true false false = omega (arith, free c h)
    go false reading false asked true = omega (arith, free c h)
    go false reading false asked false = omega (arith, free c h)

one_answer : (c : Client) (now : ℕ) → c.led ≡ None → (o : Op) (r : Option Reply) → IsOne c (answer_with r o (begun now c))
one_answer c now h o None = one_asked c now h (missing_in (begun now c).view (begun now c).last o) (worth c.full (missing_in (begun now c).view (begun now c).last o))
one_answer c now h o (Some r) = one_answered c now h o r

-- while one is led no other is done or led
one_unless_led : (c : Client) (now : ℕ) (o : Op) (l : Option Led) → c.led ≡ l → IsOne c (unless_led l o (begun now c))
one_unless_led c now o (Some l) h = omega (arith, one_led c.led)
one_unless_led c now o None h = one_answer c now h o (reply_in (begun now c).view (begun now c).last o)

one_on : (c : Client) (now : ℕ) (o : Op) (over : Option ℕ) → IsOne c (act_on over o (begun now c))
one_on c now o (Some n) = omega (arith, one_led c.led)
one_on c now o None = one_unless_led c now o c.led refl

pub one_line : (c : Client) (now : ℕ) (o : Op) → IsOne c (act_plan c now o)
one_line c now o = one_on c now o c.over

-- ## A turn does and leads none

abbrev KeepsLed : Client → Plan ClientNote → Type 0
KeepsLed c p = lines_done (note.Client p.out.note) + lines_led (committed p.ready c).led ≤ lines_led c.led

kept_renew : (c : Client) (now : ℕ) (ks : List ViewLease) → KeepsLed c (renew_some ks (begun now c))
kept_renew c now [] = omega arith
kept_renew c now (k ∷ ks) = omega arith

kept_release : (c : Client) (now : ℕ) (ks : List ViewLease) → KeepsLed c (release_some ks (begun now c))
kept_release c now [] = kept_renew c now (ending ((begun now c).last + c.term / 2) (begun now c).view)
kept_release c now (k ∷ ks) = omega arith

kept_ship : (c : Client) (now : ℕ) (es : List Entry) → KeepsLed c (ship_some es (begun now c))
kept_ship c now [] = omega arith
kept_ship c now (e ∷ es) = omega arith

pub turn_keeps_led : (c : Client) (now : ℕ) → KeepsLed c (turn_plan c now)
turn_keeps_led c now = go (is_some c.exchange) (not (is_empty c.log) && not (is_some c.over))
  where
    go : (asked ships : Bool) → KeepsLed c (cond asked (idle (begun now c)) (cond ships (ship_some c.log (begun now c)) (release_some (returned (begun now c).view) (begun now c))))
    go true ships = omega arith
    go false true = kept_ship c now c.log
    go false false = kept_release c now (returned (begun now c).view)

-- ## An answer does the line that was led, or leaves it

abbrev Leaves : Client → Plan ClientNote → Type 0
Leaves c p = lines_done (note.Client p.out.note) + lines_led (committed p.ready c).led ≤ lines_led c.led

-- what is said of owners leaves it
leaves_hinted : (h : Option Owners) (c : Client) → lines_led (with_hints h c).led ≡ lines_led c.led
leaves_hinted None c = refl
leaves_hinted (Some hints) c = refl

leaves_shipped : (count : ℕ) (c : Client) → lines_led (admitted_all count c).led ≡ lines_led c.led
leaves_shipped count c = ap (λ (x : Client). lines_led x.led) (admitted_is count c c.log c.view)

leaves_led : (c : Client) (now : ℕ) (e : LedEnd) (l : Option Led) → c.led ≡ l → Leaves c (led_plan l e (begun now c))
leaves_led c now e None h = omega arith
leaves_led c now (led.Done r) (Some l) h = let one : lines_led c.led ≡ 1 = ap lines_led h in omega (arith, one)
leaves_led c now (led.Ended lease until at) (Some l) h = omega arith
leaves_led c now (led.Again why) (Some l) h = let none : lines_led (committed (led_plan (Some l) (led.Again why) (begun now c)).ready c).led ≡ 0 = leaves_hinted (hints_again why c.hints) _ in omega (arith, none)

leaves_told : (c : Client) (now : ℕ) (a : Answer) → Leaves c (fitting_plan a (begun now c))
leaves_told c now (answer.Granted gs fresh e) = let kept : lines_led (committed (fitting_plan (answer.Granted gs fresh e) (begun now c)).ready c).led ≡ lines_led c.led = leaves_hinted (hints_told e c.hints) _ in omega (arith, kept)
leaves_told c now (answer.Renewed rows e) = let kept : lines_led (committed (fitting_plan (answer.Renewed rows e) (begun now c)).ready c).led ≡ lines_led c.led = leaves_hinted (hints_told e c.hints) _ in omega (arith, kept)
leaves_told c now (answer.Released count e) = let kept : lines_led (committed (fitting_plan (answer.Released count e) (begun now c)).ready c).led ≡ lines_led c.led = leaves_hinted (hints_told e c.hints) _ in omega (arith, kept)
leaves_told c now (answer.Shipped count e) = let kept : lines_led (committed (fitting_plan (answer.Shipped count e) (begun now c)).ready c).led ≡ lines_led c.led = leaves_hinted (hints_told e c.hints) _ ∙ leaves_shipped count _ in omega (arith, kept)
leaves_told c now (answer.Led e) = leaves_led c now e c.led refl
leaves_told c now (answer.Recall number) = omega arith

leaves_answer : (c : Client) (now from : ℕ) (a : Answer) → Leaves c (answer_plan c now from a)
leaves_answer c now from a = go (fits from c.exchange a (begun now c))
  where
    go : (b : Bool) → Leaves c (cond b (fitting_plan a (begun now c)) (strange (begun now c)))
    go true = leaves_told c now a
    go false = omega arith

-- what is done so far, with what is led
abbrev AreLeft : ℕ → ClientRun → Type 0
AreLeft before x = sum_by lines_done x.notes + lines_led x.client.led ≤ before

left_one : (before : ℕ) (s : Session) (now : ℕ) (a : Option (ℕ × Answer)) (x : ClientRun) → AreLeft before x → AreLeft before (client_hears_one s now a x)
left_one before s now None x h = omega (arith, h, sum_by-append lines_done x.notes (note.Strange ∷ []))
left_one before s now (Some a) x h = omega (arith, h, leaves_answer x.client now a.0 a.1, sum_by-append lines_done x.notes (note.Client (answer_plan x.client now a.0 a.1).out.note ∷ []))

pub left_each : (before : ℕ) (s : Session) (now : ℕ) (from : Peer) (js : List Joined) (x : ClientRun) → AreLeft before x → AreLeft before (client_hears_each s now from js x)
left_each before s now from [] x h = h
left_each before s now from (j ∷ js) x h =
    let a = answer_from from (message_in j) in
    left_each before s now from js (client_hears_one s now a x) (left_one before s now a x h)

-- ## A turn of the node

-- where this event, or these messages, leave enough of them
after_lines : (y : ClientRun) (x : ClientState) → x.done + (sum_by lines_done y.notes + lines_led y.client.led) ≤ length x.script → HasLines (after_run y x).after
after_lines y x h = omega (arith, h)

after_told : (now : ℕ) (from : Peer) (p : Packet) (x : ClientState) → HasLines x → HasLines (after_run (client_told_all x.session now from p (side_of x)) x).after
after_told now from p x h =
    let a = post_accepted x.post from p in
    let begins = client_begins x.client a.links (unjoined_notes a.heard.joined a.heard) in
    let begin : sum_by lines_done (unjoined_notes a.heard.joined a.heard) + lines_led x.client.led ≤ lines_led x.client.led = omega (arith, unjoined_none a.heard.joined a.heard) in
    let left = left_each (lines_led x.client.led) x.session now from a.heard.joined begins begin in
    after_lines (client_told_all x.session now from p (side_of x)) x (omega (arith, h, left))

after_ask : (now : ℕ) (o : Op) (x : ClientState) → x.done < length x.script → HasLines (after_event (client_acts now o (side_of x)) x).after
after_ask now o x there = after_lines (client_alone x.session x.client (client_acts now o (side_of x))) x (omega (arith, there, one_line x.client now o))

after_turn : (now : ℕ) (x : ClientState) → HasLines x → HasLines (after_event (client_turns now (side_of x)) x).after
after_turn now x h = after_lines (client_alone x.session x.client (client_turns now (side_of x))) x (omega (arith, h, turn_keeps_led x.client now))

after_idle : (now : ℕ) (x : ClientState) → HasLines x → HasLines (client_idles now x).after
after_idle now x h = go (x.odd && not (is_some x.client.exchange)) (slice_get x.script x.done) refl
  where
    next : ClientState
    next = record x { odd = not x.odd }

    go : (b : Bool) (line : Option Script) → slice_get x.script x.done ≡ line → HasLines (client_asks now (cond b (asked_by line) None) next).after
    go false line e = after_turn now next h
    go true None e = after_turn now next h
    go true (Some (script.Op o)) e = after_ask now o next (slice_get_within x.script x.done (script.Op o) e)
    go true (Some (script.Recall field)) e = after_turn now next h
    go true (Some (script.Move prefix to)) e = after_turn now next h

after_at : (now : ℕ) (a : Arrival) (x : ClientState) → HasLines x → HasLines (client_at now a x).after
after_at now (Came from p) x h = after_told now from p x h
after_at now Dropped x h = after_idle now (record x { dropped = raised x.dropped }) h
after_at now Quiet x h = after_idle now x h

pub lines_suffice : (x : ClientState) (reading : ℕ) (came : Option Datagram) → HasLines x → HasLines (client_step x reading came).after
lines_suffice x reading came h = after_at (min reading LATEST) (arrival_of (peer.Client x.session) x.peers came) x h
