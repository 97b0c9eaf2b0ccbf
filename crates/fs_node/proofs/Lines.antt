-- How many lines of its script are done by a packet that comes to a client.
use Rattle.std.proofs.Common.{◌≡◌, ◌∙◌, ◌==◌, ℕ, ◌+◌, ◌≤◌, Bool, true, false, List, [], ◌∷◌, length, take, drop, Option, Some, None, cond, refl, ap, arith}
use Rattle.std.proofs.lemmas.List.{length-append, length-drop, length-map, length-take}
use Rattle.std.proofs.lemmas.List.Sums.{sum_by-append}
use Rattle.std.specs.List.{sum_by}
use Rattle.std.specs.Prelude.{map}
use Rattle.fs_ident.specs.declared.actor.Peer.{Peer}
use Rattle.fs_ident.specs.declared.actor.Session.{Session}
use Rattle.fs_frag.specs.declared.joined.Joined.{Joined}
use Rattle.fs_map.specs.Map.{Owners}
use Rattle.fs_msg.specs.declared.answer.Answer.{Answer}
use Rattle.fs_msg.specs.declared.answer.Answer.TheVariants as answer
use Rattle.fs_msg.specs.declared.client_note.ClientNote.TheVariants as said
use Rattle.fs_msg.specs.declared.note.Note.{Note}
use Rattle.fs_msg.specs.declared.note.Note.TheVariants as note
use Rattle.fs_record.specs.declared.led_end.LedEnd.{LedEnd}
use Rattle.fs_record.specs.declared.led_end.LedEnd.TheVariants as led
use Rattle.fs_server.specs.Ships.{item_of}
use Rattle.fs_client.specs.Answers.{answer_plan, fits, hints_told, led_plan, strange, fitting_plan}
use Rattle.fs_client.specs.Client.{admitted_all, begun, committed, with_hints}
use Rattle.fs_client.specs.Led.{hints_again}
use Rattle.fs_client.specs.declared.led.Led.{Led}
use Rattle.fs_client.specs.declared.plan.Plan.{Plan}
use Rattle.fs_client.specs.declared.state.Client.{Client}
use Rattle.fs_client.proofs.AdmittedFront.{admitted_is}
use Rattle.fs_window.specs.Post.{post_accepted}
use Rattle.fs_window.specs.declared.heard.Heard.{Heard}
use Rattle.fs_window.specs.declared.packet.Packet.{Packet}
use Rattle.fs_actor.specs.Actor.{ClientSide, client_noted}
use Rattle.fs_actor.specs.Finished.{finished, led_item}
use Rattle.fs_actor.specs.Hearing.{answer_from, message_in}
use Rattle.fs_actor.specs.Listed.{listed}
use Rattle.fs_actor.specs.Several.{ClientRun, client_begins, client_hears_each, client_hears_one, client_told_all, client_with, unjoined_notes}
use Rattle.fs_node.specs.ClientNode.{lines_done}

-- ## One answer

-- what the client does as it planned finishes what leaves its log, and one thing more for each line that is done
record Counts (s : Session) (c : Client) (p : Plan Note) : Type 0 where
  fewer : length (committed p.ready c).log ≤ length c.log
  whole : length (finished s c p.out.admitted p.out.note) + length (committed p.ready c).log ≡ length c.log + lines_done p.out.note

-- the log stays, nothing is finished, and no line is done
stays : (s : Session) (c : Client) (p : Plan Note) → (committed p.ready c).log ≡ c.log
    → finished s c p.out.admitted p.out.note ≡ [] → lines_done p.out.note ≡ 0 → Counts s c p
stays s c p log none zero-lines = record {
  fewer = omega (arith, ap length log);
  whole = omega (arith, ap length log, ap length none, zero-lines);
}

hints_keep : (h : Option Owners) (c : Client) → (with_hints h c).log ≡ c.log
hints_keep None c = refl
hints_keep (Some hints) c = refl

-- so many entries, or all, leave the log
shipped_leave : (count : ℕ) (c : Client) → (admitted_all count c).log ≡ drop count c.log
shipped_leave count c = ap (λ (x : Client). x.log) (admitted_is count c c.log c.view)

counts_strange : (s : Session) (c : Client) (now : ℕ) → Counts s c (client_noted (strange (begun now c)))
counts_strange s c now = stays s c (client_noted (strange (begun now c))) refl refl refl

-- what is led is done, or is not
counts_led : (s : Session) (c : Client) (now : ℕ) (e : LedEnd) (l : Option Led) → c.led ≡ l → Counts s c (client_noted (led_plan l e (begun now c)))
counts_led s c now e None h = counts_strange s c now
counts_led s c now (led.Done r) (Some l) h =
    let one : length (finished s c None (note.Client (said.Led l.entry.n r))) ≡ 1 =
    ap (λ (x : Option Led). length (listed (led_item s (note.Client (said.Led l.entry.n r)) x))) h in
    record { fewer = omega arith; whole = omega (arith, one) }
counts_led s c now (led.Ended lease until at) (Some l) h = stays s c (client_noted (led_plan (Some l) (led.Ended lease until at) (begun now c))) refl refl refl
counts_led s c now (led.Again why) (Some l) h =
    stays s c (client_noted (led_plan (Some l) (led.Again why) (begun now c))) (hints_keep (hints_again why c.hints) _) refl refl

-- an answer that fits
counts_told : (s : Session) (c : Client) (now : ℕ) (a : Answer) → Counts s c (client_noted (fitting_plan a (begun now c)))
counts_told s c now (answer.Granted gs fresh e) =
    stays s c (client_noted (fitting_plan (answer.Granted gs fresh e) (begun now c))) (hints_keep (hints_told e c.hints) _) refl refl
counts_told s c now (answer.Renewed rows e) =
    stays s c (client_noted (fitting_plan (answer.Renewed rows e) (begun now c))) (hints_keep (hints_told e c.hints) _) refl refl
counts_told s c now (answer.Released count e) =
    stays s c (client_noted (fitting_plan (answer.Released count e) (begun now c))) (hints_keep (hints_told e c.hints) _) refl refl
counts_told s c now (answer.Shipped count e) =
    let p = client_noted (fitting_plan (answer.Shipped count e) (begun now c)) in
    let log : (committed p.ready c).log ≡ drop count c.log = hints_keep (hints_told e c.hints) _ ∙ shipped_leave count _ in
    let all : length (finished s c p.out.admitted p.out.note) ≡ length (map (item_of s) (take count c.log)) + 0 = length-append (map (item_of s) (take count c.log)) [] in
    let items = length-map (take count c.log) (item_of s) in
    let some = length-take count c.log in
    let left = length-drop count c.log in
    record { fewer = omega (arith, ap length log, left); whole = omega (arith, ap length log, all, items, some, left) }
counts_told s c now (answer.Led e) = counts_led s c now e c.led refl
counts_told s c now (answer.Recall number) = stays s c (client_noted (fitting_plan (answer.Recall number) (begun now c))) refl refl refl

counts_answer : (s : Session) (c : Client) (now from : ℕ) (a : Answer) → Counts s c (client_noted (answer_plan c now from a))
counts_answer s c now from a = go (fits from c.exchange a (begun now c))
  where
    go : (b : Bool) → Counts s c (client_noted (cond b (fitting_plan a (begun now c)) (strange (begun now c))))
    go true = counts_told s c now a
    go false = counts_strange s c now

-- ## All that a packet joins

-- of a client whose log was so long
pub record AreCounted (before : ℕ) (x : ClientRun) : Type 0 where
  pub fewer : length x.client.log ≤ before
  pub whole : length x.finished + length x.client.log ≡ before + sum_by lines_done x.notes

counted_with : (before : ℕ) (s : Session) (p : Plan Note) (x : ClientRun) → AreCounted before x → Counts s x.client p → AreCounted before (client_with s p x)
counted_with before s p x h one = record {
  fewer = omega (arith, h.fewer, one.fewer);
  whole = omega (arith, h.whole, one.whole, length-append x.finished (finished s x.client p.out.admitted p.out.note), sum_by-append lines_done x.notes (p.out.note ∷ []));
}

counted_one : (before : ℕ) (s : Session) (now : ℕ) (a : Option (ℕ × Answer)) (x : ClientRun) → AreCounted before x → AreCounted before (client_hears_one s now a x)
counted_one before s now None x h = record {
  fewer = h.fewer;
  whole = omega (arith, h.whole, sum_by-append lines_done x.notes (note.Strange ∷ []));
}
counted_one before s now (Some a) x h = counted_with before s (client_noted (answer_plan x.client now a.0 a.1)) x h (counts_answer s x.client now a.0 a.1)

counted_each : (before : ℕ) (s : Session) (now : ℕ) (from : Peer) (js : List Joined) (x : ClientRun) → AreCounted before x → AreCounted before (client_hears_each s now from js x)
counted_each before s now from [] x h = h
counted_each before s now from (j ∷ js) x h =
    let a = answer_from from (message_in j) in
    counted_each before s now from js (client_hears_one s now a x) (counted_one before s now a x h)

-- nothing is noted before the first that counts
pub unjoined_none : (js : List Joined) (h : Heard) → sum_by lines_done (unjoined_notes js h) ≡ 0
unjoined_none (j ∷ js) h = refl
unjoined_none [] h = go (h.fresh == 0)
  where
    go : (b : Bool) → sum_by lines_done (cond b note.None note.Part ∷ []) ≡ 0
    go true = refl
    go false = refl

-- a packet of the actor finishes what leaves the log, and one thing more for each line that is done
pub all_counted : (s : Session) (now : ℕ) (from : Peer) (p : Packet) (x : ClientSide) → AreCounted (length x.client.log) (client_told_all s now from p x)
all_counted s now from p x =
    let a = post_accepted x.post from p in
    let begins = client_begins x.client a.links (unjoined_notes a.heard.joined a.heard) in
    let begin : AreCounted (length x.client.log) begins = record { fewer = omega arith; whole = omega (arith, unjoined_none a.heard.joined a.heard) } in
    let h = counted_each (length x.client.log) s now from a.heard.joined begins begin in
    record { fewer = h.fewer; whole = h.whole }
