-- Every event of a client keeps all that holds of the cluster, while transactions are on their way.
use mathlib.Core.Path.{fun_ext}
use Rattle.std.proofs.Common.{◌≡◌, ◌==◌, ◌+◌, ◌≤◌, ℕ, Bool, not, true, false, List, [], ◌∷◌, ◌++◌, length, map, filter, cond}
use Rattle.std.proofs.Common.{append_assoc, refl, sym, ap, ap₂, ◌∙◌, subst, inl, inr, length-append, arith}
use Rattle.std.specs.Prelude.{◌≢◌, Option, Some, None, slice_get}
use Rattle.std.specs.List.{flat_map}
use Rattle.fs_ident.specs.In.{In}
use Rattle.fs_ident.specs.declared.actor.Session.{Session}
use Rattle.fs_ident.specs.declared.actor.TxnNo.{TxnNo}
use Rattle.fs_ident.proofs.Passing.{found}
use Rattle.fs_ident.proofs.Same.{one_session}
use Rattle.fs_ident.proofs.Standing.{In-filter, In-got, In-map, In-mapped}
use Rattle.fs_field.specs.Table.{same_txn}
use Rattle.fs_model.specs.declared.op.Op.{Op}
use Rattle.fs_msg.specs.declared.act.Act.{Act}
use Rattle.fs_msg.specs.declared.answer.Answer.{Answer}
use Rattle.fs_msg.specs.declared.client_msg.ClientMsg.{ClientMsg}
use Rattle.fs_msg.specs.declared.client_note.ClientNote.{ClientNote}
use Rattle.fs_msg.specs.declared.client_note.ClientNote.TheVariants as note
use Rattle.fs_parcel.proofs.Both.{passing}
use Rattle.fs_record.specs.Records.{nodes_of}
use Rattle.fs_client.specs.Acts.{act_plan}
use Rattle.fs_client.specs.Answers.{answer_plan}
use Rattle.fs_client.specs.Client.{begun, committed}
use Rattle.fs_client.specs.Turns.{turn_plan}
use Rattle.fs_client.specs.declared.exchange.Exchange.{Exchange}
use Rattle.fs_client.specs.declared.led.Led.{Led}
use Rattle.fs_client.specs.declared.plan.Plan.{Plan}
use Rattle.fs_client.specs.declared.state.Client.{Client}
use Rattle.fs_server.specs.declared.state.Server.{Server}
use Rattle.fs_txn.specs.Grants.{Decided}
use Rattle.fs_txn.specs.Leading.{ending_of}
use Rattle.fs_txn.specs.declared.leading.Ending.{Ending}
use Rattle.fs_txn.specs.declared.leading.Leading.{Leading}
use Rattle.fs_txn.proofs.Keys.{kept_in}
use Rattle.fs_serial.specs.Cluster.{CanCome, ClientEvent, Cluster, Lines, after_client, after_plan, is_with, with_lines, without_first}
use Rattle.fs_serial.specs.Cluster.ClientEvent.{Does, Turns, Hears}
use Rattle.fs_serial.specs.Decided.{WorldStands}
use Rattle.fs_serial.specs.Exchange.{OneExchange, asked_server, due, is_recall}
use Rattle.fs_serial.specs.Leading.{IsLedBy, LeavesLedClient, LedHolds}
use Rattle.fs_serial.specs.Owed.{ends_in, ends_with, owed_to, question_of, taken_leads}
use Rattle.fs_serial.specs.Seen.{ClusterHolds, IsAddressed, counts_of, with_all, world_of}
use Rattle.fs_serial.specs.Words.{decided_in, ending_at}
use Rattle.fs_serial.specs.World.{Ends, World, WorldHolds, is_called, message_in, pushed, told_by, with_ends, with_told}
use Rattle.fs_serial.specs.World as world
use Rattle.fs_serial.proofs.ClientMessages.ActMoves.{with_items}
use Rattle.fs_serial.proofs.ClientMessages.Reordered.{reordered, with_first}
use Rattle.fs_serial.proofs.DecidedEffects.DecidedKept.{client_fits, plan_fits}
use Rattle.fs_serial.proofs.DecidedEffects.Deciding.{deciding_in}
use Rattle.fs_serial.proofs.DecidedEffects.HeldSeen.{held_seen}
use Rattle.fs_serial.proofs.DecidedEffects.OwnApart.{one_each}
use Rattle.fs_serial.proofs.Lists.EachAt.{nothing_of}
use Rattle.fs_serial.proofs.Lists.Journals.{session_itself}
use Rattle.fs_serial.proofs.Lists.SetAt.{In_without}
use Rattle.fs_serial.proofs.Lists.Traffic.{IsTaken, messages, messages_append, taken_first}
use Rattle.fs_serial.proofs.OneServer.ClientEvents.{acts_plainly, client_keeps, hear_keeps, never_strange, turn_keeps}
use Rattle.fs_serial.proofs.Replies.Read.{plain_read}
use Rattle.fs_serial.proofs.Transactions.ClientsWait.{client_waits, owed, waiting_keeps_led}
use Rattle.fs_serial.proofs.Transactions.OneOfSession.{all_owed_due, due_both, leads_at}
use Rattle.fs_serial.proofs.Transactions.OneOwner.{some_there}
use Rattle.fs_serial.proofs.Transactions.Tables.{In_some}
use Rattle.fs_serial.proofs.WholeRuns.ClusterClients.{ends_here, ends_twice, made_later, places_later, some_server}
use Rattle.fs_serial.proofs.WholeRuns.Planned.{IsPosted, act_posted, addressed_among, hear_posted, turn_posted}

-- ## Lists

map_none : {X Y : Type 0} (f : X → Y) (xs : List X) → map f xs ≡ [] → xs ≡ []
map_none f [] e = refl
map_none f (x ∷ xs) e = absurd (cc e)

-- a question more stands alone
none_before : (c : Client) (x : Option Exchange) (up : List ClientMsg) (m : ClientMsg) (down : List Answer)
    → OneExchange c x (up ++ m ∷ []) down → up ≡ []
none_before c None up m down h = let q : m ∷ [] ≡ [] = (nothing_of up (m ∷ []) h.0).1 in absurd (cc q)
none_before c (Some x) up m down (inr h) = let q : m ∷ [] ≡ [] = (nothing_of up (m ∷ []) h.asked).1 in absurd (cc q)
none_before c (Some x) [] m down (inl h) = refl
none_before c (Some x) (u ∷ []) m down (inl h) = let q = h.asked in absurd (cc q)
none_before c (Some x) (u ∷ v ∷ us) m down (inl h) = let q = h.asked in absurd (cc q)

module _ (c : Cluster) (by : Session) where
  abbrev l : Lines
  l = c.lines by

  abbrev its_owed : List Answer
  its_owed = owed_to by c.servers

  abbrev taken_for : Option Led → List ClientMsg
  taken_for led = taken_leads by led c.servers

  -- ## What is taken stays so

  none_led : (ss : List Server) → flat_map (leads_at by) ss ≡ [] → (o : Option Led) → taken_leads by o ss ≡ []
  none_led [] e o = refl
  none_led (s ∷ ss) e o =
      let q = nothing_of (leads_at by s) (flat_map (leads_at by) ss) e in
      ap₂ (λ (xs : List ClientMsg) (ys : List ClientMsg). xs ++ ys)
      (ap (λ (ls : List Leading). flat_map (λ (z : Leading). question_of o) ls)
      (map_none (λ (z : Leading). z.leader.txn) (filter (λ (z : Leading). z.leader.session.0 == by.0) s.leading) q.0))
      (none_led ss q.1 o)

  taken_still : LedHolds c → (later : Session → Lines) → LeavesLedClient by c later
      → taken_for (later by).client.led ≡ taken_for l.client.led
  taken_still held later waits = by_list (flat_map (leads_at by) c.servers) refl
    where
      by_list : (ts : List TxnNo) → flat_map (leads_at by) c.servers ≡ ts → taken_for (later by).client.led ≡ taken_for l.client.led
      by_list [] e = none_led c.servers e (later by).client.led ∙ sym (none_led c.servers e l.client.led)
      by_list (t ∷ ts) e =
          let own = λ (z : Leading). z.leader.session.0 == by.0 in
          let q = In_some (leads_at by) t c.servers (subst (In t) (sym e) (inl refl)) in
          let r = In-map (λ (z : Leading). z.leader.txn) t (filter own (q.0).leading) q.1.1 in
          let i = In-filter own r.0 (q.0).leading r.1.0 in
          let its : (r.0).leader.session ≡ by = one_session (r.0).leader.session by (passing own (q.0).leading r.0 r.1.0) in
          let z = held.leading q.0 q.1.0 r.0 i in
          let now : IsLedBy c.lines by (q.0).me z.led = subst (λ y. IsLedBy c.lines y (q.0).me z.led) its z.client in
          let then : IsLedBy later by (q.0).me z.led = waits (q.0).me z.led now (q.0, (q.1.0, inl (r.0, (i, its)))) in
          ap taken_for (then.led ∙ sym now.led)

  -- ## After a plan

  module _ {N : Type 0} (rest : List (ℕ × Answer)) (p : Plan N) where
    abbrev new : Ends
    new = record {
      client = committed p.ready l.client;
      up = pushed (message_in p.out.send) (ends_in c by).up;
      down = its_owed ++ messages rest;
    }

    abbrev then : Lines
    then = record { client = committed p.ready l.client; up = pushed p.out.send l.up; down = rest }

    abbrev after : Cluster
    after = after_plan by rest p c

    module _ (held : LedHolds c) (waits : LeavesLedClient by c after.lines)
        (one : OneExchange new.client new.client.exchange new.up new.down) where
      still : taken_for (committed p.ready l.client).led ≡ taken_for l.client.led
      still = ap (λ (z : Lines). taken_for z.client.led) (sym (ap (λ b. let z : Lines = cond b then l in z) (session_itself by)))
          ∙ taken_still held after.lines waits

      up_same : messages (pushed p.out.send l.up) ++ taken_for (committed p.ready l.client).led ≡ new.up
      up_same = ap (λ ts. messages (pushed p.out.send l.up) ++ ts) still ∙ by_sent p.out.send one
        where
          by_sent : (o : Option (ℕ × ClientMsg))
              → OneExchange new.client new.client.exchange (pushed (message_in o) (messages l.up ++ taken_for l.client.led)) new.down
              → messages (pushed o l.up) ++ taken_for l.client.led ≡ pushed (message_in o) (messages l.up ++ taken_for l.client.led)
          by_sent None h = refl
          by_sent (Some m) h =
              let none : messages l.up ++ taken_for l.client.led ≡ [] =
              none_before new.client new.client.exchange (messages l.up ++ taken_for l.client.led) m.1 new.down h in
              let both = nothing_of (messages l.up) (taken_for l.client.led) none in
              ap (λ ms. ms ++ taken_for l.client.led) (messages_append l.up (m ∷ []))
              ∙ ap₂ (λ (ms : List ClientMsg) (ts : List ClientMsg). (ms ++ m.1 ∷ []) ++ ts) both.0 both.1
              ∙ sym (ap (λ ms. ms ++ m.1 ∷ []) none)

      ends_planned : (y : Session) → ends_in after y ≡ with_ends by new (ends_in c) y
      ends_planned y = elim (by.0 == y.0) as
          (λ b. (by.0 == y.0) ≡ b → ends_with y c.servers (let z : Lines = cond b then (c.lines y) in z)
          ≡ (let z : Ends = cond b new (ends_in c y) in z)) [
            | true ↦ λ e. subst (λ z. ends_with z c.servers then ≡ new) (one_session by y e)
                (ap (λ u. let z : Ends = record { client = committed p.ready l.client; up = u; down = its_owed ++ messages rest } in z) up_same)
            | false ↦ λ e. refl
          ] refl

    module _ (skew greatest : ℕ) (h : ClusterHolds skew greatest c) (few : (m : ℕ × Answer) → In m rest → In m l.down)
        (posted : IsPosted p) (waits : LeavesLedClient by c after.lines) (led : LedHolds after)
        (seen : (s : Server) → In s c.servers
        → WorldStands greatest (world.after_plan by (its_owed ++ messages rest) p (world_of s c))) where
      one : OneExchange new.client new.client.exchange new.up new.down
      one =
          let q = some_server c h.places in
          subst (λ (e : Ends). OneExchange e.client e.client.exchange e.up e.down) (ends_here by new (ends_in c))
          (((seen q.0 q.1).0).exchanges by).one

      seen_then : (s : Server) → In s c.servers → WorldStands greatest (world_of s after)
      seen_then s i = subst (λ (es : Session → Ends). WorldStands greatest (record {
        server = with_all s c;
        counts = counts_of c.servers;
        decided = decided_in c;
        journal = pushed p.out.admitted c.journal;
        replied = with_told by (told_by by p.ready.change p.out.admitted) c.replied;
        ends = es;
      })) (sym (fun_ext (ends_planned h.led waits one))) (seen s i)

      pub plan_stands : ClusterHolds skew greatest after
      plan_stands =
          let own : IsAddressed then =
          addressed_among p l rest (taken_for (committed p.ready l.client).led) its_owed few posted
          (subst (λ us. OneExchange new.client new.client.exchange us new.down) (sym (up_same h.led waits one)) one) (h.addressed by) in
          record {
            parts = seen_then;
            skewed = h.skewed;
            addressed = λ y. elim (by.0 == y.0) as (λ b. IsAddressed (cond b then (c.lines y))) [ true ↦ own | false ↦ h.addressed y ];
            places = places_later c (pushed p.out.admitted c.journal) (with_told by (told_by by p.ready.change p.out.admitted) c.replied)
                (with_lines by then c.lines) (λ id. made_later c.journal p.out.admitted id) h.places;
            led = led;
            peers = h.peers;
          }

module _ (skew greatest : ℕ) (c : Cluster) (by : Session) (h : ClusterHolds skew greatest c) where
  abbrev lines : Lines
  lines = c.lines by

  abbrev its : List Answer
  its = owed_to by c.servers

  few_one : length (ends_in c by).up + length (due (ends_in c by).down) ≤ 1
  few_one = let q = some_server c h.places in one_each skew greatest c h q.0 q.1 by

  pub turn_stands : (now : ℕ) → ClusterHolds skew greatest (after_client by now Turns c)
  turn_stands now =
      plan_stands c by lines.down (turn_plan lines.client now) skew greatest h (λ m i. i) (turn_posted (begun now lines.client))
      (client_waits by c few_one now Turns tt) (waiting_keeps_led by now Turns c h.led few_one tt)
      (λ s i. (
        turn_keeps greatest now (world_of s c) by (h.parts s i).0,
        client_fits now (world_of s c) by world.Turns tt tt (h.parts s i).1,
      ))

  pub does_stands : (now : ℕ) (o : Op) → is_called o ≡ true → greatest ≤ now + skew
      → ClusterHolds skew greatest (after_client by now (Does o) c)
  does_stands now o called within =
      plan_stands c by lines.down (act_plan lines.client now o) skew greatest h (λ m i. i)
      (act_posted lines.client.over o (begun now lines.client)) (client_waits by c few_one now (Does o) called)
      (waiting_keeps_led by now (Does o) c h.led few_one called)
      (λ s i. (
        client_keeps greatest now (world_of s c) by (h.parts s i).0 (world.Does o) called
            (subst (λ n. greatest ≤ now + n) (sym (h.skewed s i)) within),
        client_fits now (world_of s c) by (world.Does o) called tt (h.parts s i).1,
      ))

  -- with any reading the root's kind joins the journal in place of what is read
  abbrev pub plainly : ℕ → Op → Plan Act
  plainly now o = with_items (λ i. plain_read (nodes_of (held_seen c)) by lines.client.next) (act_plan lines.client now o)

  pub plain_stands : (now : ℕ) (o : Op) → is_called o ≡ true → ClusterHolds skew greatest (after_plan by lines.down (plainly now o) c)
  plain_stands now o called =
      let q : LedHolds (after_client by now (Does o) c) = waiting_keeps_led by now (Does o) c h.led few_one called in
      plan_stands c by lines.down (plainly now o) skew greatest h (λ m i. i) (act_posted lines.client.over o (begun now lines.client))
      (client_waits by c few_one now (Does o) called)
      (record {
        parts = q.parts;
        stages = q.stages;
        leading = q.leading;
        ending = q.ending;
        ready = q.ready;
        locks = q.locks;
        files = q.files;
        few = q.few;
        told = q.told;
      })
      (λ s i. (
        acts_plainly greatest now (world_of s c) by (h.parts s i).0 o called,
        plan_fits by (ends_in c by).down (plainly now o) (world_of s c) (λ d j same none. none) (h.parts s i).1,
      ))

  -- ## An answer, which may have overtaken those of other servers

  module _ (from : ℕ) (a : Answer) (can : CanCome by (Hears from a) c) where
    coming : In (from, a) lines.down
    coming = (found (is_with from) lines.down (from, a) can).0

    taken : IsTaken (is_with from) lines.down (from, a)
    taken = taken_first (is_with from) lines.down (from, a) can

    abbrev front : List Answer
    front = its ++ messages taken.front

    abbrev back : List Answer
    back = messages taken.back

    abbrev rest : List (ℕ × Answer)
    rest = without_first (is_with from) lines.down

    order : (ends_in c by).down ≡ front ++ a ∷ back
    order =
        ap (λ ms. its ++ ms) (ap messages taken.whole ∙ messages_append taken.front ((from, a) ∷ taken.back))
        ∙ sym (append_assoc its (messages taken.front) (a ∷ back))

    left : its ++ messages rest ≡ front ++ back
    left =
        ap (λ (ms : List (ℕ × Answer)). its ++ messages ms) taken.left
        ∙ ap (λ ms. its ++ ms) (messages_append taken.front taken.back)
        ∙ sym (append_assoc its (messages taken.front) back)

    -- a session for which something is decided is owed the answer, and no other is due to it
    some_owed : (txn : TxnNo) (o : Option Server) → slice_get c.servers txn.server ≡ o → (x : Ending) → ending_of txn (ending_at o) ≡ Some x
        → x.session ≡ by → 1 ≤ length its
    some_owed txn None e x f own = absurd (cc f)
    some_owed txn (Some z) e x f own =
        owed by c few_one z (In-got c.servers txn.server z e) x (found (λ (y : Ending). same_txn y.txn txn) z.ending x f).0 own

    none_decided : is_recall a ≡ false → (d : Decided) → In d (decided_in c) → (d.by.0 == by.0) ≡ true → ⊥
    none_decided e d i same =
        let q = deciding_in c.servers c.in_flight d i in
        let txn : TxnNo = (q.1.1).message.txn in
        let more : 1 ≤ length its = some_owed txn (slice_get c.servers txn.server) refl (q.1.1).ending (q.1.1).ended
        (sym (q.1.1).session ∙ one_session d.by by same) in
        let heard : List Answer = messages lines.down in
        let down : length (due (ends_in c by).down) ≡ length its + length (due heard) =
        ap length (due_both its heard ∙ ap (λ ys. ys ++ due heard) (all_owed_due by c.servers)) ∙ length-append its (due heard) in
        let told : 1 ≤ length (due heard) = some_there a (due heard) (kept_in (λ (x : Answer). not (is_recall x)) a heard
        (In-mapped (λ (m : ℕ × Answer). m.1) (from, a) lines.down coming) (ap not e)) in
        let one : length (ends_in c by).up + length (due (ends_in c by).down) ≤ 1 = few_one in
        absurd (omega (arith, one, down, told, more))

    module _ (now : ℕ) (s : Server) (i : In s c.servers) where
      abbrev w : World
      w = world_of s c

      abbrev its_ends : Ends
      its_ends = record { client = lines.client; up = (ends_in c by).up; down = a ∷ (front ++ back) }

      abbrev first : World
      first = with_first by (a ∷ (front ++ back)) w

      abbrev plan : Plan ClientNote
      plan = answer_plan lines.client now from a

      first_holds : WorldHolds greatest first
      first_holds = reordered greatest w by front back a order (h.parts s i).0

      here : first.ends by ≡ its_ends
      here = ends_here by its_ends (ends_in c)

      -- where the session's ends before it were these
      abbrev heard : Ends → (Session → Ends) → World
      heard e before =
          let p = answer_plan e.client now from a in
          record {
            server = with_all s c;
            counts = counts_of c.servers;
            decided = decided_in c;
            journal = pushed p.out.admitted c.journal;
            replied = with_told by (told_by by p.ready.change p.out.admitted) c.replied;
            ends = with_ends by
                (record { client = committed p.ready e.client; up = pushed (message_in p.out.send) e.up; down = front ++ back }) before;
          }

      heard_holds : WorldHolds greatest (heard its_ends first.ends)
      heard_holds = subst (λ (e : Ends). WorldHolds greatest (heard e first.ends)) here
          (hear_keeps greatest now first by first_holds from a (front ++ back) (ap (λ (e : Ends). e.down) here)
          (λ d. ap (λ (e : Ends). asked_server e.client.exchange) here ∙ (h.addressed by).down (from, a) coming d))

      seen_holds : WorldHolds greatest (world.after_plan by (its ++ messages rest) plan w)
      seen_holds =
          let d : Ends = record {
            client = committed plan.ready lines.client;
            up = pushed (message_in plan.out.send) (ends_in c by).up;
            down = front ++ back;
          } in
          subst (λ down. WorldHolds greatest (world.after_plan by down plan w)) (sym left)
          (subst (λ (es : Session → Ends). WorldHolds greatest (record {
            server = with_all s c;
            counts = counts_of c.servers;
            decided = decided_in c;
            journal = pushed plan.out.admitted c.journal;
            replied = with_told by (told_by by plan.ready.change plan.out.admitted) c.replied;
            ends = es;
          })) (fun_ext (ends_twice by d its_ends (ends_in c))) heard_holds)

      still_due : (d : Decided) → In d (decided_in c) → (d.by.0 == by.0) ≡ true → due (its ++ messages rest) ≡ []
          → due (ends_in c by).down ≡ []
      still_due d j same none = by_kind (is_recall a) refl
        where
          by_kind : (b : Bool) → is_recall a ≡ b → due (ends_in c by).down ≡ []
          by_kind true e =
              ap due order ∙ due_both front (a ∷ back)
              ∙ ap (λ (b : Bool). due front ++ cond (not b) (a ∷ due back) (due back)) e
              ∙ sym (due_both front back) ∙ ap due (sym left) ∙ none
          by_kind false e = absurd (none_decided e d j same)

      seen_hears : WorldStands greatest (world.after_plan by (its ++ messages rest) plan w)
      seen_hears = (seen_holds, plan_fits by (its ++ messages rest) plan w still_due (h.parts s i).1)

      -- the answer fits
      not_strange : plan.out.note ≢ note.Strange
      not_strange = subst (λ (d : Client). (answer_plan d now from a).out.note ≢ note.Strange) (ap (λ (e : Ends). e.client) here)
          (never_strange greatest now first by first_holds from a (front ++ back) (
            ap (λ (e : Ends). e.down) here,
            λ d. ap (λ (e : Ends). asked_server e.client.exchange) here ∙ (h.addressed by).down (from, a) coming d,
          ))

    pub answer_known : (now : ℕ) → (answer_plan lines.client now from a).out.note ≢ note.Strange
    answer_known now = let q = some_server c h.places in not_strange now q.0 q.1

    pub hears_stands : (now : ℕ) → ClusterHolds skew greatest (after_client by now (Hears from a) c)
    hears_stands now =
        plan_stands c by rest (answer_plan lines.client now from a) skew greatest h
        (λ m i. In_without (is_with from) lines.down m i) (hear_posted from a (begun now lines.client))
        (client_waits by c few_one now (Hears from a) can) (waiting_keeps_led by now (Hears from a) c h.led few_one can)
        (λ s i. seen_hears now s i)

  pub client_stands : (now : ℕ) (e : ClientEvent) → CanCome by e c → greatest ≤ now + skew
      → ClusterHolds skew greatest (after_client by now e c)
  client_stands now (Does o) can within = does_stands now o can within
  client_stands now Turns can within = turn_stands now
  client_stands now (Hears from a) can within = hears_stands from a can now
