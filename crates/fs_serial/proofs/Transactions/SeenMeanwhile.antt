-- What sessions see after a server's step that leaves its transactions: a question is taken, answers are sent, what is decided stays.
use mathlib.Core.Path.{fun_ext}
use Rattle.std.proofs.Common.{◌≡◌, ℕ, ◌==◌, true, false, List, [], ◌∷◌, ◌++◌, map, filter, cond, refl, sym, ap, ap₂, ◌∙◌, subst}
use Rattle.std.proofs.Common.{append-nil, append_assoc}
use Rattle.std.specs.Prelude.{Option, Some, slice_get, slice_set}
use Rattle.std.specs.List.{find, flat_map}
use Rattle.fs_ident.specs.In.{In}
use Rattle.fs_ident.specs.declared.actor.Peer.{Peer}
use Rattle.fs_ident.specs.declared.actor.Peer.TheVariants.{Client as OfSession}
use Rattle.fs_ident.specs.declared.actor.Session.{Session}
use Rattle.fs_ident.proofs.Passing.{found}
use Rattle.fs_ident.proofs.Same.{one_session}
use Rattle.fs_ident.proofs.Standing.{In-front, In-mapped}
use Rattle.fs_msg.specs.declared.answer.Answer.{Answer}
use Rattle.fs_msg.specs.declared.answer.Answer.TheVariants as answer
use Rattle.fs_msg.specs.declared.client_msg.ClientMsg.{ClientMsg}
use Rattle.fs_msg.specs.declared.msg.Msg.{Msg}
use Rattle.fs_msg.specs.declared.msg.Msg.TheVariants as msg
use Rattle.fs_client.specs.declared.led.Led.{Led}
use Rattle.fs_server.specs.Server.{Stepped}
use Rattle.fs_server.specs.declared.event.ServerEvent.{ServerEvent}
use Rattle.fs_server.specs.declared.event.ServerEvent.TheVariants as event
use Rattle.fs_server.specs.declared.state.Server.{Server}
use Rattle.fs_txn.specs.declared.leading.Ending.{Ending}
use Rattle.fs_txn.specs.declared.leading.Leading.{Leading}
use Rattle.fs_serial.specs.Cluster.{Cluster, IsThere, Lines, after_step, in_flight_from, is_with, with_answer, with_sent, without_arrived}
use Rattle.fs_serial.specs.Cluster.{without_first, without_question}
use Rattle.fs_serial.specs.Exchange.{OneExchange}
use Rattle.fs_serial.specs.Leading.{LeavesLed}
use Rattle.fs_serial.specs.Owed.{ends_in, ends_with, owed_to, question_of, taken_at, taken_leads, owed_at}
use Rattle.fs_serial.specs.Words.{decided_in, telling_of}
use Rattle.fs_serial.specs.World.{Ends}
use Rattle.fs_serial.specs.World as world
use Rattle.fs_serial.proofs.Lists.EachAt.{each_same}
use Rattle.fs_serial.proofs.Lists.Traffic.{alone, messages, messages_append}
use Rattle.fs_serial.proofs.OneServer.ServerEvents.{one_up}
use Rattle.fs_serial.proofs.Transactions.DecidedStill.{decided_same, ended_set}
use Rattle.fs_serial.proofs.Transactions.Desks.{telling_append}

-- ## Answers that are sent

meanwhile_answered : (k : ℕ) (to : Session) (a : Answer) (ss : List Server) (lines : Session → Lines) (x : Session)
    → ends_with x ss (with_answer k to a lines x) ≡ world.with_answer to a (λ y. ends_with y ss (lines y)) x
meanwhile_answered k to a ss lines x = elim (to.0 == x.0) as
    (λ b. ends_with x ss (let l : Lines = cond b (record (lines x) { down = (lines x).down ++ (k, a) ∷ [] }) (lines x) in l)
    ≡ cond b (let e : Ends = record (ends_with x ss (lines x)) { down = (ends_with x ss (lines x)).down ++ a ∷ [] } in e)
    (ends_with x ss (lines x))) [
      | true ↦ ap (λ d. let e : Ends =
          record { client = (lines x).client; up = messages (lines x).up ++ taken_leads x (lines x).client.led ss; down = d } in e)
          (ap (λ ms. owed_to x ss ++ ms) (messages_append (lines x).down ((k, a) ∷ []))
          ∙ sym (append_assoc (owed_to x ss) (messages (lines x).down) (a ∷ [])))
      | false ↦ refl
    ]

pub meanwhile_sent : (k : ℕ) (ms : List (Peer × Msg)) (ss : List Server) (lines : Session → Lines) (x : Session)
    → ends_with x ss (with_sent k ms lines x) ≡ world.with_sent ms (λ y. ends_with y ss (lines y)) x
meanwhile_sent k [] ss lines x = refl
meanwhile_sent k ((OfSession to, msg.Answer a) ∷ rest) ss lines x =
    meanwhile_sent k rest ss (with_answer k to a lines) x
    ∙ ap (λ (ends : Session → Ends). world.with_sent rest ends x) (fun_ext (λ y. meanwhile_answered k to a ss lines y))
meanwhile_sent k (m ∷ rest) ss lines x = meanwhile_sent k rest ss lines x

-- ## The question that is taken

only_front : {X : Type 0} (xs ys : List X) (m x : X) → xs ++ ys ≡ m ∷ [] → In x xs → (xs ≡ m ∷ []) × (ys ≡ [])
only_front [] ys m x e i = absurd i
only_front (z ∷ []) ys m x e i =
    let same : z ≡ m = cc in
    let none : ys ≡ [] = cc in
    (ap (λ w. w ∷ []) same, none)
only_front (z ∷ w ∷ ws) ys m x e i = absurd (cc)

module _ (k : ℕ) (by : Session) (m : ClientMsg) (ss : List Server) (lines : Session → Lines)
    (there : find (is_with k) (lines by).up ≡ Some (k, m))
    (one : OneExchange (lines by).client (lines by).client.exchange (ends_with by ss (lines by)).up (ends_with by ss (lines by)).down) where
  abbrev own : List ClientMsg
  own = messages (lines by).up

  abbrev taken : List ClientMsg
  taken = taken_leads by (lines by).client.led ss

  among : In m own
  among = In-mapped (λ (n : ℕ × ClientMsg). n.1) (k, m) (lines by).up (found (is_with k) (lines by).up (k, m) there).0

  -- it is the only one
  pub asked_up : (ends_with by ss (lines by)).up ≡ m ∷ []
  asked_up =
      one_up (lines by).client (lines by).client.exchange (ends_with by ss (lines by)).up (ends_with by ss (lines by)).down m
      (In-front m own taken among) one

  left : messages (without_first (is_with k) (lines by).up) ++ taken ≡ []
  left =
      let both = only_front own taken m m asked_up among in
      ap₂ (λ (ms : List (ℕ × ClientMsg)) (ts : List ClientMsg). messages ms ++ ts) (alone (lines by).up k m both.0 there).left both.1

  asked_taken : (x : Session)
      → ends_with x ss (without_question k (event.FromClient by m) lines x) ≡ world.without_question by (λ y. ends_with y ss (lines y)) x
  asked_taken x =
      let l : Lines = record (lines by) { up = without_first (is_with k) (lines by).up } in
      elim (by.0 == x.0) as (λ b. (by.0 == x.0) ≡ b → ends_with x ss (let z : Lines = cond b l (lines x) in z)
      ≡ cond b (let e : Ends = record (ends_with x ss (lines x)) { up = [] } in e) (ends_with x ss (lines x))) [
        | true ↦ λ t. subst (λ y. ends_with y ss l ≡ (let e : Ends = record (ends_with y ss (lines y)) { up = [] } in e))
            (one_session by x t)
            (ap (λ u. let e : Ends =
            record { client = (lines by).client; up = u; down = owed_to by ss ++ messages (lines by).down } in e) left)
        | false ↦ λ t. refl
      ] refl

pub meanwhile_taken : (k : ℕ) (e : ServerEvent) (c : Cluster) → IsThere k e c
    → ((x : Session) → OneExchange (c.lines x).client (c.lines x).client.exchange (ends_in c x).up (ends_in c x).down)
    → (x : Session) → ends_with x c.servers (without_question k e c.lines x) ≡ world.without_taken e (ends_in c) x
meanwhile_taken k (event.FromClient by m) c there one x = asked_taken k by m c.servers c.lines there (one by) x
meanwhile_taken k e c there one x = refl

-- ## The step

-- what is taken stays where what it leads does
pub taken_same : (ss : List Server) (k : ℕ) (s t : Server) → slice_get ss k ≡ Some s → t.leading ≡ s.leading → (y : Session)
    (led : Option Led) → taken_leads y led (slice_set ss k t) ≡ taken_leads y led ss
taken_same ss k s t at leading y led = each_same (taken_at y led) ss k s t at
    (ap (λ (ls : List Leading). flat_map (λ (l : Leading). question_of led)
    (filter (λ (l : Leading). l.leader.session.0 == y.0) ls)) leading)

-- what is owed stays where the endings do
pub owed_same : (ss : List Server) (k : ℕ) (s t : Server) → slice_get ss k ≡ Some s → t.ending ≡ s.ending → (y : Session)
    → owed_to y (slice_set ss k t) ≡ owed_to y ss
owed_same ss k s t at ending y = each_same (owed_at y) ss k s t at
    (ap (λ (es : List Ending). map (λ (z : Ending). answer.Led z.end) (filter (λ (z : Ending). z.session.0 == y.0) es)) ending)

module _ (ss : List Server) (k : ℕ) (s t : Server) (at : slice_get ss k ≡ Some s) (leading : t.leading ≡ s.leading)
    (ending : t.ending ≡ s.ending) where
  -- what is asked and owed stays where the server's tables do
  pub ends_same : (y : Session) (l : Lines) → ends_with y (slice_set ss k t) l ≡ ends_with y ss l
  ends_same y l =
      ap₂ (λ (ts : List ClientMsg) (os : List Answer). let z : Ends =
      record { client = l.client; up = messages l.up ++ ts; down = os ++ messages l.down } in z)
      (taken_same ss k s t at leading y l.client.led) (owed_same ss k s t at ending y)

module _ (k : ℕ) (e : ServerEvent) (s : Server) (x : Stepped) (c : Cluster) (at : slice_get c.servers k ≡ Some s)
    (q : LeavesLed k e s x c) where
  pub ends_after : IsThere k e c
      → ((y : Session) → OneExchange (c.lines y).client (c.lines y).client.exchange (ends_in c y).up (ends_in c y).down)
      → (y : Session) → ends_in (after_step k e x c) y ≡ world.with_sent x.out.send (world.without_taken e (ends_in c)) y
  ends_after there one y =
      ends_same c.servers k s x.server at q.leading q.ending y ((after_step k e x c).lines y)
      ∙ meanwhile_sent k x.out.send c.servers (without_question k e c.lines) y
      ∙ ap (λ (ends : Session → Ends). world.with_sent x.out.send ends y) (fun_ext (meanwhile_taken k e c there one))

  pub decided_after : decided_in (after_step k e x c) ≡ decided_in c
  decided_after =
      decided_same c.servers (slice_set c.servers k x.server) c.in_flight (without_arrived k e c.in_flight ++ in_flight_from k x.out.send)
      (ended_set c.servers k s x.server at q.ending)
      (telling_append (without_arrived k e c.in_flight) (in_flight_from k x.out.send) ∙ ap₂ (λ ms ns. ms ++ ns) q.taken q.words
      ∙ append-nil (telling_of c.in_flight))
