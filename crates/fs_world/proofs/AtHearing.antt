-- What a server does with what it heard.
use Rattle.std.proofs.Common.{◌≡◌, ℕ, ◌<◌, ◌≤◌, ◌==◌, Bool, List, [], ◌∷◌, ◌++◌, length, true, false, refl, ap, sym, ◌∙◌, subst, cond, inl}
use Rattle.std.proofs.Common.{inr, arith}
use Rattle.std.specs.Prelude.{◌&&◌, Option, Some, None, Result, Ok, Err, IfOk, OnOk}
use Rattle.fs_ident.specs.In.{In}
use Rattle.fs_ident.specs.declared.actor.Peer.{Peer}
use Rattle.fs_ident.specs.declared.actor.Peer.TheVariants.{Server, Client}
use Rattle.fs_frag.specs.declared.joined.Joined.{Joined}
use Rattle.fs_actor.specs.Actor.{first_spent, is_full_down}
use Rattle.fs_actor.specs.Hearing.{event_heard}
use Rattle.fs_actor.specs.Several.{ServerRun, server_begins, server_hears_one, server_replies, server_takes_all}
use Rattle.fs_actor.proofs.Several.{server_of_one, server_of_several}
use Rattle.fs_msg.specs.declared.core_error.CoreError.{CoreError}
use Rattle.fs_msg.specs.declared.core_error.Counter.{Counter}
use Rattle.fs_msg.specs.declared.item.Item.{Item}
use Rattle.fs_msg.specs.declared.msg.Msg.{Msg}
use Rattle.fs_msg.specs.declared.msg.Msg.TheVariants as msg
use Rattle.fs_schedule.specs.declared.outcome.Outcome.{Outcome}
use Rattle.fs_serial.specs.Cluster.{in_flight_from, is_between, without_first}
use Rattle.fs_serial.specs.declared.in_flight.InFlight.{InFlight}
use Rattle.fs_server.specs.Step.{spent_by, step}
use Rattle.fs_server.specs.declared.event.ServerEvent.{ServerEvent}
use Rattle.fs_server.specs.declared.state.Server.{Server as Core}
use Rattle.fs_window.specs.Peers.{same_peer}
use Rattle.fs_window.specs.Post.{Links}
use Rattle.fs_window.specs.declared.heard.Heard.{Heard}
use Rattle.fs_world.specs.Calls.{IsServerRun, server_heard, server_hears, server_left}
use Rattle.fs_world.specs.Calls.{server_hears_one as server_hears_one_at}
use Rattle.fs_world.specs.Linked.{FitsDown}
use Rattle.fs_world.specs.Packets.{Packets}
use Rattle.fs_world.specs.Planned.{IsAnswered, run_of}
use Rattle.fs_world.specs.Served.{SessionStates, ServerStepped, core_step, flying_without_each, sessions_without_each, server_ran}
use Rattle.fs_world.specs.Served.{with_downs}
use Rattle.fs_world.proofs.LinkedStates.{turned_apart}
use Rattle.fs_world.proofs.ServerNext.{sessions_cross}

-- ## What was joined is taken off

-- what goes out does not stand in the way of what came in
none_first : {X : Type 0} (is : X → Bool) (ys : List X) → ((y : X) → In y ys → is y ≡ false) → without_first is ys ≡ ys
none_first is [] none = refl
none_first {X} is (y ∷ ys) none = rw (none y (inl refl)) (ap (λ (l : List X). y ∷ l) (none_first is ys (λ z i. none z (inr i))))

first_before : {X : Type 0} (is : X → Bool) (xs ys : List X) → ((y : X) → In y ys → is y ≡ false)
    → without_first is (xs ++ ys) ≡ without_first is xs ++ ys
first_before is [] ys none = none_first is ys none
first_before {X} is (z ∷ zs) ys none = either (is z) (first_before is zs ys none)
  where
    either : (b : Bool) → without_first is (zs ++ ys) ≡ without_first is zs ++ ys
        → cond b (zs ++ ys) (z ∷ without_first is (zs ++ ys)) ≡ cond b zs (z ∷ without_first is zs) ++ ys
    either true h = refl
    either false h = ap (λ (l : List X). z ∷ l) h

from_there : (k : ℕ) (xs : List (Peer × Msg)) (f : InFlight) → In f (in_flight_from k xs) → f.from ≡ k
from_there k [] f i = absurd i
from_there k ((Client s, m) ∷ xs) f i = from_there k xs f i
from_there k ((Server to, msg.Answer a) ∷ xs) f i = from_there k xs f i
from_there k ((Server to, msg.Client m) ∷ xs) f i = from_there k xs f i
from_there k ((Server to, msg.Peer m) ∷ xs) f (inl e) = ap (λ (g : InFlight). g.from) e
from_there k ((Server to, msg.Peer m) ∷ xs) f (inr i) = from_there k xs f i

one_false : (a b : Bool) → a ≡ false → (a && b) ≡ false
one_false true b e = absurd (cc)
one_false false b e = refl

goes_out : (j k : ℕ) (xs : List (Peer × Msg)) → same_peer (Server j) (Server k) ≡ false → (f : InFlight) → In f (in_flight_from k xs)
    → is_between j k f ≡ false
goes_out j k xs apart f i = one_false (f.from == j) (f.to == k) (ap (λ (n : ℕ). n == j) (from_there k xs f i) ∙ turned_apart j k apart)

flying_apart : {Y : Type 0} (k : ℕ) (from : Peer) (ys : List Y) (xs : List (Peer × Msg)) (in_flight : List InFlight)
    → same_peer from (Server k) ≡ false → flying_without_each k from ys (in_flight ++ in_flight_from k xs) ≡ flying_without_each k from ys
    in_flight ++ in_flight_from k xs
flying_apart k from [] xs in_flight apart = refl
flying_apart {Y} k (Client s) (y ∷ ys) xs in_flight apart = flying_apart k (Client s) ys xs in_flight apart
flying_apart {Y} k (Server j) (y ∷ ys) xs in_flight apart =
    ap (flying_without_each {Y = Y} k (Server j) ys) (first_before (is_between j k) in_flight (in_flight_from k xs) (goes_out j k xs apart))
    ∙ flying_apart k (Server j) ys xs (without_first (is_between j k) in_flight) apart

-- what was joined is taken off behind the steps as well as before them
pub gone_after : (now k : ℕ) (from : Peer) (replied : Option Peer) (h : Heard) (x y : ServerStepped) (sessions : SessionStates)
    (in_flight : List InFlight) → same_peer from (Server k) ≡ false → y ≡ server_heard now k from replied h x
    → sessions ≡ sessions_without_each k from h.joined y.sessions → in_flight ≡ flying_without_each k from h.joined y.in_flight
    → record y { sessions = sessions; in_flight = in_flight } ≡ server_hears now k from replied h x
gone_after now k from replied h x y sessions in_flight apart is gone left =
    let run : ServerRun = server_takes_all now from replied (record { links = x.post; heard = h }) x.server in
    let sessions_are : sessions ≡ with_downs k run.send (sessions_without_each k from h.joined x.sessions) = gone
    ∙ ap (λ (z : ServerStepped). sessions_without_each k from h.joined z.sessions) is
    ∙ sessions_cross k from h.joined run.send x.sessions in
    let flying_is : in_flight ≡ flying_without_each k from h.joined x.in_flight ++ in_flight_from k run.send = left
    ∙ ap (λ (z : ServerStepped). flying_without_each k from h.joined z.in_flight) is
    ∙ flying_apart k from h.joined run.send x.in_flight apart in
    λ i. record (is i) { sessions = sessions_are i; in_flight = flying_is i }

-- ## One message at most

-- there is nothing to answer
pub unheard_answered : (now : ℕ) (from : Peer) (joined : List Joined) (x : ServerStepped) → length joined ≤ 1
    → None ≡ event_heard from joined → IsAnswered now from joined x
unheard_answered now from [] x few e = (tt, refl)
unheard_answered now from (j ∷ []) x few e =
    subst (λ (o : Option ServerEvent). let y : ServerRun = server_hears_one now o (server_begins x.server x.post []) in
    FitsDown y.send × (y.spent ≡ None)) e (tt, refl)
unheard_answered now from (j ∷ i ∷ js) x few e = absurd (omega arith)

heard_answered : (now : ℕ) (from : Peer) (joined : List Joined) (x : ServerStepped) (e : ServerEvent) → length joined ≤ 1
    → Some e ≡ event_heard from joined → FitsDown (step x.server now e).out.send
    → first_spent (spent_by x.server now e) (is_full_down (step x.server now e).out.send x.post) ≡ None → IsAnswered now from joined x
heard_answered now (Client s) [] x e few is fits none = absurd (cc)
heard_answered now (Server j) [] x e few is fits none = absurd (cc)
heard_answered now from (j ∷ []) x e few is fits none =
    subst (λ (o : Option ServerEvent). let y : ServerRun = server_hears_one now o (server_begins x.server x.post []) in
    FitsDown y.send × (y.spent ≡ None)) is (fits, none)
heard_answered now from (j ∷ i ∷ js) x e few is fits none = absurd (omega arith)

pub answered_after : (r : Result Outcome CoreError) (k : ℕ) (from : Peer) (to : Option Peer) (now : ℕ) (joined : List Joined)
    (x : ServerStepped) (e : ServerEvent) (left : Outcome → ServerStepped) → length joined ≤ 1 → Some e ≡ event_heard from joined
    → OnOk r (FitsDown (step x.server now e).out.send) → ((o : Outcome) → (left o).spent ≡ None)
    → IfOk r (λ outcome. left outcome ≡ core_step k false to now e x) → OnOk r (IsAnswered now from joined x)
answered_after (Ok o) k from to now joined x e left few is fits none done =
    heard_answered now from joined x e few is fits (sym (ap (λ (y : ServerStepped). y.spent) done) ∙ none o)
answered_after (Err o) k from to now joined x e left few is fits none done = tt

pub heard_as_one : (now k : ℕ) (from : Peer) (replied : Option Peer) (h : Heard) (x : ServerStepped) → length h.joined ≤ 1
    → server_heard now k from replied h x ≡ server_hears_one_at now k replied h (event_heard from h.joined) x
heard_as_one now k from replied h x few = ap (λ (y : ServerRun). server_ran k y x) (server_of_one now from replied x.post h x.server few)

-- ## Several

pub heard_each : (now k : ℕ) (from : Peer) (replied : Option Peer) (h : Heard) (x : ServerStepped) → 1 < length h.joined
    → server_heard now k from replied h x ≡ server_ran k (server_replies replied (run_of now from h.joined x)) x
heard_each now k from replied h x several =
    ap (λ (y : ServerRun). server_ran k y x) (server_of_several now from replied x.post h x.server several)

run_left : (k : ℕ) (y : ServerRun) (x : ServerStepped) (outcome : Outcome) (s : Core) (post : Links) (sessions : SessionStates)
    (in_flight : List InFlight) (journal : List Item) (packets : Packets)
    → IsServerRun y k x outcome s post sessions in_flight journal packets
    → server_left outcome s post sessions in_flight journal packets ≡ server_ran k y x
run_left k y x outcome s post sessions in_flight journal packets r =
    λ i. made (r.server_then i) (r.post_then i) (r.sessions_then i) (r.flying_then i) (r.journal_then i) (r.packets_then i)
    (r.outcome_then i) (sym r.unspent i)
  where
    made : Core → Links → SessionStates → List InFlight → List Item → Packets → Outcome → Option Counter → ServerStepped
    made s post sessions in_flight journal packets outcome spent = record {
      server = s;
      post = post;
      sessions = sessions;
      in_flight =
          in_flight;
      journal = journal;
      packets = packets;
      outcome = outcome;
      spent = spent;
    }

pub several_left : (now k : ℕ) (from : Peer) (replied : Option Peer) (h : Heard) (x : ServerStepped) (outcome : Outcome) (s : Core)
    (post : Links) (sessions : SessionStates) (in_flight : List InFlight) (journal : List Item) (packets : Packets) → 1 < length h.joined
    → IsServerRun (server_replies replied (run_of now from h.joined x)) k x outcome s post sessions in_flight journal packets
    → server_left outcome s post sessions in_flight journal packets ≡ server_heard now k from replied h x
several_left now k from replied h x outcome s post sessions in_flight journal packets several r =
    run_left k (server_replies replied (run_of now from h.joined x)) x outcome s post sessions in_flight journal packets r
    ∙ sym (heard_each now k from replied h x several)

-- the run of a copy is that of the server itself
pub run_alike : (now k : ℕ) (from : Peer) (replied : Option Peer) (joined heard : List Joined) (copy : Core) (x : ServerStepped)
    (outcome : Outcome) (s : Core) (post : Links) (sessions : SessionStates) (in_flight : List InFlight) (journal : List Item)
    (packets : Packets)
    → joined ≡ heard → copy ≡ x.server
    → IsServerRun (server_replies replied (run_of now from joined (record x { server = copy }))) k (record x {
      server =
          copy;
    }) outcome s post sessions in_flight journal packets
    → IsServerRun (server_replies replied (run_of now from heard x)) k x outcome s post sessions in_flight journal packets
run_alike now k from replied joined heard copy x outcome s post sessions in_flight journal packets same twin r =
    subst (λ (c : Core). IsServerRun (server_replies replied (run_of now from heard (record x { server = c }))) k (record x {
      server =
          c;
    }) outcome s post sessions in_flight journal packets) twin
    (subst (λ (js : List Joined). IsServerRun (server_replies replied (run_of now from js (record x { server = copy }))) k
    (record x { server = copy }) outcome s post sessions in_flight journal packets) same r)

pub fits_alike : (now : ℕ) (from : Peer) (joined heard : List Joined) (copy : Core) (x : ServerStepped) → joined ≡ heard → copy ≡ x.server
    → FitsDown (run_of now from joined (record x { server = copy })).send → FitsDown (run_of now from heard x).send
fits_alike now from joined heard copy x same twin f =
    subst (λ (c : Core). FitsDown (run_of now from heard (record x { server = c })).send) twin
    (subst (λ (js : List Joined). FitsDown (run_of now from js (record x { server = copy })).send) same f)
