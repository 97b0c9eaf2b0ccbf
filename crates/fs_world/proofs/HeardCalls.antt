-- What the calls of a session that hears come to: with one message at most, and with several.
use Rattle.std.proofs.Common.{◌≡◌, ◌⊎◌, ℕ, ◌<◌, ◌≤◌, List, [], ◌∷◌, ◌++◌, length, Option, Some, None, Result, Ok, Err, IsErrOf, refl, sym}
use Rattle.std.proofs.Common.{ap, subst, ◌∙◌, append-nil, inl, inr}
use Rattle.std.specs.Prelude.{OnOk}
use Rattle.fs_ident.specs.declared.actor.Peer.{Peer}
use Rattle.fs_ident.specs.declared.actor.Peer.TheVariants.{Client, Server}
use Rattle.fs_ident.specs.declared.actor.Session.{Session}
use Rattle.fs_frag.specs.declared.joined.Joined.{Joined}
use Rattle.fs_window.specs.Post.{Links}
use Rattle.fs_window.specs.declared.heard.Heard.{Heard}
use Rattle.fs_msg.specs.declared.answer.Answer.{Answer}
use Rattle.fs_msg.specs.declared.client_msg.ClientMsg.{ClientMsg}
use Rattle.fs_msg.specs.declared.core_error.CoreError.{CoreError}
use Rattle.fs_msg.specs.declared.core_error.CoreError.TheVariants as errors
use Rattle.fs_msg.specs.declared.core_error.Counter.{Counter}
use Rattle.fs_msg.specs.declared.item.Item.{Item}
use Rattle.fs_actor.specs.Actor.{ClientStep}
use Rattle.fs_actor.specs.Comes.{client_took}
use Rattle.fs_actor.specs.Hearing.{answer_heard}
use Rattle.fs_actor.specs.Laws.{client_alone}
use Rattle.fs_actor.specs.Listed.{listed}
use Rattle.fs_actor.specs.Several.{ClientRun, client_begins, client_hears_each, client_replies}
use Rattle.fs_actor.proofs.Several.{client_of_one, client_of_several}
use Rattle.fs_client.specs.declared.state.Client.{Client as ClientCore}
use Rattle.fs_schedule.specs.declared.outcome.Outcome.{Outcome}
use Rattle.fs_world.specs.Calls.{IsRun, Spends, client_heard, client_hears_one, session_left}
use Rattle.fs_world.specs.Packets.{Packets, numbers_from, with_sent}
use Rattle.fs_world.specs.Served.{SessionStepped, session_ran, session_stepped, up_after, with_read}
use Rattle.fs_world.specs.declared.servers.session_state.SessionState.{SessionState}
use Rattle.fs_world.proofs.HeardEach.{each_quiet}

-- ## One message at most

listed_up : (send : Option (ℕ × ClientMsg)) (up : List (ℕ × ClientMsg)) → up ++ listed send ≡ up_after send up
listed_up None up = append-nil up
listed_up (Some m) up = refl

listed_read : (admitted : Option Item) (journal : List Item) → journal ++ listed admitted ≡ with_read admitted journal
listed_read None journal = append-nil journal
listed_read (Some i) journal = refl

abbrev left : Session → ClientStep → List (ℕ × ClientMsg) → List (ℕ × Answer) → List Item → Packets → SessionStepped
left s x up down journal packets = record {
  state = record { client = x.client; post = x.post; up = up; down = down };
  journal = journal;
  packets = with_sent x.packets packets;
  outcome = record { who = Some (Client s); notes = x.note ∷ []; sent = numbers_from (length packets.sent) x.packets };
  spent = x.spent;
}

ran_alone : (s : Session) (c : ClientCore) (x : ClientStep) (down : List (ℕ × Answer)) (state : SessionState) (journal : List Item)
    (packets : Packets) → session_ran s (client_alone s c x) down state journal packets ≡ session_stepped s x down state journal packets
ran_alone s c x down state journal packets = λ i. left s x (listed_up x.send state.up i) down (listed_read x.admitted journal i) packets

pub heard_as_one : (now : ℕ) (s : Session) (k : ℕ) (from : Option Peer) (h : Heard) (state : SessionState) (journal : List Item)
    (packets : Packets) → length h.joined ≤ 1
    → client_heard now s k from h state journal packets ≡ client_hears_one now s k from h (answer_heard h.joined) state journal packets
heard_as_one now s k from h state journal packets few =
    ap (λ (x : ClientRun). session_ran s x state.down state journal packets)
    (client_of_one s now (Server k) from state.post h state.client few)
    ∙ ran_alone s state.client (client_took now (Server k) from h (record { client = state.client; post = state.post })) state.down state
    journal packets

-- ## Several

pub heard_each : (now : ℕ) (s : Session) (k : ℕ) (from : Option Peer) (h : Heard) (state : SessionState) (journal : List Item)
    (packets : Packets) → 1 < length h.joined
    → client_heard now s k from h state journal packets ≡ session_ran s
    (client_replies from (client_hears_each s now (Server k) h.joined (client_begins state.client state.post []))) state.down state
    journal packets
heard_each now s k from h state journal packets several = ap (λ (x : ClientRun). session_ran s x state.down state journal packets)
    (client_of_several s now (Server k) from state.post h state.client several)

run_left : (s : Session) (x : ClientRun) (outcome : Outcome) (c : ClientCore) (post : Links) (state : SessionState) (journal : List Item)
    (packets after : Packets) → x.send ≡ [] → x.admitted ≡ [] → IsRun x s packets outcome c post after
    → session_left outcome (record state { client = c; post = post }) journal after ≡ session_ran s x state.down state journal packets
run_left s x outcome c post state journal packets after silent still ran =
    let up : state.up ≡ state.up ++ x.send = sym (ap (λ (ms : List (ℕ × ClientMsg)). state.up ++ ms) silent ∙ append-nil state.up) in
    let items : journal ≡ journal ++ x.admitted = sym (ap (λ (is : List Item). journal ++ is) still ∙ append-nil journal) in
    λ i. made (ran.client_then i) (ran.post_then i) (up i) (items i) (ran.packets_then i) (ran.outcome_then i) (sym ran.unspent i)
  where
    made : ClientCore → Links → List (ℕ × ClientMsg) → List Item → Packets → Outcome → Option Counter → SessionStepped
    made c post up journal packets outcome spent = record {
      state = record { client = c; post = post; up = up; down = state.down };
      journal = journal;
      packets = packets;
      outcome = outcome;
      spent = spent;
    }

-- answers make it send nothing and admit nothing
pub several_left : (now : ℕ) (s : Session) (k : ℕ) (from : Option Peer) (h : Heard) (outcome : Outcome) (c : ClientCore) (post : Links)
    (state : SessionState) (journal : List Item) (packets after : Packets) → 1 < length h.joined
    → IsRun (client_replies from (client_hears_each s now (Server k) h.joined (client_begins state.client state.post []))) s packets
    outcome c post after
    → session_left outcome (record state { client = c; post = post }) journal after ≡ client_heard now s k from h state journal packets
several_left now s k from h outcome c post state journal packets after several ran =
    let q = each_quiet s now (Server k) h.joined (client_begins state.client state.post []) in
    run_left s (client_replies from (client_hears_each s now (Server k) h.joined (client_begins state.client state.post []))) outcome c
    post state journal packets after q.send q.admitted ran
    ∙ sym (heard_each now s k from h state journal packets several)

-- the run of a copy is that of the client itself
pub run_alike : (now : ℕ) (s : Session) (k : ℕ) (from : Option Peer) (joined heard : List Joined) (copy client c : ClientCore)
    (post links : Links) (outcome : Outcome) (packets after : Packets) → joined ≡ heard → copy ≡ client
    → IsRun (client_replies from (client_hears_each s now (Server k) joined (client_begins copy post []))) s packets outcome c links after
    → IsRun (client_replies from (client_hears_each s now (Server k) heard (client_begins client post []))) s packets outcome c links
    after
run_alike now s k from joined heard copy client c post links outcome packets after same twin ran =
    subst (λ (x : ClientRun). IsRun x s packets outcome c links after)
    (λ i. client_replies from (client_hears_each s now (Server k) (same i) (client_begins (twin i) post []))) ran

-- ## What is spent

pub spends_so : {T : Type 0} (r : Result T CoreError) (spent : Option Counter)
    → ((counter : Counter) → IsErrOf r (errors.Spent counter) → spent ≡ Some counter) → OnOk r (spent ≡ None) → Spends r spent
spends_so r spent given none = record { given_up = given; only = λ counter e. only r given none counter e }
  where
    only : {T : Type 0} (r : Result T CoreError) → ((counter : Counter) → IsErrOf r (errors.Spent counter) → spent ≡ Some counter)
        → OnOk r (spent ≡ None) → (counter : Counter) → spent ≡ Some counter
        → IsErrOf r (errors.Spent counter) ⊎ IsErrOf r errors.Memory
    only (Ok x) given none counter e = let gone : None ≡ Some counter = sym none ∙ e in absurd (cc)
    only {T} (Err (errors.Spent other)) given none counter e =
        let both : Some other ≡ Some counter = sym (given other refl) ∙ e in
        let same : other ≡ counter = cc in
        inl (ap (λ (n : Counter). let r : Result T CoreError = Err (errors.Spent n) in r) same)
    only (Err errors.Memory) given none counter e = inr refl
