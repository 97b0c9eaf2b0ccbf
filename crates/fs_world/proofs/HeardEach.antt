-- What a session does with all that a packet of a server joins: these are answers of that server, its client hears one after another,
-- and it neither sends nor admits anything of them.
use Rattle.std.proofs.Common.{◌≡◌, ℕ, Bool, false, List, [], ◌∷◌, ◌++◌, length, map, filter, Option, Some, None, refl, sym, ap, subst, ◌∙◌}
use Rattle.std.proofs.Common.{append-nil, append_assoc}
use Rattle.std.specs.List.{find}
use Rattle.std.proofs.lemmas.Bool.{eqb-true}
use Rattle.fs_ident.specs.declared.actor.Peer.{Peer}
use Rattle.fs_ident.specs.declared.actor.Peer.TheVariants.{Server, Client}
use Rattle.fs_ident.specs.declared.actor.Session.{Session}
use Rattle.fs_ident.proofs.Passing.{found}
use Rattle.fs_frag.specs.declared.joined.Joined.{Joined}
use Rattle.fs_window.specs.Post.{Links, post_due}
use Rattle.fs_window.specs.declared.heard.Heard.{Heard}
use Rattle.fs_msg.specs.declared.answer.Answer.{Answer}
use Rattle.fs_msg.specs.declared.client_msg.ClientMsg.{ClientMsg}
use Rattle.fs_msg.specs.declared.core_error.Counter.{Counter}
use Rattle.fs_msg.specs.declared.item.Item.{Item}
use Rattle.fs_msg.specs.declared.msg.Msg.{Msg}
use Rattle.fs_msg.specs.declared.msg.Msg.TheVariants as msg
use Rattle.fs_msg.specs.declared.note.Note.{Note}
use Rattle.fs_msg.specs.declared.note.Note.TheVariants as note
use Rattle.fs_actor.specs.Actor.{first_spent, is_full_up, post_after}
use Rattle.fs_actor.specs.Hearing.{answer_from, message_in, quiet_note}
use Rattle.fs_actor.specs.Listed.{listed}
use Rattle.fs_actor.specs.Several.{ClientRun, client_begins, client_hears_each, client_hears_one, client_replies, first_of}
use Rattle.fs_actor.proofs.AsSent.{sent_read}
use Rattle.fs_client.specs.Answers.{answer_plan}
use Rattle.fs_client.specs.Client.{committed}
use Rattle.fs_client.specs.declared.state.Client.{Client as ClientCore}
use Rattle.fs_serial.specs.Cluster.{is_with, without_first}
use Rattle.fs_world.specs.Calls.{client_hears}
use Rattle.fs_world.specs.Carried.{AreFirstOf}
use Rattle.fs_world.specs.Packets.{Packets, numbers_from, with_sent}
use Rattle.fs_world.specs.Served.{SessionStepped, session_ran, without_each}
use Rattle.fs_world.specs.declared.servers.session_state.SessionState.{SessionState}
use Rattle.fs_world.proofs.LinkedLists.{first_gone, found_joined, later_first}
use Rattle.fs_world.proofs.NamedClients.{answer_admits, answer_silent}

-- ## What is heard

-- each of these is the next answer of the server of number k
abbrev pub AreNext : ℕ → List Answer → List (ℕ × Answer) → Type 0
AreNext k [] down = Unit {0}
AreNext k (a ∷ answers) down = (find (is_with k) down ≡ Some (k, a)) × AreNext k answers (without_first (is_with k) down)

-- what was joined are these answers of the server
abbrev pub AreAnswers : ℕ → List Joined → List Answer → Type 0
AreAnswers k [] [] = Unit {0}
AreAnswers k [] (a ∷ answers) = ⊥
AreAnswers k (j ∷ js) [] = ⊥
AreAnswers k (j ∷ js) (a ∷ answers) = (answer_from (Server k) (message_in j) ≡ Some (k, a)) × AreAnswers k js answers

abbrev as_sent : ℕ × Answer → Msg
as_sent m = msg.Answer m.1

first_answer : (k : ℕ) (down : List (ℕ × Answer)) (j : Joined) (js : List Joined)
    → AreFirstOf (j ∷ js) (map as_sent (filter (is_with k) down))
    → (a : Answer) × (find (is_with k) down ≡ Some (k, a)) × (answer_from (Server k) (message_in j) ≡ Some (k, a))
first_answer k down j js f = at (find (is_with k) down) refl
  where
    at : (o : Option (ℕ × Answer)) → find (is_with k) down ≡ o
        → (a : Answer) × (find (is_with k) down ≡ Some (k, a)) × (answer_from (Server k) (message_in j) ≡ Some (k, a))
    at None e = absurd (found_joined as_sent (is_with k) down (j ∷ js) None e f)
    at (Some m) e =
        let here = found_joined as_sent (is_with k) down (j ∷ js) (Some m) e f in
        let same : m.0 ≡ k = eqb-true m.0 k (found (is_with k) down m e).1 in
        (m.1, e ∙ ap (λ (n : ℕ). Some (n, m.1)) same, ap (answer_from (Server k)) (sent_read j (msg.Answer m.1) here.0.0 here.0.1))

-- what comes first of the answers on their way is answers, each the next one
pub answers_in : (k : ℕ) (js : List Joined) (down : List (ℕ × Answer)) → AreFirstOf js (map as_sent (filter (is_with k) down))
    → (answers : List Answer) × AreAnswers k js answers × AreNext k answers down
answers_in k [] down f = ([], tt, tt)
answers_in k (j ∷ js) down f =
    let first = first_answer k down j js f in
    let rest = answers_in k js (without_first (is_with k) down) (subst (λ (ms : List (ℕ × Answer)). AreFirstOf js (map as_sent ms))
    (sym (first_gone (is_with k) down)) (later_first as_sent j js (filter (is_with k) down) f)) in
    (first.0 ∷ rest.0, (first.2, rest.1), (first.1, rest.2))

-- as many go
pub gone_alike : {X : Type 0} (k : ℕ) (js : List Joined) (answers : List Answer) (is : X → Bool) (xs : List X) → AreAnswers k js answers
    → without_each js is xs ≡ without_each answers is xs
gone_alike k [] [] is xs h = refl
gone_alike k [] (a ∷ answers) is xs h = absurd h
gone_alike k (j ∷ js) [] is xs h = absurd h
gone_alike k (j ∷ js) (a ∷ answers) is xs h = gone_alike k js answers is (without_first is xs) h.1

-- ## What the client makes of it

-- the client once it heard these
abbrev pub heard_all : ℕ → ℕ → List Answer → ClientCore → ClientCore
heard_all now k [] c = c
heard_all now k (a ∷ answers) c = heard_all now k answers (committed (answer_plan c now k a).ready c)

-- what it notes of them
abbrev pub notes_all : ℕ → ℕ → List Answer → ClientCore → List Note
notes_all now k [] c = []
notes_all now k (a ∷ answers) c =
    note.Client (answer_plan c now k a).out.note ∷ notes_all now k answers (committed (answer_plan c now k a).ready c)

-- what stands at the session then
abbrev pub session_after : ℕ → ℕ → List Answer → Links → SessionState → SessionState
session_after now k answers post state = record {
  client = heard_all now k answers state.client;
  post = post;
  up = state.up;
  down =
      without_each answers (is_with k) state.down;
}

-- nothing is sent and nothing is admitted in between
pub record IsQuiet (x y : ClientRun) : Type 0 where
  pub post : y.post ≡ x.post
  pub send : y.send ≡ x.send
  pub admitted : y.admitted ≡ x.admitted
  pub spent : y.spent ≡ x.spent

unspent : (o : Option Counter) → first_of o None ≡ o
unspent None = refl
unspent (Some counter) = refl

one_quiet : (s : Session) (now : ℕ) (o : Option (ℕ × Answer)) (x : ClientRun) → IsQuiet x (client_hears_one s now o x)
one_quiet s now None x = record { post = refl; send = refl; admitted = refl; spent = refl }
one_quiet s now (Some a) x =
    let silent = answer_silent x.client now a.0 a.1 in
    record {
      post = ap (λ (m : Option (ℕ × ClientMsg)). post_after m x.post) silent;
      send = ap (λ (m : Option (ℕ × ClientMsg)). x.send ++ listed m) silent ∙ append-nil x.send;
      admitted = ap (λ (i : Option Item). x.admitted ++ listed i) (answer_admits x.client now a.0 a.1) ∙ append-nil x.admitted;
      spent = ap (λ (m : Option (ℕ × ClientMsg)). first_of x.spent (first_spent None (is_full_up m x.post))) silent ∙ unspent x.spent;
    }

pub each_quiet : (s : Session) (now : ℕ) (from : Peer) (js : List Joined) (x : ClientRun) → IsQuiet x (client_hears_each s now from js x)
each_quiet s now from [] x = record { post = refl; send = refl; admitted = refl; spent = refl }
each_quiet s now from (j ∷ js) x =
    let one = one_quiet s now (answer_from from (message_in j)) x in
    let rest = each_quiet s now from js (client_hears_one s now (answer_from from (message_in j)) x) in
    record {
      post = rest.post ∙ one.post;
      send = rest.send ∙ one.send;
      admitted = rest.admitted ∙ one.admitted;
      spent =
          rest.spent ∙ one.spent;
    }

each_client : (s : Session) (now k : ℕ) (js : List Joined) (answers : List Answer) (x : ClientRun) → AreAnswers k js answers
    → (client_hears_each s now (Server k) js x).client ≡ heard_all now k answers x.client
each_client s now k [] [] x h = refl
each_client s now k [] (a ∷ answers) x h = absurd h
each_client s now k (j ∷ js) [] x h = absurd h
each_client s now k (j ∷ js) (a ∷ answers) x h =
    ap (λ (o : Option (ℕ × Answer)). (client_hears_each s now (Server k) js (client_hears_one s now o x)).client) h.0
    ∙ each_client s now k js answers (client_hears_one s now (Some (k, a)) x) h.1

each_notes : (s : Session) (now k : ℕ) (js : List Joined) (answers : List Answer) (x : ClientRun) → AreAnswers k js answers
    → (client_hears_each s now (Server k) js x).notes ≡ x.notes ++ notes_all now k answers x.client
each_notes s now k [] [] x h = sym (append-nil x.notes)
each_notes s now k [] (a ∷ answers) x h = absurd h
each_notes s now k (j ∷ js) [] x h = absurd h
each_notes s now k (j ∷ js) (a ∷ answers) x h =
    ap (λ (o : Option (ℕ × Answer)). (client_hears_each s now (Server k) js (client_hears_one s now o x)).notes) h.0
    ∙ each_notes s now k js answers (client_hears_one s now (Some (k, a)) x) h.1
    ∙ append_assoc x.notes (note.Client (answer_plan x.client now k a).out.note ∷ [])
    (notes_all now k answers (committed (answer_plan x.client now k a).ready x.client))

-- ## The session's event

-- of what a packet gave this is noted
abbrev pub heard_notes : Heard → ℕ → ℕ → List Answer → ClientCore → List Note
heard_notes h now k [] c = quiet_note h ∷ []
heard_notes h now k (a ∷ answers) c = notes_all now k (a ∷ answers) c

-- the client heard these, and what is due went out
abbrev pub state_heard : Session → ℕ → ℕ → Option Peer → List Answer → List Note → SessionState → List Item → Packets → SessionStepped
state_heard s now k from answers notes state journal packets = record {
  state = session_after now k answers (post_due state.post false from).links state;
  journal = journal;
  packets = with_sent (post_due state.post false from).sent packets;
  outcome =
      record { who = Some (Client s); notes = notes; sent = numbers_from (length packets.sent) (post_due state.post false from).sent };
  spent = None;
}

abbrev left : Session → Option Peer → ClientCore → Links → List (ℕ × ClientMsg) → List (ℕ × Answer) → List Item → Packets → List Note
    → Option Counter → SessionStepped
left s from c post up down journal packets notes spent = record {
  state = record { client = c; post = (post_due post false from).links; up = up; down = down };
  journal = journal;
  packets = with_sent (post_due post false from).sent packets;
  outcome = record { who = Some (Client s); notes = notes; sent = numbers_from (length packets.sent) (post_due post false from).sent };
  spent = spent;
}

-- what a run leaves that sent nothing
pub ran_quiet : (s : Session) (from : Option Peer) (y : ClientRun) (c : ClientCore) (post : Links) (notes : List Note)
    (down : List (ℕ × Answer)) (state : SessionState) (journal : List Item) (packets : Packets)
    → y.client ≡ c → y.notes ≡ notes → IsQuiet (client_begins c post []) y
    → session_ran s (client_replies from y) down state journal packets ≡ left s from c post state.up down journal packets notes None
ran_quiet s from y c post notes down state journal packets client noted q =
    let up : state.up ++ y.send ≡ state.up = ap (λ (ms : List (ℕ × ClientMsg)). state.up ++ ms) q.send ∙ append-nil state.up in
    let items : journal ++ y.admitted ≡ journal = ap (λ (is : List Item). journal ++ is) q.admitted ∙ append-nil journal in
    λ i. left s from (client i) (q.post i) (up i) down (items i) packets (noted i) (q.spent i)

heard_of : (s : Session) (now k : ℕ) (from : Option Peer) (fresh : ℕ) (js : List Joined) (answers : List Answer) (state : SessionState)
    (journal : List Item) (packets : Packets) → AreAnswers k js answers
    → client_hears now s k from (record { fresh = fresh; joined = js }) state journal packets ≡ state_heard s now k from answers
    (heard_notes (record { fresh = fresh; joined = js }) now k answers state.client) state journal packets
heard_of s now k from fresh [] [] state journal packets h =
    let gave : Heard = record { fresh = fresh; joined = [] } in
    ran_quiet s from (client_begins state.client state.post (quiet_note gave ∷ [])) state.client state.post (quiet_note gave ∷ [])
    state.down state journal packets refl refl (record { post = refl; send = refl; admitted = refl; spent = refl })
heard_of s now k from fresh [] (a ∷ answers) state journal packets h = absurd h
heard_of s now k from fresh (j ∷ js) [] state journal packets h = absurd h
heard_of s now k from fresh (j ∷ js) (a ∷ answers) state journal packets h =
    let x = client_begins state.client state.post [] in
    let y = client_hears_each s now (Server k) (j ∷ js) x in
    let q = each_quiet s now (Server k) (j ∷ js) x in
    let down = without_each (j ∷ js) (is_with k) state.down in
    ran_quiet s from y (heard_all now k (a ∷ answers) state.client) state.post (notes_all now k (a ∷ answers) state.client) down state
    journal packets
    (each_client s now k (j ∷ js) (a ∷ answers) x h) (each_notes s now k (j ∷ js) (a ∷ answers) x h) (record {
      post = q.post;
      send =
          q.send;
      admitted = q.admitted;
      spent = q.spent;
    })
    ∙ ap (λ (ms : List (ℕ × Answer)). left s from (heard_all now k (a ∷ answers) state.client) state.post state.up ms journal packets
    (notes_all now k (a ∷ answers) state.client) None) (gone_alike k (j ∷ js) (a ∷ answers) (is_with k) state.down h)

pub heard_is : (s : Session) (now k : ℕ) (from : Option Peer) (h : Heard) (answers : List Answer) (state : SessionState)
    (journal : List Item) (packets : Packets) → AreAnswers k h.joined answers
    → client_hears now s k from h state journal packets ≡ state_heard s now k from answers (heard_notes h now k answers state.client) state
    journal packets
heard_is s now k from h answers state journal packets of = heard_of s now k from h.fresh h.joined answers state journal packets of
