-- What a server sends is on its way in both, as far as it goes to sessions that have joined.
use Rattle.std.proofs.Common.{◌≡◌, ℕ, List, [], ◌∷◌, ◌++◌, refl, ap, sym, subst, ◌∙◌, inl, inr}
use Rattle.std.specs.Prelude.{Option, Some, None}
use Rattle.std.specs.FinMap.{get}
use Rattle.fs_ident.specs.In.{In}
use Rattle.fs_ident.specs.declared.actor.Peer.{Peer}
use Rattle.fs_ident.specs.declared.actor.Peer.TheVariants.{Server, Client}
use Rattle.fs_ident.specs.declared.actor.Session.{Session}
use Rattle.fs_msg.specs.declared.answer.Answer.{Answer}
use Rattle.fs_msg.specs.declared.msg.Msg.{Msg}
use Rattle.fs_msg.specs.declared.msg.Msg.TheVariants as msg
use Rattle.fs_serial.specs.Cluster.{Lines, in_flight_from, with_answer, with_sent}
use Rattle.fs_serial.specs.declared.in_flight.InFlight.{InFlight}
use Rattle.fs_world.specs.Linked.{HasJoined}
use Rattle.fs_world.specs.Parts.{lines_of}
use Rattle.fs_world.specs.Served.{SessionStates, with_down, with_down_at, with_downs}
use Rattle.fs_world.specs.declared.servers.session_state.SessionState.{SessionState}
use Rattle.fs_world.proofs.Seen.{joined_still, lines_changed}
use Rattle.fs_world.proofs.SeenRows.{AreSentTo, BringsOf, IsSentTo, brings_still}

-- ## Who has joined stays

down_joined_at : (k : ℕ) (o : Option SessionState) (s : Session) (a : Answer) (sessions : SessionStates) (x : Session)
    → HasJoined sessions x → HasJoined (with_down_at o s.0 (k, a) sessions) x
down_joined_at k None s a sessions x h = h
down_joined_at k (Some state) s a sessions x h = joined_still sessions s x (record state { down = state.down ++ (k, a) ∷ [] }) h

pub down_joined : (k : ℕ) (m : Peer × Msg) (sessions : SessionStates) (x : Session) → HasJoined sessions x
    → HasJoined (with_down k m sessions) x
down_joined k (Client s, msg.Answer a) sessions x h = down_joined_at k (get sessions s.0) s a sessions x h
down_joined k (Client s, msg.Client m) sessions x h = h
down_joined k (Client s, msg.Peer m) sessions x h = h
down_joined k (Server j, m) sessions x h = h

pub downs_joined : (k : ℕ) (messages : List (Peer × Msg)) (sessions : SessionStates) (x : Session) → HasJoined sessions x
    → HasJoined (with_downs k messages sessions) x
downs_joined k [] sessions x h = h
downs_joined k (m ∷ rest) sessions x h = downs_joined k rest (with_down k m sessions) x (down_joined k m sessions x h)

still_to : (sessions later : SessionStates) → ((x : Session) → HasJoined sessions x → HasJoined later x) → (m : Peer × Msg)
    → IsSentTo (HasJoined sessions) m → IsSentTo (HasJoined later) m
still_to sessions later stay (Client s, msg.Answer a) h = stay s h
still_to sessions later stay (Server to, msg.Peer m) h = brings_still (HasJoined sessions) (HasJoined later) stay m h
still_to sessions later stay (Client s, msg.Client m) h = absurd h
still_to sessions later stay (Client s, msg.Peer m) h = absurd h
still_to sessions later stay (Server to, msg.Client m) h = absurd h
still_to sessions later stay (Server to, msg.Answer m) h = absurd h

still_all : (sessions later : SessionStates) → ((x : Session) → HasJoined sessions x → HasJoined later x) → (messages : List (Peer × Msg))
    → AreSentTo (HasJoined sessions) messages → AreSentTo (HasJoined later) messages
still_all sessions later stay [] h = tt
still_all sessions later stay (m ∷ rest) h = (still_to sessions later stay m h.0, still_all sessions later stay rest h.1)

-- ## One message more

none_joined : (o : Option SessionState) (state : SessionState) → o ≡ None → o ≡ Some state → ⊥
none_joined o state none some = absurd (cc)

answer_seen : (term k : ℕ) (sessions : SessionStates) (s : Session) (a : Answer) (o : Option SessionState) → get sessions s.0 ≡ o
    → HasJoined sessions s → lines_of term (with_down_at o s.0 (k, a) sessions) ≡ with_answer k s a (lines_of term sessions)
answer_seen term k sessions s a None at h = absurd (none_joined (get sessions s.0) h.0 at h.1)
answer_seen term k sessions s a (Some state) at h = lines_changed term sessions s state (record state { down = state.down ++ (k, a) ∷ [] })
    (λ (n : Lines). let m : Lines = record n { down = n.down ++ (k, a) ∷ [] } in m) at refl

down_seen : (term k : ℕ) (sessions : SessionStates) (m : Peer × Msg) (rest : List (Peer × Msg)) → IsSentTo (HasJoined sessions) m
    → with_sent k rest (lines_of term (with_down k m sessions)) ≡ with_sent k (m ∷ rest) (lines_of term sessions)
down_seen term k sessions (Client s, msg.Answer a) rest h =
    ap (with_sent k rest) (answer_seen term k sessions s a (get sessions s.0) refl h)
down_seen term k sessions (Client s, msg.Client m) rest h = refl
down_seen term k sessions (Client s, msg.Peer m) rest h = refl
down_seen term k sessions (Server j, m) rest h = refl

-- ## All of them

pub sends_seen : (term k : ℕ) (messages : List (Peer × Msg)) (sessions : SessionStates) → AreSentTo (HasJoined sessions) messages
    → lines_of term (with_downs k messages sessions) ≡ with_sent k messages (lines_of term sessions)
sends_seen term k [] sessions h = refl
sends_seen term k (m ∷ rest) sessions h = sends_seen term k rest (with_down k m sessions)
    (still_all sessions (with_down k m sessions) (λ x i. down_joined k m sessions x i) rest h.1) ∙ down_seen term k sessions m rest h.0

-- those to servers bring rows of these sessions
pub flying_of_these : (these : Session → Type 0) (k : ℕ) (messages : List (Peer × Msg)) → AreSentTo these messages → (f : InFlight)
    → In f (in_flight_from k messages) → BringsOf these f.message
flying_of_these these k [] h f i = absurd i
flying_of_these these k ((Server to, msg.Peer m) ∷ rest) h f (inl e) = subst (λ (g : InFlight). BringsOf these g.message) (sym e) h.0
flying_of_these these k ((Server to, msg.Peer m) ∷ rest) h f (inr i) = flying_of_these these k rest h.1 f i
flying_of_these these k ((Client s, m) ∷ rest) h f i = flying_of_these these k rest h.1 f i
flying_of_these these k ((Server to, msg.Client m) ∷ rest) h f i = absurd h.0
flying_of_these these k ((Server to, msg.Answer m) ∷ rest) h f i = absurd h.0
