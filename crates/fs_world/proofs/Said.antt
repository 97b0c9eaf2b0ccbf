-- What is known of the answers on their way and of the sessions that are over, behind what was said.
use Rattle.std.proofs.Common.{◌≡◌, ℕ, ◌==◌, Bool, true, false, List, [], ◌∷◌, ◌++◌, cond, refl, sym, ◌∙◌, subst, append_assoc, inl, inr}
use Rattle.std.proofs.lemmas.List.{append-nil}
use Rattle.std.specs.Prelude.{◌⊎◌, Option, Some, None}
use Rattle.std.specs.FinMap.{get, insert}
use Rattle.fs_ident.specs.In.{In}
use Rattle.fs_ident.specs.declared.actor.Peer.{Peer}
use Rattle.fs_ident.specs.declared.actor.Peer.TheVariants.{Server, Client}
use Rattle.fs_ident.specs.declared.actor.Session.{Session}
use Rattle.fs_ident.proofs.Same.{one_session}
use Rattle.fs_ident.proofs.Standing.{In-append, In-behind, In-front, In-last}
use Rattle.fs_msg.specs.declared.act.Act.{Act}
use Rattle.fs_msg.specs.declared.act.Act.TheVariants as act
use Rattle.fs_msg.specs.declared.answer.Answer.{Answer}
use Rattle.fs_msg.specs.declared.answer.Answer.TheVariants.{Shipped}
use Rattle.fs_msg.specs.declared.client_note.ClientNote.{ClientNote}
use Rattle.fs_msg.specs.declared.client_note.ClientNote.TheVariants as client
use Rattle.fs_msg.specs.declared.end.End.{End}
use Rattle.fs_msg.specs.declared.end.End.TheVariants as end
use Rattle.fs_msg.specs.declared.msg.Msg.{Msg}
use Rattle.fs_msg.specs.declared.msg.Msg.TheVariants as msg
use Rattle.fs_msg.specs.declared.note.Note.TheVariants as note
use Rattle.fs_client.specs.Answers.{over_after}
use Rattle.fs_client.specs.Laws.{over_told}
use Rattle.fs_world.specs.Over.{AllCaused, Answered, Heard, HeardRefused, Said, all_said}
use Rattle.fs_world.specs.Served.{SessionStates, with_down, with_down_at, with_downs}
use Rattle.fs_world.specs.declared.servers.session_state.SessionState.{SessionState}
use Rattle.fs_world.proofs.Seen.{session_put}

-- a server gave the answer, if it is one to a log
abbrev pub WasGiven : List Said → Session → Answer → Type 0
WasGiven before by (Shipped count at) = In (Answered by count at) before
WasGiven before by a = Unit {0}

-- what stands at the session is known
pub record IsKnown (before : List Said) (by : Session) (state : SessionState) : Type 0 where
  pub over : (n : ℕ) → state.client.over ≡ Some n → HeardRefused before by n
  pub coming : (m : ℕ × Answer) → In m state.down → WasGiven before by m.1

abbrev pub AreKnown : List Said → SessionStates → Type 0
AreKnown before sessions = (s : Session) (state : SessionState) → get sessions s.0 ≡ Some state → IsKnown before s state

-- ## Behind more

pub heard_more : (before new : List Said) (by : Session) (n : ℕ) → HeardRefused before by n → HeardRefused (before ++ new) by n
heard_more before new by n h = record {
  count = h.count;
  lease = h.lease;
  until = h.until;
  now = h.now;
  heard =
      In-front (Heard by h.count (end.Ended n h.lease h.until h.now)) before new h.heard;
}

given_more : (before new : List Said) (by : Session) (a : Answer) → WasGiven before by a → WasGiven (before ++ new) by a
given_more before new by (Shipped count at) h = In-front (Answered by count at) before new h
given_more before new by a h = tt

given_behind : (before new : List Said) (by : Session) (a : Answer) → WasGiven new by a → WasGiven (before ++ new) by a
given_behind before new by (Shipped count at) h = In-behind (Answered by count at) before new h
given_behind before new by a h = tt

known_more : (before new : List Said) (by : Session) (state : SessionState) → IsKnown before by state → IsKnown (before ++ new) by state
known_more before new by state h = record {
  over = λ n e. heard_more before new by n (h.over n e);
  coming =
      λ m i. given_more before new by m.1 (h.coming m i);
}

pub all_more : (before new : List Said) (sessions : SessionStates) → AreKnown before sessions → AreKnown (before ++ new) sessions
all_more before new sessions h s state at = known_more before new s state (h s state at)

pub caused_append : (before xs ys : List Said) → AllCaused before xs → AllCaused (before ++ xs) ys → AllCaused before (xs ++ ys)
caused_append before [] ys h k = subst (λ (b : List Said). AllCaused b ys) (append-nil before) k
caused_append before (x ∷ xs) ys h k =
    (h.0, caused_append (before ++ x ∷ []) xs ys h.1 (subst (λ (b : List Said). AllCaused b ys) (sym (append_assoc before (x ∷ []) xs)) k))

-- ## One session's state changes

pub known_put : (before : List Said) (sessions : SessionStates) (s : Session) (next : SessionState) → AreKnown before sessions
    → IsKnown before s next → AreKnown before (insert sessions s.0 next)
known_put before sessions s next h k x state at = which (s.0 == x.0) refl (sym (session_put sessions s x next) ∙ at)
  where
    which : (b : Bool) → (s.0 == x.0) ≡ b → cond b (Some next) (get sessions x.0) ≡ Some state → IsKnown before x state
    which true e is = let same : next ≡ state = cc is in
        subst (λ (y : Session). IsKnown before y state) (one_session s x e) (subst (λ (t : SessionState). IsKnown before s t) same k)
    which false e is = h x state is

-- ## Answers that go out

-- of what a server sends, each answer to a log was given
abbrev pub AreGiven : List Said → List (Peer × Msg) → Type 0
AreGiven now [] = Unit {0}
AreGiven now ((Client x, msg.Answer a) ∷ rest) = WasGiven now x a × AreGiven now rest
AreGiven now (m ∷ rest) = AreGiven now rest

down_known_at : (now : List Said) (k : ℕ) (s : Session) (a : Answer) (sessions : SessionStates) (o : Option SessionState)
    → get sessions s.0 ≡ o → WasGiven now s a → AreKnown now sessions → AreKnown now (with_down_at o s.0 (k, a) sessions)
down_known_at now k s a sessions None at g h = h
down_known_at now k s a sessions (Some state) at g h =
    let known = h s state at in
    known_put now sessions s (record state { down = state.down ++ (k, a) ∷ [] }) h (record {
      over = known.over;
      coming =
          λ m i. coming m (In-append m state.down ((k, a) ∷ []) i) known.coming;
    })
  where
    coming : (m : ℕ × Answer) → In m state.down ⊎ In m ((k, a) ∷ []) → ((m : ℕ × Answer) → In m state.down → WasGiven now s m.1)
        → WasGiven now s m.1
    coming m (inl i) before = before m i
    coming m (inr (inl e)) before = subst (λ (x : ℕ × Answer). WasGiven now s x.1) (sym e) g
    coming m (inr (inr z)) before = absurd z

pub downs_known : (now : List Said) (k : ℕ) (messages : List (Peer × Msg)) (sessions : SessionStates) → AreGiven now messages
    → AreKnown now sessions → AreKnown now (with_downs k messages sessions)
downs_known now k [] sessions g h = h
downs_known now k ((Client s, msg.Answer a) ∷ rest) sessions g h = downs_known now k rest (with_down k (Client s, msg.Answer a) sessions)
    g.1 (down_known_at now k s a sessions (get sessions s.0) refl g.0 h)
downs_known now k ((Client s, msg.Client m) ∷ rest) sessions g h = downs_known now k rest sessions g h
downs_known now k ((Client s, msg.Peer m) ∷ rest) sessions g h = downs_known now k rest sessions g h
downs_known now k ((Server j, m) ∷ rest) sessions g h = downs_known now k rest sessions g h

pub given_behind_all : (before new : List Said) (messages : List (Peer × Msg)) → AreGiven new messages → AreGiven (before ++ new) messages
given_behind_all before new [] g = tt
given_behind_all before new ((Client s, msg.Answer a) ∷ rest) g = (given_behind before new s a g.0, given_behind_all before new rest g.1)
given_behind_all before new ((Client s, msg.Client m) ∷ rest) g = given_behind_all before new rest g
given_behind_all before new ((Client s, msg.Peer m) ∷ rest) g = given_behind_all before new rest g
given_behind_all before new ((Server j, m) ∷ rest) g = given_behind_all before new rest g

pub given_append : (now : List Said) (xs ys : List (Peer × Msg)) → AreGiven now xs → AreGiven now ys → AreGiven now (xs ++ ys)
given_append now [] ys g h = h
given_append now ((Client s, msg.Answer a) ∷ rest) ys g h = (g.0, given_append now rest ys g.1 h)
given_append now ((Client s, msg.Client m) ∷ rest) ys g h = given_append now rest ys g h
given_append now ((Client s, msg.Peer m) ∷ rest) ys g h = given_append now rest ys g h
given_append now ((Server j, m) ∷ rest) ys g h = given_append now rest ys g h

-- ## What a client notes

-- what it notes of an answer to a log, a server said before
abbrev pub IsNoted : List Said → Session → ClientNote → Type 0
IsNoted before by (client.Shipped count at) = In (Answered by count at) before
IsNoted before by n = Unit {0}

pub note_caused : (before : List Said) (from : Option Peer) (s : Session) (n : ClientNote) → IsNoted before s n
    → AllCaused before (all_said from (Some (Client s)) (note.Client n ∷ []))
note_caused before from s (client.Shipped count at) g = (g, tt)
note_caused before from s n g = tt

ended_heard : (before : List Said) (s : Session) (count : ℕ) (at : End) (over : Option ℕ)
    → ((j : ℕ) → over ≡ Some j → HeardRefused before s j) → (j : ℕ) → over_after at over ≡ Some j
    → HeardRefused (before ++ Heard s count at ∷ []) s j
ended_heard before s count (end.Ended n lease until now) over h j e =
    let same : n ≡ j = cc e in
    record {
      count = count;
      lease = lease;
      until = until;
      now = now;
      heard = subst (λ (i : ℕ). In (Heard s count (end.Ended i lease until now))
          (before ++ Heard s count (end.Ended n lease until now) ∷ [])) same (In-last before (Heard s count (end.Ended n lease until now)));
    }
ended_heard before s count at over h j e = heard_more before (Heard s count at ∷ []) s j (h j e)

pub note_heard : (before : List Said) (from : Option Peer) (s : Session) (n : ClientNote) (over : Option ℕ)
    → ((j : ℕ) → over ≡ Some j → HeardRefused before s j) → (j : ℕ) → over_told n over ≡ Some j
    → HeardRefused (before ++ all_said from (Some (Client s)) (note.Client n ∷ [])) s j
note_heard before from s (client.Shipped count at) over h j e = ended_heard before s count at over h j e
note_heard before from s n over h j e = heard_more before [] s j (h j e)

pub act_caused : (before : List Said) (from : Option Peer) (s : Session) (a : Act) → ((n : ℕ) → a ≡ act.Over n → HeardRefused before s n)
    → AllCaused before (all_said from (Some (Client s)) (note.Act a ∷ []))
act_caused before from s (act.Over n) why = (why n refl, tt)
act_caused before from s a why = tt
