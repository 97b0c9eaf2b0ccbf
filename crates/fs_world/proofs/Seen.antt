-- A world of the servers form as servers and sessions with what is on its way between them, whatever lies between them.
use Rattle.std.proofs.Common.{◌≡◌, ℕ, ◌==◌, Bool, true, false, cond, refl, ap, sym, ◌∙◌, arith}
use Rattle.std.proofs.lemmas.Bool.Decides.{nat_tests}
use Rattle.std.specs.Prelude.{Option, Some, None}
use Rattle.std.specs.Cmp.{nat_cmp_total, unsigned_tied}
use Rattle.std.specs.FinMap.{get, insert, get-insert}
use mathlib.Core.Path.{fun_ext}
use Rattle.fs_ident.specs.declared.actor.Session.{Session}
use Rattle.fs_ident.proofs.Same.{one_session}
use Rattle.fs_serial.specs.Cluster.{Lines, first_lines, with_lines}
use Rattle.fs_world.specs.Linked.{HasJoined}
use Rattle.fs_world.specs.Parts.{lines_in, lines_of}
use Rattle.fs_world.specs.Served.{SessionStates, first_session_state}
use Rattle.fs_world.specs.declared.servers.session_state.SessionState.{SessionState}

-- ## Numbers of sessions

pub turned : (a b : ℕ) → (a == b) ≡ (b == a)
turned a b = grind (arith, nat_tests)

-- ## One session's state changes

pub session_put : (sessions : SessionStates) (s x : Session) (state : SessionState)
    → get (insert sessions s.0 state) x.0 ≡ cond (s.0 == x.0) (Some state) (get sessions x.0)
session_put sessions s x state = get-insert nat_cmp_total sessions s.0 state x.0
    ∙ ap (λ b. cond b (Some state) (get sessions x.0)) (unsigned_tied x.0 s.0 ∙ turned x.0 s.0)

lines_at : (term : ℕ) (s x : Session) (state : SessionState) (old : Option SessionState) (b : Bool)
    → lines_in term x (cond b (Some state) old) ≡ cond b (lines_in term s (Some state)) (lines_in term x old)
lines_at term s x state old true = refl
lines_at term s x state old false = refl

pub lines_put : (term : ℕ) (sessions : SessionStates) (s : Session) (state : SessionState)
    → lines_of term (insert sessions s.0 state) ≡ with_lines s (lines_in term s (Some state)) (lines_of term sessions)
lines_put term sessions s state =
    fun_ext (λ x. ap (lines_in term x) (session_put sessions s x state) ∙ lines_at term s x state (get sessions x.0) (s.0 == x.0))

-- a session that joins is as it was
joined_at : (term : ℕ) (sessions : SessionStates) (s x : Session) (b : Bool) → get sessions s.0 ≡ None → (s.0 == x.0) ≡ b
    → cond b (first_lines term s) (lines_of term sessions x) ≡ lines_of term sessions x
joined_at term sessions s x true none e = ap (first_lines term) (one_session s x e)
    ∙ sym (ap (lines_in term x) (ap (λ (y : Session). get sessions y.0) (sym (one_session s x e)) ∙ none))
joined_at term sessions s x false none e = refl

pub lines_joined : (term : ℕ) (sessions : SessionStates) (s : Session) → get sessions s.0 ≡ None
    → lines_of term (insert sessions s.0 (first_session_state term s)) ≡ lines_of term sessions
lines_joined term sessions s none =
    lines_put term sessions s (first_session_state term s) ∙ fun_ext (λ x. joined_at term sessions s x (s.0 == x.0) none refl)

-- the lines of a session that has joined change
changed_at : (term : ℕ) (sessions : SessionStates) (s x : Session) (state : SessionState) (f : Lines → Lines) (b : Bool)
    → get sessions s.0 ≡ Some state → (s.0 == x.0) ≡ b → cond b (f (lines_in term s (Some state))) (lines_of term sessions x) ≡ cond b
    (f (lines_of term sessions x)) (lines_of term sessions x)
changed_at term sessions s x state f true at e =
    ap f (sym (ap (lines_in term x) (ap (λ (y : Session). get sessions y.0) (sym (one_session s x e)) ∙ at)))
changed_at term sessions s x state f false at e = refl

pub lines_changed : (term : ℕ) (sessions : SessionStates) (s : Session) (state next : SessionState) (f : Lines → Lines)
    → get sessions s.0 ≡ Some state → lines_in term s (Some next) ≡ f (lines_in term s (Some state))
    → lines_of term (insert sessions s.0 next) ≡ (λ x. cond (s.0 == x.0) (f (lines_of term sessions x)) (lines_of term sessions x))
lines_changed term sessions s state next f at e = lines_put term sessions s next
    ∙ fun_ext (λ x. ap (λ (n : Lines). cond (s.0 == x.0) n (lines_of term sessions x)) e
    ∙ changed_at term sessions s x state f (s.0 == x.0) at refl)

same_lines : (b : Bool) (n : Lines) → cond b n n ≡ n
same_lines true n = refl
same_lines false n = refl

-- nothing of them does
pub lines_same : (term : ℕ) (sessions : SessionStates) (s : Session) (state next : SessionState) → get sessions s.0 ≡ Some state
    → lines_in term s (Some next) ≡ lines_in term s (Some state) → lines_of term (insert sessions s.0 next) ≡ lines_of term sessions
lines_same term sessions s state next at e =
    lines_changed term sessions s state next (λ n. n) at e ∙ fun_ext (λ (x : Session). same_lines (s.0 == x.0) (lines_of term sessions x))

-- ## Who has joined

joined_in : (sessions : SessionStates) (s x : Session) (state : SessionState) (b : Bool) → HasJoined sessions x
    → (k : SessionState) × (cond b (Some state) (get sessions x.0) ≡ Some k)
joined_in sessions s x state true h = (state, refl)
joined_in sessions s x state false h = h

pub joined_still : (sessions : SessionStates) (s x : Session) (state : SessionState) → HasJoined sessions x
    → HasJoined (insert sessions s.0 state) x
joined_still sessions s x state h = let k = joined_in sessions s x state (s.0 == x.0) h in (k.0, session_put sessions s x state ∙ k.1)
