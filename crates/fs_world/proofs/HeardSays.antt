-- What a session says of the answers that it hears, a server said before.
use Rattle.std.proofs.Common.{◌≡◌, ℕ, ◌==◌, true, false, List, [], ◌∷◌, ◌++◌, append-nil, append_assoc, cond, ap, sym, ◌∙◌, subst}
use Rattle.std.specs.Prelude.{Option, Some, None}
use Rattle.std.specs.FinMap.{get, insert}
use Rattle.std.specs.List.{find}
use Rattle.fs_ident.specs.declared.actor.Peer.{Peer}
use Rattle.fs_ident.specs.declared.actor.Peer.TheVariants.{Client}
use Rattle.fs_ident.specs.declared.actor.Session.{Session}
use Rattle.fs_ident.proofs.Passing.{found}
use Rattle.fs_window.specs.Post.{Links}
use Rattle.fs_window.specs.declared.heard.Heard.{Heard}
use Rattle.fs_msg.specs.declared.answer.Answer.{Answer}
use Rattle.fs_msg.specs.declared.answer.Answer.TheVariants.{Granted, Renewed, Released, Shipped, Recall, Led}
use Rattle.fs_msg.specs.declared.note.Note.{Note}
use Rattle.fs_msg.specs.declared.note.Note.TheVariants as note
use Rattle.fs_record.specs.declared.led_end.LedEnd.{LedEnd}
use Rattle.fs_record.specs.declared.led_end.LedEnd.TheVariants as led_end
use Rattle.fs_client.specs.Answers.{answer_plan, ended_plan, fits, hear, led_plan, strange, fitting_plan}
use Rattle.fs_client.specs.Client.{begun}
use Rattle.fs_client.specs.declared.led.Led.{Led as TheLed}
use Rattle.fs_client.specs.declared.state.Client.{Client as ClientState}
use Rattle.fs_client.proofs.Refused.{answers_tell}
use Rattle.fs_serial.specs.Cluster.{is_with}
use Rattle.fs_serial.proofs.Lists.SetAt.{In_without}
use Rattle.fs_world.specs.Over.{AllCaused, Said, all_said, said_in}
use Rattle.fs_world.specs.Served.{SessionStates}
use Rattle.fs_world.specs.declared.servers.session_state.SessionState.{SessionState}
use Rattle.fs_world.proofs.HeardEach.{AreNext, heard_notes, notes_all, session_after}
use Rattle.fs_world.proofs.LinkedStates.{got_here, put_again}
use Rattle.fs_world.proofs.Said.{AreKnown, IsKnown, IsNoted, WasGiven, all_more, caused_append, heard_more, known_put, note_caused}
use Rattle.fs_world.proofs.Said.{note_heard}

-- ## What it notes of an answer, a server gave

ended_noted : (before : List Said) (s : Session) (l : TheLed) (e : LedEnd) (c : ClientState) → IsNoted before s (ended_plan l e c).out.note
ended_noted before s l (led_end.Done r) c = tt
ended_noted before s l (led_end.Ended lease until now) c = tt
ended_noted before s l (led_end.Again w) c = tt

led_noted : (before : List Said) (s : Session) (led : Option TheLed) (e : LedEnd) (c : ClientState)
    → IsNoted before s (led_plan led e c).out.note
led_noted before s None e c = tt
led_noted before s (Some l) e c = ended_noted before s l e c

told_noted : (before : List Said) (s : Session) (a : Answer) (c : ClientState) → WasGiven before s a
    → IsNoted before s (fitting_plan a c).out.note
told_noted before s (Granted grants fresh e) c g = tt
told_noted before s (Renewed rows e) c g = tt
told_noted before s (Released count e) c g = tt
told_noted before s (Shipped count e) c g = g
told_noted before s (Led e) c g = led_noted before s c.led e c
told_noted before s (Recall number) c g = tt

hear_noted : (before : List Said) (s : Session) (from : ℕ) (a : Answer) (c : ClientState) → WasGiven before s a
    → IsNoted before s (hear from a c).out.note
hear_noted before s from a c g =
    elim (fits from c.exchange a c) as (λ b. IsNoted before s (cond b (fitting_plan a c) (strange c)).out.note) [
      | true ↦
          told_noted before s a c g
      | false ↦ tt
    ]

-- ## What is said of it

-- what it says is caused, and what stands then is known
pub record Says (before new : List Said) (sessions : SessionStates) : Type 0 where
  pub caused : AllCaused before new
  pub known : AreKnown (before ++ new) sessions

-- the client hears the next answer
next_says : (before : List Said) (sessions : SessionStates) (h : AreKnown before sessions) (now : ℕ) (from : Option Peer) (s : Session)
    (state : SessionState) (at : get sessions s.0 ≡ Some state) (k : ℕ) (post : Links) (a : Answer)
    → find (is_with k) state.down ≡ Some (k, a)
    → Says before (all_said from (Some (Client s)) (note.Client (answer_plan state.client now k a).out.note ∷ []))
    (insert sessions s.0 (session_after now k (a ∷ []) post state))
next_says before sessions h now from s state at k post a first =
    let p = answer_plan state.client now k a in
    let new = all_said from (Some (Client s)) (note.Client p.out.note ∷ []) in
    let here : IsKnown before s state = h s state at in
    let given : WasGiven before s a = here.coming (k, a) (found (is_with k) state.down (k, a) first).0 in
    record {
      caused = note_caused before from s p.out.note (hear_noted before s k a (begun now state.client) given);
      known = known_put (before ++ new) sessions s (session_after now k (a ∷ []) post state) (all_more before new sessions h) (record {
        over = λ n e. note_heard before from s p.out.note state.client.over here.over n (sym (answers_tell state.client now k a) ∙ e);
        coming = λ m i. (all_more before new sessions h s state at).coming m (In_without (is_with k) state.down m i);
      });
    }

-- it hears none
none_says : (before : List Said) (sessions : SessionStates) (h : AreKnown before sessions) (now : ℕ) (s : Session) (state : SessionState)
    (at : get sessions s.0 ≡ Some state) (k : ℕ) (post : Links) → Says before [] (insert sessions s.0 (session_after now k [] post state))
none_says before sessions h now s state at k post =
    let here : IsKnown before s state = h s state at in
    record {
      caused = tt;
      known = known_put (before ++ []) sessions s (session_after now k [] post state) (all_more before [] sessions h) (record {
        over = λ n e. heard_more before [] s n (here.over n e);
        coming = λ m i. (all_more before [] sessions h s state at).coming m i;
      });
    }

-- it hears one after another
all_says : (answers : List Answer) (before : List Said) (sessions : SessionStates) (h : AreKnown before sessions) (now : ℕ)
    (from : Option Peer) (s : Session) (state : SessionState) (at : get sessions s.0 ≡ Some state) (k : ℕ) (post : Links)
    → AreNext k answers state.down
    → Says before (all_said from (Some (Client s)) (notes_all now k answers state.client))
    (insert sessions s.0 (session_after now k answers post state))
all_says [] before sessions h now from s state at k post next = none_says before sessions h now s state at k post
all_says (a ∷ answers) before sessions h now from s state at k post next =
    let note_of : Note = note.Client (answer_plan state.client now k a).out.note in
    let who : Option Peer = Some (Client s) in
    let new = all_said from who (note_of ∷ []) in
    let one = session_after now k (a ∷ []) post state in
    let all = session_after now k (a ∷ answers) post state in
    let more = all_said from who (notes_all now k answers one.client) in
    let first = next_says before sessions h now from s state at k post a next.0 in
    let then =
    all_says answers (before ++ new) (insert sessions s.0 one) first.known now from s one (got_here sessions s one) k post next.1 in
    subst (λ (said : List Said). Says before said (insert sessions s.0 all))
    (ap (λ (said : List Said). said ++ more) (append-nil (said_in from who note_of)))
    (subst (λ (m : SessionStates). Says before (new ++ more) m) (put_again sessions s one all) (record {
      caused = caused_append before new more first.caused then.caused;
      known =
          subst (λ (said : List Said). AreKnown said (insert (insert sessions s.0 one) s.0 all)) (append_assoc before new more) then.known;
    }))

-- of what a packet gave
pub heard_says : (before : List Said) (sessions : SessionStates) (h : AreKnown before sessions) (now : ℕ) (from : Option Peer)
    (s : Session) (state : SessionState) (at : get sessions s.0 ≡ Some state) (k : ℕ) (post : Links) (x : Heard) (answers : List Answer)
    → AreNext k answers state.down
    → Says before (all_said from (Some (Client s)) (heard_notes x now k answers state.client))
    (insert sessions s.0 (session_after now k answers post state))
heard_says before sessions h now from s state at k post x [] next =
    elim (x.fresh == 0) as (λ b. Says before (all_said from (Some (Client s)) (cond b note.None note.Part ∷ []))
    (insert sessions s.0 (session_after now k [] post state))) [
      | true ↦ none_says before sessions h now s state at k post
      | false ↦ none_says before sessions h now s state at k post
    ]
heard_says before sessions h now from s state at k post x (a ∷ answers) next =
    all_says (a ∷ answers) before sessions h now from s state at k post next
