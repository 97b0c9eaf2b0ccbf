-- An answer on its way to a session, put there and taken back.
use Rattle.std.proofs.Common.{◌≡◌, ℕ, ◌-◌, ◌++◌, ◌∷◌, [], List, length, length-append, take, take_at, ap, sym, ◌∙◌, refl, arith}
use Rattle.std.specs.Prelude.{Option, Some, None}
use Rattle.std.specs.FinMap.{get, insert}
use Rattle.fs_ident.proofs.NumberedMaps.{numbered_put_back, numbered_put_here}
use Rattle.fs_msg.specs.declared.answer.Answer.{Answer}
use Rattle.fs_world.specs.Served.{SessionStates, with_down_at}
use Rattle.fs_world.specs.declared.servers.session_state.SessionState.{SessionState}

abbrev without_last : SessionState → SessionState
without_last state = record state { down = take (length state.down - 1) state.down }

abbrev with_last : SessionState → ℕ × Answer → SessionState
with_last state a = record state { down = state.down ++ a ∷ [] }

last_taken : (state : SessionState) (a : ℕ × Answer) → without_last (with_last state a) ≡ state
last_taken state a =
    ap (λ (down : List (ℕ × Answer)). let s : SessionState = record state { down = down } in s)
    (take_at state.down (a ∷ []) (length (state.down ++ a ∷ []) - 1) (omega (arith, length-append state.down (a ∷ []))))

-- an answer that was put on its way to a session is taken back
pub taken_back : (sessions old : SessionStates) (state : SessionState) (k : ℕ) (a : ℕ × Answer) (down : List (ℕ × Answer))
    → old ≡ with_down_at (get sessions k) k a sessions → get old k ≡ Some state
    → down ≡ take (length state.down - 1) state.down → insert old k (record state { down = down }) ≡ sessions
taken_back sessions old state k a down e there is = at (get sessions k) refl
  where
    at : (o : Option SessionState) → get sessions k ≡ o → insert old k (record state { down = down }) ≡ sessions
    at None n =
        let same : old ≡ sessions = e ∙ ap (λ (o : Option SessionState). with_down_at o k a sessions) n in
        let gone : None ≡ Some state = sym n ∙ ap (λ (m : SessionStates). get m k) (sym same) ∙ there in
        absurd (cc)
    at (Some before) s =
        let now : old ≡ insert sessions k (with_last before a) = e ∙ ap (λ (o : Option SessionState). with_down_at o k a sessions) s in
        let its : Some (with_last before a) ≡ Some state =
        sym (numbered_put_here sessions k (with_last before a)) ∙ ap (λ (m : SessionStates). get m k) (sym now) ∙ there in
        let same : with_last before a ≡ state = cc in
        let back : record state { down = down } ≡ before = ap
        (λ (d : List (ℕ × Answer)). let t : SessionState = record state { down = d } in t) is ∙ ap without_last (sym same)
        ∙ last_taken before a in
        ap (λ (m : SessionStates). insert m k (record state { down = down })) now
        ∙ ap (λ (t : SessionState). insert (insert sessions k (with_last before a)) k t) back
        ∙ numbered_put_back sessions k (with_last before a) before s

-- none was put on its way to a session that has not joined
pub none_taken_back : (sessions old : SessionStates) (k : ℕ) (a : ℕ × Answer) → old ≡ with_down_at (get sessions k) k a sessions
    → get old k ≡ None → old ≡ sessions
none_taken_back sessions old k a e none = at (get sessions k) refl
  where
    at : (o : Option SessionState) → get sessions k ≡ o → old ≡ sessions
    at None n = e ∙ ap (λ (o : Option SessionState). with_down_at o k a sessions) n
    at (Some before) s =
        let now : old ≡ insert sessions k (with_last before a) = e ∙ ap (λ (o : Option SessionState). with_down_at o k a sessions) s in
        let gone : Some (with_last before a) ≡ None =
        sym (numbered_put_here sessions k (with_last before a)) ∙ ap (λ (m : SessionStates). get m k) (sym now) ∙ none in
        absurd (cc)
