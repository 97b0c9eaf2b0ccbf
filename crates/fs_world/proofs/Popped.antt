-- A message that is taken off its way does not concern the messages that go their way.
use Rattle.std.proofs.Common.{◌≡◌, ℕ, List, [], ◌∷◌, Bool, true, false, refl, ap, sym, ◌∙◌, cond}
use Rattle.std.specs.Prelude.{Option, Some, None, option_map, ◌++◌}
use Rattle.std.specs.Ordering.{nat_cmp, eq_by_cmp}
use Rattle.std.specs.Cmp.{nat_cmp_total}
use Rattle.std.specs.FinMap.{get, insert, get-insert, get_tied, same_map, nat_cmp-IsAntisymmetric}
use Rattle.fs_ident.proofs.Booleans.{equal_is}
use Rattle.fs_ident.specs.declared.actor.Peer.{Peer}
use Rattle.fs_ident.specs.declared.actor.Peer.TheVariants.{Server, Client}
use Rattle.fs_msg.specs.declared.answer.Answer.{Answer}
use Rattle.fs_msg.specs.declared.msg.Msg.{Msg}
use Rattle.fs_msg.specs.declared.msg.Msg.TheVariants as msg
use Rattle.fs_serial.specs.Cluster.{is_with, without_first}
use Rattle.fs_world.specs.Served.{SessionStates, with_down, with_down_at, with_downs, without_up}
use Rattle.fs_world.specs.declared.servers.session_state.SessionState.{SessionState}

-- ## A state that is changed where it stands

abbrev changed_at : (SessionState → SessionState) → Option SessionState → ℕ → SessionStates → SessionStates
changed_at f None k sessions = sessions
changed_at f (Some state) k sessions = insert sessions k (f state)

abbrev changed : (SessionState → SessionState) → ℕ → SessionStates → SessionStates
changed f k sessions = changed_at f (get sessions k) k sessions

found : (f : SessionState → SessionState) (b : Bool) (state : SessionState) (here there : Option SessionState)
    → (b ≡ true → there ≡ Some state) → cond b (Some (f state)) there ≡ cond b (option_map f there) there
found f true state here there h = sym (ap (option_map f) (h refl))
found f false state here there h = refl

absent : (f : SessionState → SessionState) (b : Bool) (there : Option SessionState) → (b ≡ true → there ≡ None)
    → there ≡ cond b (option_map f there) there
absent f true there h = h refl ∙ sym (ap (option_map f) (h refl))
absent f false there h = refl

-- what stands there then
get_changed : (f : SessionState → SessionState) (k : ℕ) (sessions : SessionStates) (q : ℕ)
    → get (changed f k sessions) q ≡ cond (eq_by_cmp nat_cmp q k) (option_map f (get sessions q)) (get sessions q)
get_changed f k sessions q = go (get sessions k) refl
  where
    go : (o : Option SessionState) → get sessions k ≡ o
        → get (changed_at f o k sessions) q ≡ cond (eq_by_cmp nat_cmp q k) (option_map f (get sessions q)) (get sessions q)
    go None e = absent f _ (get sessions q) (λ t. sym (get_tied nat_cmp_total sessions q k (equal_is _ t)) ∙ e)
    go (Some state) e = get-insert nat_cmp_total sessions k (f state) q
        ∙ found f _ state (get sessions k) (get sessions q) (λ t. sym (get_tied nat_cmp_total sessions q k (equal_is _ t)) ∙ e)

abbrev popped : ℕ → SessionState → SessionState
popped n state = record state { up = without_first (is_with n) state.up }

abbrev answered : ℕ × Answer → SessionState → SessionState
answered a state = record state { down = state.down ++ a ∷ [] }

answered_at : (o : Option SessionState) (k : ℕ) (a : ℕ × Answer) (sessions : SessionStates)
    → with_down_at o k a sessions ≡ changed_at (answered a) o k sessions
answered_at None k a sessions = refl
answered_at (Some state) k a sessions = refl

popped_at : (o : Option SessionState) (n s : ℕ) (sessions : SessionStates) → without_up n o s sessions ≡ changed_at (popped n) o s sessions
popped_at None n s sessions = refl
popped_at (Some state) n s sessions = refl

-- ## Both changes, in either order

both : (n : ℕ) (a : ℕ × Answer) (o : Option SessionState) → option_map (answered a) (option_map (popped n) o) ≡ option_map (popped n)
    (option_map (answered a) o)
both n a None = refl
both n a (Some state) = refl

crossed : (n : ℕ) (a : ℕ × Answer) (o : Option SessionState) (b c : Bool)
    → cond b (option_map (answered a) (cond c (option_map (popped n) o) o)) (cond c (option_map (popped n) o) o) ≡ cond c
    (option_map (popped n) (cond b (option_map (answered a) o) o)) (cond b (option_map (answered a) o) o)
crossed n a o true true = both n a o
crossed n a o true false = refl
crossed n a o false true = refl
crossed n a o false false = refl

module _ (n s : ℕ) where
  in_either_order : (a : ℕ × Answer) (j : ℕ) (sessions : SessionStates)
      → changed (answered a) j (changed (popped n) s sessions) ≡ changed (popped n) s (changed (answered a) j sessions)
  in_either_order a j sessions = same_map nat_cmp_total nat_cmp-IsAntisymmetric _ _ (λ q.
      get_changed (answered a) j (changed (popped n) s sessions) q
      ∙ ap (λ o. cond (eq_by_cmp nat_cmp q j) (option_map (answered a) o) o) (get_changed (popped n) s sessions q)
      ∙ crossed n a (get sessions q) (eq_by_cmp nat_cmp q j) (eq_by_cmp nat_cmp q s)
      ∙ sym (get_changed (popped n) s (changed (answered a) j sessions) q
      ∙ ap (λ o. cond (eq_by_cmp nat_cmp q s) (option_map (popped n) o) o) (get_changed (answered a) j sessions q)))

  down_crosses : (k : ℕ) (x : Peer × Msg) (sessions : SessionStates)
      → with_down k x (changed (popped n) s sessions) ≡ changed (popped n) s (with_down k x sessions)
  down_crosses k (Client t, msg.Answer a) sessions =
      answered_at (get (changed (popped n) s sessions) t.0) t.0 (k, a) (changed (popped n) s sessions)
      ∙ in_either_order (k, a) t.0 sessions
      ∙ ap (changed (popped n) s) (sym (answered_at (get sessions t.0) t.0 (k, a) sessions))
  down_crosses k (Client t, msg.Client m) sessions = refl
  down_crosses k (Client t, msg.Peer m) sessions = refl
  down_crosses k (Server j, m) sessions = refl

  downs_cross : (k : ℕ) (xs : List (Peer × Msg)) (sessions : SessionStates)
      → with_downs k xs (changed (popped n) s sessions) ≡ changed (popped n) s (with_downs k xs sessions)
  downs_cross k [] sessions = refl
  downs_cross k (x ∷ xs) sessions = ap (with_downs k xs) (down_crosses k x sessions) ∙ downs_cross k xs (with_down k x sessions)

  -- whether the message is taken before or after, the same stands there
  pub popped_then : (k : ℕ) (xs : List (Peer × Msg)) (sessions : SessionStates)
      → without_up n (get (with_downs k xs sessions) s) s (with_downs k xs sessions) ≡ with_downs k xs
      (without_up n (get sessions s) s sessions)
  popped_then k xs sessions =
      popped_at (get (with_downs k xs sessions) s) n s (with_downs k xs sessions)
      ∙ sym (downs_cross k xs sessions)
      ∙ ap (with_downs k xs) (sym (popped_at (get sessions s) n s sessions))
