use Rattle.std.proofs.Common.{sym, ap, ◌∙◌, ℕ, ◌-◌, take}
use Rattle.fs_world.proofs.SessionMaps.{none_taken_back, taken_back}
use Rattle.fs_world.proofs.servers.session_states.SessionStates.unpush_down.Goals as goal

pub returns-in-Some : goal.returns-in-Some
returns-in-Some c = λ sessions a e.
    let state = c.in-Some.state.now in
    taken_back sessions c.args.self.now state c.args.s.0 a c.truncate.new.self e (sym c.in-Some.ensures.value)
    (c.truncate.ensures ∙ ap (λ (n : ℕ). take n state.down) (c.saturating_sub.ensures ∙ ap (λ (n : ℕ). n - 1) c.len-len.ensures))

pub returns-in-None : goal.returns-in-None
returns-in-None c = λ sessions a e. none_taken_back sessions c.args.self.now c.args.s.0 a e (sym c.in-None.ensures.value)
