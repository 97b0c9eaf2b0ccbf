-- What made schedules are made of, one after another.
use Rattle.std.proofs.Common.{◌≡◌, ℕ, suc, zero, ◌+◌, List, [], ◌∷◌, ◌++◌, refl, ap, sym, subst, ◌∙◌, append_assoc, append-nil, add-one}
use Rattle.std.proofs.Math.Nat.{mod-add-mod}
use Rattle.fs_schedule.specs.declared.event.Event.{Event}
use Rattle.fs_schedule.specs.declared.event.What.{What}
use Rattle.fs_schedule.specs.declared.event.What.TheVariants.{Join}
use Rattle.fs_schedule.specs.declared.event.Schedule.{Schedule}
use Rattle.fs_schedule.specs.Made.{each, block, blocks, creates_dir, made, made_head, session, state_before, state_after, moves_before, block_at, with_event, with_events}

pub with_both : (es : List Event) (vs ws : List What) → with_events (with_events es vs) ws ≡ with_events es (vs ++ ws)
with_both es [] ws = refl
with_both es (v ∷ vs) ws = with_both (with_event es v) vs ws

-- the made schedule of these events
abbrev pub scheduled : List Event → Schedule
scheduled es = record { head = made_head; events = es }

-- nothing comes of no number
pub each_none : (es : List Event) (f : ℕ → List What) → es ≡ with_events es (each f 0)
unfolding each
each_none es f = refl

-- one number more
pub each_more : (f : ℕ → List What) (k : ℕ) (es fs gs : List Event) → fs ≡ with_events es (each f k) → gs ≡ with_events fs (f (k + 1)) → gs ≡ with_events es (each f (k + 1))
unfolding each
each_more f k es fs gs e h = let g = rw add-one at h in rw add-one (g ∙ ap (λ (xs : List Event). with_events xs (f (suc k))) e ∙ with_both es (each f k) (f (suc k)))

-- the blocks so far, and the state of the draws before the next one
pub record IsMade (n b : ℕ) (before after : List Event) (state : ℕ) : Type 0 where
  pub events : after ≡ with_events before (blocks n b)
  pub drawn : state ≡ state_before n b

pub no_block : (n : ℕ) (es : List Event) → IsMade n 0 es es n
unfolding blocks state_before
no_block n es = record { events = refl; drawn = refl }

pub one_block : (n b : ℕ) (es fs gs hs : List Event) (state next : ℕ) → IsMade n b es fs state → gs ≡ with_events fs (moves_before b) → hs ≡ with_events gs (block_at b state) → next ≡ state_after b state → IsMade n (b + 1) es hs next
unfolding blocks state_before
one_block n b es fs gs hs state next h m k e =
    let P : ℕ → Type 0 = λ x. hs ≡ with_events gs (block_at b x) in
    record {
      events = rw add-one (subst P h.drawn k ∙ ap (λ (xs : List Event). with_events xs (block_at b (state_before n b))) (m ∙ ap (λ (xs : List Event). with_events xs (moves_before b)) h.events ∙ with_both es (blocks n b) (moves_before b)) ∙ with_both es (blocks n b ++ moves_before b) (block_at b (state_before n b)) ∙ ap (with_events es) (append_assoc (blocks n b) (moves_before b) (block_at b (state_before n b))));
      drawn = rw add-one (e ∙ ap (state_after b) h.drawn);
    }

-- the schedule, whose events are added to none
pub made_of : (n : ℕ) (none es fs gs : List Event) → none ≡ [] → es ≡ with_events none (each (λ k. Join (session k) ∷ []) 6) → fs ≡ with_events es (each (λ k. block (session 1) (creates_dir k)) 8) → gs ≡ with_events fs (blocks n 1000) → scheduled gs ≡ made n
unfolding made
made_of n none es fs gs z e h k =
    let joins : List What = each (λ k. Join (session k) ∷ []) 6 in
    let dirs : List What = each (λ k. block (session 1) (creates_dir k)) 8 in
    let rest : List What = blocks n 1000 in
    let front : fs ≡ with_events [] (joins ++ dirs) = h ∙ ap (λ (xs : List Event). with_events xs dirs) (e ∙ ap (λ (xs : List Event). with_events xs joins) z) ∙ with_both [] joins dirs in
    ap scheduled (k ∙ ap (λ (xs : List Event). with_events xs rest) front ∙ with_both [] (joins ++ dirs) rest ∙ ap (with_events []) (append_assoc joins dirs rest))
