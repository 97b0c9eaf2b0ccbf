-- Every made schedule is one that may be run.
use Rattle.std.proofs.Common.{◌≡◌, ℕ, suc, zero, ◌+◌, ◌*◌, ◌/◌, ◌%◌, ◌<◌, ◌≤◌, ◌^◌, Bool, true, false, List, [], ◌∷◌, ◌++◌, length, refl, ap, sym, ◌∙◌, arith, length-append}
use Rattle.std.proofs.lemmas.Nat.{mod_below}
use Rattle.std.specs.Prelude.{None, IfSome, if◌then◌else◌, ◌==◌}
use Rattle.std.specs.List.{AllByRecursion}
use Rattle.fs_ident.specs.declared.actor.Session.{Session}
use Rattle.fs_ident.specs.declared.limits.TheConstants.{SESSIONS, LATEST}
use Rattle.fs_model.specs.Asking.{may_ask}
use Rattle.fs_model.specs.declared.op.Op.{Op}
use Rattle.fs_schedule.specs.declared.event.Event.{Event}
use Rattle.fs_schedule.specs.declared.event.What.{What}
use Rattle.fs_schedule.specs.declared.event.What.TheVariants.{Join, Do, Tell, Turn, Move}
use Rattle.fs_schedule.specs.declared.limits.TheConstants.{EVENTS}
use Rattle.fs_schedule.specs.Ahead.{AllReadBelow}
use Rattle.fs_schedule.specs.Made.{asks, block, block_at, blocks, creates_dir, draws_from, drawn, drawn_op, each, happenings, is_fixed, made, made_head, moves_before, moves_dir, op_of, session, state_after, state_before, stirred, turns, with_event, with_events}
use Rattle.fs_schedule.specs.Skew.{IsTimely, IsWithinSkew}
use Rattle.fs_schedule.specs.Spelling.{FitsEvent, FitsHead, FitsParts, FitsWhat, session_in}
use Rattle.fs_schedule.proofs.Parts.{dir_named, dir_valid, file_named, file_valid, root_valid}
use Rattle.fs_schedule.proofs.Skews.{all_append as events_append, all_weaker, within_push}

-- ## What happens fits the form

pub record Suits (w : What) : Type 0 where
  pub session : IfSome (session_in w) (λ s. (1 ≤ s.0) × (s.0 ≤ SESSIONS))
  pub what : FitsWhat made_head w

all_append : (P : What → Type 0) (vs ws : List What) → AllByRecursion P vs → AllByRecursion P ws → AllByRecursion P (vs ++ ws)
all_append P [] ws h k = k
all_append P (v ∷ vs) ws h k = (h.0, all_append P vs ws h.1 k)

all_each : (P : What → Type 0) (f : ℕ → List What) (n : ℕ) → ((k : ℕ) → 1 ≤ k → k ≤ n → AllByRecursion P (f k)) → AllByRecursion P (each f n)
unfolding each
all_each P f zero h = tt
all_each P f (suc n) h = all_append P (each f n) (f (suc n)) (all_each P f n (λ k some few. h k some (omega arith))) (h (suc n) (omega arith) (omega arith))

all_if : (P : What → Type 0) (b : Bool) (vs ws : List What) → (b ≡ true → AllByRecursion P vs) → AllByRecursion P ws → AllByRecursion P (if b then vs else ws)
all_if P true vs ws h k = h refl
all_if P false vs ws h k = k

tell_suits : Suits (Tell None)
tell_suits = record { session = tt; what = (omega arith, tt) }

tells_suit : (n : ℕ) → AllByRecursion Suits (each (λ _. Tell None ∷ []) n)
tells_suit n = all_each Suits (λ _. Tell None ∷ []) n (λ k some few. (tell_suits, tt))

join_suits : (k : ℕ) → 1 ≤ k → k ≤ 6 → AllByRecursion Suits (Join (session k) ∷ [])
join_suits k some few = (record { session = (some, omega arith); what = tt }, tt)

turns_suit : (k : ℕ) → 1 ≤ k → k ≤ 6 → AllByRecursion Suits (turns k)
turns_suit k some few = (record { session = (some, omega arith); what = omega arith }, tells_suit 3)

asks_suit : (s : Session) (o : Op) → 1 ≤ s.0 → s.0 ≤ 6 → FitsParts o → may_ask o ≡ true → AllByRecursion Suits (asks s o)
asks_suit s o some few parts there = (record { session = (some, omega arith); what = (there, parts) }, tells_suit 6)

block_suits : (s : Session) (o : Op) → 1 ≤ s.0 → s.0 ≤ 6 → FitsParts o → may_ask o ≡ true → AllByRecursion Suits (block s o)
block_suits s o some few parts asked = all_append Suits _ _ (all_each Suits (λ _. asks s o) 4 (λ _ _ _. asks_suit s o some few parts asked)) (all_each Suits turns 6 turns_suit)

dir_suits : (k : ℕ) → 1 ≤ k → k ≤ 8 → AllByRecursion Suits (block (session 1) (creates_dir k))
dir_suits k some few = block_suits (session 1) (creates_dir k) (omega arith) (omega arith) (root_valid, dir_named k (omega arith)) refl

-- ## Blocks

parts_if : (b : Bool) (o p : Op) → FitsParts o → FitsParts p → FitsParts (if b then o else p)
parts_if true o p h k = h
parts_if false o p h k = k

op_suits : (kind dir file to : ℕ) → 1 ≤ dir → dir ≤ 8 → 1 ≤ file → file ≤ 5 → 1 ≤ to → to ≤ 8 → FitsParts (op_of kind dir file to)
op_suits kind dir file to d e f g t u =
    let here = dir_valid dir d (omega arith) in
    let there = dir_valid to t (omega arith) in
    let inside = file_valid dir file d (omega arith) f (omega arith) in
    let name = file_named file (omega arith) in
    parts_if (kind == 0) _ _ (here, name)
    (parts_if (kind == 1) _ _ (here, name)
    (parts_if (kind == 2) _ _ here
    (parts_if (kind == 3) _ _ (inside, omega arith)
    (parts_if (kind == 4) _ _ (inside, omega arith)
    (parts_if (kind == 5) _ _ inside
    (parts_if (kind == 6) _ _ (here, name, there, name) (here, name)))))))

asked_if : (b : Bool) (o p : Op) → may_ask o ≡ true → may_ask p ≡ true → may_ask (if b then o else p) ≡ true
asked_if true o p h k = h
asked_if false o p h k = k

op_asked : (kind dir file to : ℕ) → may_ask (op_of kind dir file to) ≡ true
op_asked kind dir file to =
    asked_if (kind == 0) _ _ refl
    (asked_if (kind == 1) _ _ refl
    (asked_if (kind == 2) _ _ refl
    (asked_if (kind == 3) _ _ refl
    (asked_if (kind == 4) _ _ refl
    (asked_if (kind == 5) _ _ refl
    (asked_if (kind == 6) _ _ refl refl))))))

below : (x many : ℕ) → 0 < many → drawn x many < many
below x many some = mod_below (x / 2 ^ 33) many some

drawn_suits : (x : ℕ) → AllByRecursion Suits (block (session (draws_from x).session) (drawn_op (draws_from x)))
drawn_suits x =
    let w = draws_from x in
    let a = below (stirred x) 6 (omega arith) in
    let b = below (stirred (stirred x)) 8 (omega arith) in
    let c = below (stirred (stirred (stirred x))) 5 (omega arith) in
    let t = below (stirred w.state) 8 (omega arith) in
    block_suits (session w.session) (drawn_op w) (omega arith) (omega arith) (op_suits w.kind w.dir w.file (1 + drawn (stirred w.state) 8) (omega arith) (omega arith) (omega arith) (omega arith) (omega arith) (omega arith))
    (op_asked w.kind w.dir w.file (1 + drawn (stirred w.state) 8))

move_suits : (k : ℕ) → 1 ≤ k → k ≤ 2 → AllByRecursion Suits (Move 0 (k ∷ []) k ∷ [])
move_suits k some few = (record { session = tt; what = ((omega arith, omega arith), dir_valid k some (omega arith), (omega arith, omega arith)) }, tt)

moves_suit : (b : ℕ) → AllByRecursion Suits (moves_before b)
moves_suit b = all_if Suits (b == 300) _ _ (λ _. move_suits 1 (omega arith) (omega arith)) (all_if Suits (b == 600) _ _ (λ _. move_suits 2 (omega arith) (omega arith)) tt)

block_at_suits : (b x : ℕ) → AllByRecursion Suits (block_at b x)
block_at_suits b x = all_if Suits (is_fixed b) _ _ (λ _. block_suits (session 1) moves_dir (omega arith) (omega arith) (root_valid, dir_named 1 (omega arith), dir_valid 2 (omega arith) (omega arith), dir_named 1 (omega arith)) refl) (drawn_suits x)

blocks_suit : (n b : ℕ) → AllByRecursion Suits (blocks n b)
unfolding blocks
blocks_suit n zero = tt
blocks_suit n (suc b) = all_append Suits (blocks n b) (moves_before b ++ block_at b (state_before n b)) (blocks_suit n b) (all_append Suits (moves_before b) (block_at b (state_before n b)) (moves_suit b) (block_at_suits b (state_before n b)))

all_suit : (n : ℕ) → AllByRecursion Suits (happenings n)
all_suit n = all_append Suits _ _ (all_each Suits (λ k. Join (session k) ∷ []) 6 join_suits) (all_append Suits _ _ (all_each Suits (λ k. block (session 1) (creates_dir k)) 8 dir_suits) (blocks_suit n 1000))

-- ## How many there are

length_if : (b : Bool) (vs ws : List What) (n : ℕ) → length vs ≤ n → length ws ≤ n → length (if b then vs else ws) ≤ n
length_if true vs ws n h k = h
length_if false vs ws n h k = k

block_few : (s : Session) (o : Op) → length (block s o) ≤ 52
unfolding each
block_few s o = omega arith

moves_few : (b : ℕ) → length (moves_before b) ≤ 1
moves_few b = length_if (b == 300) _ _ 1 (omega arith) (length_if (b == 600) _ _ 1 (omega arith) (omega arith))

block_at_few : (b x : ℕ) → length (block_at b x) ≤ 52
block_at_few b x = length_if (is_fixed b) _ _ 52 (block_few (session 1) moves_dir) (block_few (session (draws_from x).session) (drawn_op (draws_from x)))

blocks_few : (n b : ℕ) → length (blocks n b) ≤ 53 * b
unfolding blocks
blocks_few n zero = omega arith
blocks_few n (suc b) =
    omega (arith, blocks_few n b, moves_few b, block_at_few b (state_before n b), length-append (blocks n b) (moves_before b ++ block_at b (state_before n b)), length-append (moves_before b) (block_at b (state_before n b)))

each_few : (f : ℕ → List What) (n : ℕ) → ((k : ℕ) → length (f k) ≤ 52) → length (each f n) ≤ 52 * n
unfolding each
each_few f zero h = omega arith
each_few f (suc n) h = omega (arith, each_few f n h, h (suc n), length-append (each f n) (f (suc n)))

all_few : (n : ℕ) → length (happenings n) ≤ EVENTS
all_few n =
    let joins = each_few (λ k. Join (session k) ∷ []) 6 (λ k. omega arith) in
    let dirs = each_few (λ k. block (session 1) (creates_dir k)) 8 (λ k. block_few (session 1) (creates_dir k)) in
    let rest = blocks_few n 1000 in
    omega (arith, joins, dirs, rest, length-append (each (λ k. Join (session k) ∷ []) 6) (each (λ k. block (session 1) (creates_dir k)) 8 ++ blocks n 1000), length-append (each (λ k. block (session 1) (creates_dir k)) 8) (blocks n 1000))

-- ## Events

-- the readings are the numbers of the events, which fit the form
pub record IsOrderly (es : List Event) : Type 0 where
  pub fits : AllByRecursion (FitsEvent made_head) es
  pub timely : IsWithinSkew 0 es
  pub read : AllReadBelow (length es) es

event_read : (es : List Event) (w : What) → length (with_event es w) ≡ length es + 1
event_read es w = length-append es (record { reading = length es + 1; what = w } ∷ [])

orderly_event : (es : List Event) (w : What) → length es < LATEST → Suits w → IsOrderly es → IsOrderly (with_event es w)
orderly_event es w few suits h =
    let e : Event = record { reading = length es + 1; what = w } in
    record {
      fits = events_append (FitsEvent made_head) es (e ∷ []) h.fits (record { reading = omega arith; session = suits.session; what = suits.what }, tt);
      timely = within_push 0 es e h.timely (all_weaker (length es) (e.reading + 0) es (omega arith) h.read);
      read = events_append (λ (f : Event). f.reading ≤ length (with_event es w)) es (e ∷ []) (all_weaker (length es) (length (with_event es w)) es (omega (arith, event_read es w)) h.read) (omega (arith, event_read es w), tt);
    }

orderly_events : (es : List Event) (ws : List What) → length es + length ws ≤ LATEST → AllByRecursion Suits ws → IsOrderly es → IsOrderly (with_events es ws)
orderly_events es [] few suit h = h
orderly_events es (w ∷ ws) few suit h = orderly_events (with_event es w) ws (omega (arith, event_read es w)) suit.1 (orderly_event es w (omega arith) suit.0 h)

as_many : (es : List Event) (ws : List What) → length (with_events es ws) ≡ length es + length ws
as_many es [] = omega arith
as_many es (w ∷ ws) = omega (arith, as_many (with_event es w) ws, event_read es w)

orderly : (n : ℕ) → IsOrderly (with_events [] (happenings n))
orderly n = orderly_events [] (happenings n) (omega (arith, all_few n)) (all_suit n) (record { fits = tt; timely = tt; read = tt })

-- ## The law

pub made_form : (n : ℕ) → FitsHead (made n).head
unfolding made
made_form n = (omega arith, omega arith, omega arith, omega arith, omega arith)

pub made_fits : (n : ℕ) → AllByRecursion (FitsEvent (made n).head) (made n).events
unfolding made
made_fits n = (orderly n).fits

pub made_timely : (n : ℕ) → IsTimely (made n).head (made n).events
unfolding made
made_timely n = (orderly n).timely

pub made_few : (n : ℕ) → length (made n).events ≤ EVENTS
unfolding made
made_few n = omega (arith, as_many [] (happenings n), all_few n)
