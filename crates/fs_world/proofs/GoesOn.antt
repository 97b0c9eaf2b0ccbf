-- What holds of every world of a schedule, whatever its form.
use Rattle.std.proofs.Common.{◌≡◌, ℕ, ◌+◌, ◌≤◌, max, refl, List, [], ◌∷◌, arith}
use Rattle.std.specs.List.{AllByRecursion}
use Rattle.fs_schedule.specs.declared.event.Event.{Event}
use Rattle.fs_schedule.specs.declared.event.Head.{Head}
use Rattle.fs_schedule.specs.declared.event.Head.TheVariants as head
use Rattle.fs_world.specs.Carried.{AllCarry}
use Rattle.fs_world.specs.Order.{Tale, after, first_tale}
use Rattle.fs_world.specs.Parts.{greatest_of}
use Rattle.fs_schedule.specs.Skew.{IsTimely, IsWithinSkew}
use Rattle.fs_schedule.specs.Spelling.{FitsHead}
use Rattle.fs_world.specs.World.{AllMayHappen, first_world, step}
use Rattle.fs_world.specs.declared.form.Form.{Form}
use Rattle.fs_world.specs.declared.form.Form.TheVariants.{Direct, Served}
use Rattle.fs_world.specs.declared.servers.world.Served.{Served as TheServed}
use Rattle.fs_world.proofs.DirectKept as direct
use Rattle.fs_world.proofs.FirstServed.{first_holds}
use Rattle.fs_world.proofs.ServedSteps.{step_holds}
use Rattle.fs_world.proofs.SerialLaws.{SerialLaws, timed}
use Rattle.fs_world.proofs.SessionSteps.{HoldsOf}

-- no reading so far is ahead of one to come by more than the skew
abbrev pub IsAhead : ℕ → ℕ → List Event → Type 0
IsAhead greatest skew es = AllByRecursion (λ (e : Event). greatest ≤ e.reading + skew) es

-- of the greatest reading `top` of the whole run
pub record ServedGoes (laws : SerialLaws) (top servers skew term : ℕ) (es : List Event) (tale : Tale) (w : TheServed) : Type 0 where
  pub greatest : ℕ
  pub some : 1 ≤ servers
  pub holds : HoldsOf (timed laws) servers skew greatest tale w
  pub called : AllMayHappen (head.Servers servers skew term) es
  pub within : IsWithinSkew skew es
  pub carry : AllCarry (Served w) es
  pub ahead : IsAhead greatest skew es
  pub highest : greatest_of greatest es ≡ top

-- while these events are to come, where this was told
abbrev pub Goes : SerialLaws → ℕ → Head → List Event → Tale → Form → Type 0
Goes laws top head.Direct es tale (Direct w) = AllMayHappen head.Direct es × direct.Holds tale.told w
Goes laws top (head.Servers servers skew term) es tale (Served w) = ServedGoes laws top servers skew term es tale w
Goes laws top h es tale w = ⊥

-- ## One event

still_ahead : (greatest now skew : ℕ) (es : List Event) → IsAhead greatest skew es → IsAhead now skew es
    → IsAhead (max greatest now) skew es
still_ahead greatest now skew [] a b = tt
still_ahead greatest now skew (e ∷ es) a b = let p = a.0 in let q = b.0 in (omega arith, still_ahead greatest now skew es a.1 b.1)

served_goes : (laws : SerialLaws) (top servers skew term : ℕ) (e : Event) (es : List Event) (tale : Tale) (w : TheServed)
    → ServedGoes laws top servers skew term (e ∷ es) tale w
    → Goes laws top (head.Servers servers skew term) es (after e.what (step (Served w) e).outcome tale) (step (Served w) e).world
served_goes laws top servers skew term e es tale w h = record {
  some = h.some;
  greatest = max h.greatest e.reading;
  holds = step_holds (timed laws) servers skew h.greatest tale w h.holds e.reading h.ahead.0 h.some h.carry.0 term e.what h.called.0;
  called = h.called.1;
  within = h.within.1;
  carry = h.carry.1;
  ahead = still_ahead h.greatest e.reading skew es h.ahead.1 h.within.0;
  highest = h.highest;
}

pub goes_on : (laws : SerialLaws) (top : ℕ) (h : Head) (e : Event) (es : List Event) (tale : Tale) (w : Form)
    → Goes laws top h (e ∷ es) tale w → Goes laws top h es (after e.what (step w e).outcome tale) (step w e).world
goes_on laws top head.Direct e es tale (Direct w) g = (g.0.1, direct.step_holds tale w e.what g.0.0 g.1)
goes_on laws top (head.Servers servers skew term) e es tale (Served w) g = served_goes laws top servers skew term e es tale w g
goes_on laws top head.Direct e es tale (Served w) g = absurd g
goes_on laws top (head.Servers servers skew term) e es tale (Direct w) g = absurd g

-- ## The first world

none_ahead : (skew : ℕ) (es : List Event) → IsAhead 0 skew es
none_ahead skew [] = tt
none_ahead skew (e ∷ es) = (omega arith, none_ahead skew es)

pub goes_first : (laws : SerialLaws) (h : Head) (es : List Event) → FitsHead h → AllMayHappen h es → IsTimely h es
    → AllCarry (first_world h) es → Goes laws (greatest_of 0 es) h es first_tale (first_world h)
goes_first laws head.Direct es fits called timely carry = (called, direct.first_holds)
goes_first laws (head.Servers servers skew term) es fits called timely carry = record {
  greatest = 0;
  some = fits.0;
  holds = first_holds (timed laws) servers skew term fits.0;
  called = called;
  within = timely;
  carry = carry;
  ahead =
      none_ahead skew es;
  highest = refl;
}
