-- In every run a session is over only behind an answer that a server gave.
use Rattle.std.proofs.Common.{◌≡◌, ℕ, List, [], ◌∷◌, ◌++◌}
use Rattle.std.specs.Prelude.{Option, Some, None}
use Rattle.std.specs.FinMap.{empty, get, get-empty}
use Rattle.std.specs.Ordering.{nat_cmp}
use Rattle.fs_ident.specs.declared.actor.Session.{Session}
use Rattle.fs_model.specs.declared.op.Op.{Op}
use Rattle.fs_schedule.specs.declared.event.Event.{Event}
use Rattle.fs_schedule.specs.declared.event.Head.{Head}
use Rattle.fs_schedule.specs.declared.event.Head.TheVariants as head
use Rattle.fs_schedule.specs.declared.event.What.{What}
use Rattle.fs_schedule.specs.declared.event.What.TheVariants.{Join, Do}
use Rattle.fs_world.specs.Carried.{AllCarry}
use Rattle.fs_world.specs.Direct.{do_at, first_direct, join_at, step_of}
use Rattle.fs_world.specs.Over.{AllCaused, Said, all_said, said_at, said_from}
use Rattle.fs_world.specs.Served as served
use Rattle.fs_world.specs.Served.{first_served}
use Rattle.fs_world.specs.World.{first_world, step}
use Rattle.fs_world.specs.declared.direct.world.Direct.{Direct as TheDirect}
use Rattle.fs_world.specs.declared.form.Form.TheVariants.{Direct, Served}
use Rattle.fs_world.specs.declared.servers.session_state.SessionState.{SessionState}
use Rattle.fs_world.specs.declared.servers.world.Served.{Served as TheServed}
use Rattle.fs_world.proofs.Causes.{step_says}
use Rattle.fs_world.proofs.Said.{AreKnown, caused_append}

-- ## The direct form says nothing of logs

joins_silent : (before : List Said) (s : Session) (o : Option ℕ) (w : TheDirect)
    → AllCaused before (all_said None (join_at o w s).outcome.who (join_at o w s).outcome.notes)
joins_silent before s None w = tt
joins_silent before s (Some n) w = tt

does_silent : (before : List Said) (s : Session) (op : Op) (o : Option ℕ) (w : TheDirect)
    → AllCaused before (all_said None (do_at o w s op).outcome.who (do_at o w s op).outcome.notes)
does_silent before s op None w = tt
does_silent before s op (Some n) w = tt

direct_silent : (before : List Said) (w : TheDirect) (what : What)
    → AllCaused before (all_said None (step_of w what).outcome.who (step_of w what).outcome.notes)
direct_silent before w (Join s) = joins_silent before s (get w.asked s.0) w
direct_silent before w (Do s o) = does_silent before s o (get w.asked s.0) w
direct_silent before w what = tt

direct_caused : (es : List Event) (before : List Said) (w : TheDirect) → AllCaused before (said_from (Direct w) es)
direct_caused [] before w = tt
direct_caused (e ∷ es) before w =
    caused_append before (said_at (Direct w) e) (said_from (step (Direct w) e).world es) (direct_silent before w e.what)
    (direct_caused es (before ++ said_at (Direct w) e) (step_of w e.what).world)

-- ## Every event of the servers form says what was caused

served_caused : (es : List Event) (before : List Said) (w : TheServed) → AreKnown before w.sessions → AllCarry (Served w) es
    → AllCaused before (said_from (Served w) es)
served_caused [] before w h carry = tt
served_caused (e ∷ es) before w h carry =
    let says = step_says before w h e.reading carry.0 e.what in
    caused_append before (said_at (Served w) e) (said_from (step (Served w) e).world es) says.caused
    (served_caused es (before ++ said_at (Served w) e) (served.step_of w e.reading e.what).world says.known carry.1)

none_has_no_state : (o : Option SessionState) (state : SessionState) → o ≡ None → o ≡ Some state → ⊥
none_has_no_state o state none some = absurd (cc)

none_sessions : AreKnown [] empty
none_sessions s state at = absurd (none_has_no_state _ state (get-empty nat_cmp s.0) at)

pub all_caused : (h : Head) (es : List Event) → AllCarry (first_world h) es → AllCaused [] (said_from (first_world h) es)
all_caused head.Direct es carry = direct_caused es [] first_direct
all_caused (head.Servers servers skew term) es carry = served_caused es [] (first_served servers skew term) none_sessions carry
