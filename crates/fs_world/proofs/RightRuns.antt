-- Every event of every run notes what is right.
use Rattle.std.proofs.Common.{◌≡◌, ℕ, Bool, false, List, [], ◌∷◌, ◌++◌, refl}
use Rattle.std.specs.Prelude.{Option, Some, None}
use Rattle.std.specs.FinMap.{get}
use Rattle.std.specs.List.{AllByRecursion}
use Rattle.std.proofs.lemmas.Bool.{or_from}
use Rattle.fs_ident.specs.declared.actor.Session.{Session}
use Rattle.fs_model.specs.declared.op.Op.{Op}
use Rattle.fs_msg.specs.declared.note.Note.{Note}
use Rattle.fs_schedule.specs.declared.event.Event.{Event}
use Rattle.fs_schedule.specs.declared.event.Head.{Head}
use Rattle.fs_schedule.specs.declared.event.Head.TheVariants as head
use Rattle.fs_schedule.specs.declared.event.Schedule.{Schedule}
use Rattle.fs_schedule.specs.declared.event.What.{What}
use Rattle.fs_schedule.specs.declared.event.What.TheVariants.{Join, Do}
use Rattle.fs_schedule.specs.declared.outcome.Outcome.{Outcome}
use Rattle.fs_world.specs.Carried.{AllCarry}
use Rattle.fs_world.specs.Direct.{do_at, join_at, step_of}
use Rattle.fs_world.specs.Order.{Tale, after, first_tale}
use Rattle.fs_world.specs.Refusals.{AllFair, HasNone, IsFairAnswer, IsFairLed, IsOwnTxn, NoneHas, NoneStrange, is_core_strange}
use Rattle.fs_world.specs.Refusals.{is_link_strange, is_strange, rows_of}
use Rattle.fs_schedule.specs.Skew.{IsTimely}
use Rattle.fs_schedule.specs.Spelling.{FitsHead}
use Rattle.fs_world.specs.World.{AllMayHappen, Run, first_run, first_world, more, run_of, run_on, step}
use Rattle.fs_world.specs.declared.direct.world.Direct.{Direct as TheDirect}
use Rattle.fs_world.specs.declared.form.Form.{Form}
use Rattle.fs_world.specs.declared.form.Form.TheVariants.{Direct, Served}
use Rattle.fs_world.specs.Parts.{greatest_of}
use Rattle.fs_world.proofs.GoesOn.{Goes, goes_first, goes_on}
use Rattle.fs_world.proofs.SerialLaws.{SerialLaws}
use Rattle.fs_world.proofs.Right.{Fairness, NoteFair}
use Rattle.fs_world.proofs.RightSteps.{AllRight, step_right}

-- ## One event

direct_join : (ok : Fairness) (s : Session) (o : Option ℕ) (w : TheDirect) → AllRight ok (join_at o w s).outcome.notes
direct_join ok s None w = (record { plain = refl; fair = tt }, tt)
direct_join ok s (Some n) w = (record { plain = refl; fair = tt }, tt)

direct_do : (ok : Fairness) (s : Session) (op : Op) (o : Option ℕ) (w : TheDirect) → AllRight ok (do_at o w s op).outcome.notes
direct_do ok s op None w = (record { plain = refl; fair = tt }, tt)
direct_do ok s op (Some n) w = (record { plain = refl; fair = tt }, tt)

direct_right : (ok : Fairness) (w : TheDirect) (what : What) → AllRight ok (step_of w what).outcome.notes
direct_right ok w (Join s) = direct_join ok s (get w.asked s.0) w
direct_right ok w (Do s o) = direct_do ok s o (get w.asked s.0) w
direct_right ok w what = (record { plain = refl; fair = tt }, tt)

-- what is fair in the event
abbrev fair_in : Form → Event → Fairness
fair_in w e = record {
  answers = IsFairAnswer w e (rows_of (step w e).world);
  own = IsOwnTxn w e.what;
  ended = IsFairLed w (rows_of (step w e).world);
  who = (step w e).outcome.who;
}

right_at : (laws : SerialLaws) (top : ℕ) (h : Head) (e : Event) (es : List Event) (tale : Tale) (w : Form)
    → Goes laws top h (e ∷ es) tale w → AllRight (fair_in w e) (step w e).outcome.notes
right_at laws top head.Direct e es tale (Direct w) g = direct_right (fair_in (Direct w) e) w e.what
right_at laws top (head.Servers servers skew term) e es tale (Served w) g =
    step_right laws servers skew g.greatest tale w g.holds e.reading g.ahead.0 g.some g.carry.0 term e.what g.called.0
right_at laws top head.Direct e es tale (Served w) g = absurd g
right_at laws top (head.Servers servers skew term) e es tale (Direct w) g = absurd g

-- ## All events

all_fair : (ok : Fairness) (notes : List Note) → AllRight ok notes → AllByRecursion (NoteFair ok) notes
all_fair ok [] h = tt
all_fair ok (n ∷ ns) h = (h.0.fair, all_fair ok ns h.1)

all_plain : (ok : Fairness) (notes : List Note) → AllRight ok notes → AllByRecursion (λ (n : Note). is_core_strange n ≡ false) notes
all_plain ok [] h = tt
all_plain ok (n ∷ ns) h = (h.0.plain, all_plain ok ns h.1)

fair_from : (laws : SerialLaws) (top : ℕ) (h : Head) (es : List Event) (tale : Tale) (w : Form) → Goes laws top h es tale w → AllFair w es
fair_from laws top h [] tale w g = tt
fair_from laws top h (e ∷ es) tale w g = (
  all_fair (fair_in w e) (step w e).outcome.notes (right_at laws top h e es tale w g),
  fair_from laws top h es (after e.what (step w e).outcome tale) (step w e).world (goes_on laws top h e es tale w g),
)

-- one more outcome has no note of the kind
pub one_more : (kind : Note → Bool) (outcomes : List Outcome) (o : Outcome) → NoneHas kind outcomes → HasNone kind o
    → NoneHas kind (outcomes ++ o ∷ [])
one_more kind [] o h p = (p, tt)
one_more kind (x ∷ xs) o h p = (h.0, one_more kind xs o h.1 p)

plain_from : (laws : SerialLaws) (top : ℕ) (h : Head) (es : List Event) (tale : Tale) (r : Run) → Goes laws top h es tale r.world
    → NoneHas is_core_strange r.outcomes → NoneHas is_core_strange (run_on r es).outcomes
plain_from laws top h [] tale r g p = p
plain_from laws top h (e ∷ es) tale r g p =
    plain_from laws top h es (after e.what (step r.world e).outcome tale) (more r e) (goes_on laws top h e es tale r.world g)
    (one_more is_core_strange r.outcomes (step r.world e).outcome p (all_plain (fair_in r.world e) (step r.world e).outcome.notes
    (right_at laws top h e es tale r.world g)))

pub no_core_strange : (laws : SerialLaws) (s : Schedule) → FitsHead s.head → AllMayHappen s.head s.events → IsTimely s.head s.events
    → AllCarry (first_world s.head) s.events → NoneHas is_core_strange (run_of s).outcomes
no_core_strange laws s fits may timely carry = plain_from laws (greatest_of 0 s.events) s.head s.events first_tale (first_run s.head)
    (goes_first laws s.head s.events fits may timely carry) tt

pub refusals_fair : (laws : SerialLaws) (s : Schedule) → FitsHead s.head → AllMayHappen s.head s.events → IsTimely s.head s.events
    → AllCarry (first_world s.head) s.events → AllFair (first_world s.head) s.events
refusals_fair laws s fits may timely carry = fair_from laws (greatest_of 0 s.events) s.head s.events first_tale (first_world s.head)
    (goes_first laws s.head s.events fits may timely carry)

-- ## Strange to no link, and to no core

notes_neither : (notes : List Note) → AllByRecursion (λ (n : Note). is_link_strange n ≡ false) notes
    → AllByRecursion (λ (n : Note). is_core_strange n ≡ false) notes → AllByRecursion (λ (n : Note). is_strange n ≡ false) notes
notes_neither [] p q = tt
notes_neither (n ∷ ns) p q = (or_from (is_link_strange n) (is_core_strange n) p.0 q.0, notes_neither ns p.1 q.1)

pub neither_strange : (outcomes : List Outcome) → NoneHas is_link_strange outcomes → NoneHas is_core_strange outcomes → NoneStrange outcomes
neither_strange [] p q = tt
neither_strange (o ∷ os) p q = (notes_neither o.notes p.0 q.0, neither_strange os p.1 q.1)
