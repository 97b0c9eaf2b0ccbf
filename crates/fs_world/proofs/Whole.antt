-- The headline, whatever the form.
use Rattle.std.proofs.Common.{◌≡◌, ℕ, List, [], refl, subst}
use Rattle.fs_model.specs.Namespace.{first_space}
use Rattle.fs_model.proofs.SoundRuns.{first_sound}
use Rattle.fs_msg.specs.Journal.{IsSerialRun}
use Rattle.fs_schedule.specs.declared.event.Event.{Event}
use Rattle.fs_schedule.specs.declared.event.Head.{Head}
use Rattle.fs_schedule.specs.declared.event.Head.TheVariants as head
use Rattle.fs_schedule.specs.declared.event.Schedule.{Schedule}
use Rattle.fs_world.specs.Carried.{AllCarry}
use Rattle.fs_world.specs.Order.{AllAdmitted, IsInSessionOrder, Tale, ReplyGiven, first_tale, tale_of, replies_given}
use Rattle.fs_world.specs.Parts.{AllPartsHold, PartsHold, ServedHold, greatest_of}
use Rattle.fs_world.specs.Safe.{IsSerial}
use Rattle.fs_schedule.specs.Skew.{IsTimely}
use Rattle.fs_schedule.specs.Spelling.{FitsHead}
use Rattle.fs_world.specs.Direct.{first_direct}
use Rattle.fs_world.specs.World.{AllMayHappen, first_run, first_world, journal_of, run_of, space_of}
use Rattle.fs_world.specs.declared.form.Form.{Form}
use Rattle.fs_world.specs.declared.form.Form.TheVariants.{Direct, Served}
use Rattle.fs_world.proofs.DirectKept.{actors_numbered, agree}
use Rattle.fs_world.proofs.GoesOn.{Goes, goes_first, goes_on}
use Rattle.fs_world.proofs.Runs.{run_keeps}
use Rattle.fs_world.proofs.Serial.{AllAsk, safe_after}
use Rattle.fs_world.proofs.SerialLaws.{SerialLaws}
use Rattle.fs_world.proofs.ServedDone.{served_asks, served_ordered, served_parts, served_serial}
use Rattle.fs_world.proofs.Within.{nothing_carried}

-- what a world comes to
record IsDone (told : List ReplyGiven) (w : Form) : Type 0 where
  serial : IsSerialRun first_space (journal_of w) (space_of w)
  ordered : IsInSessionOrder (journal_of w) told
  asks : AllAsk (journal_of w)

done : (laws : SerialLaws) (top : ℕ) (h : Head) (tale : Tale) (w : Form) → Goes laws top h [] tale w → IsDone tale.told w
done laws top head.Direct tale (Direct w) g = record {
  serial = g.1.serial;
  ordered =
      record { numbered = actors_numbered tale.told w g.1; agreeing = agree tale.told w g.1 };
  asks = g.1.asking;
}
done laws top (head.Servers servers skew term) tale (Served w) g =
    record {
      serial = served_serial laws servers skew g.greatest tale w g.holds g.some;
      ordered = served_ordered laws servers skew g.greatest tale w g.holds g.some;
      asks =
          served_asks laws servers skew g.greatest tale w g.holds g.some;
    }
done laws top head.Direct tale (Served w) g = absurd g
done laws top (head.Servers servers skew term) tale (Direct w) g = absurd g

run_goes : (laws : SerialLaws) (s : Schedule) → FitsHead s.head → AllMayHappen s.head s.events → IsTimely s.head s.events
    → AllCarry (first_world s.head) s.events
    → Goes laws (greatest_of 0 s.events) s.head [] (tale_of first_tale s.events (run_of s).outcomes) (run_of s).world
run_goes laws s fits may timely carry =
    (run_keeps (Goes laws (greatest_of 0 s.events) s.head) (goes_on laws (greatest_of 0 s.events) s.head) [] s.events (first_run s.head)
    (record { counted = refl; holds = goes_first laws s.head s.events fits may timely carry })).holds

pub run_is_serial : (laws : SerialLaws) (s : Schedule) → FitsHead s.head → AllMayHappen s.head s.events → IsTimely s.head s.events
    → AllCarry (first_world s.head) s.events → IsSerial s.events (run_of s)
run_is_serial laws s fits may timely carry =
    let d = done laws (greatest_of 0 s.events) s.head (tale_of first_tale s.events (run_of s).outcomes) (run_of s).world
    (run_goes laws s fits may timely carry) in
    record { serial = d.serial; ordered = d.ordered; safe = safe_after first_space (journal_of (run_of s).world) first_sound d.asks }

parts_of : (laws : SerialLaws) (top : ℕ) (h : Head) (tale : Tale) (w : Form) → Goes laws top h [] tale w → PartsHold h top tale.told w
parts_of laws top head.Direct tale (Direct w) g = tt
parts_of laws top (head.Servers servers skew term) tale (Served w) g =
    subst (λ (n : ℕ). ServedHold skew n tale.told w) g.highest (served_parts laws servers skew g.greatest tale w g.holds g.some)
parts_of laws top head.Direct tale (Served w) g = absurd g
parts_of laws top (head.Servers servers skew term) tale (Direct w) g = absurd g

pub parts_kept : (laws : SerialLaws) (s : Schedule) → FitsHead s.head → AllMayHappen s.head s.events → IsTimely s.head s.events
    → AllCarry (first_world s.head) s.events → AllPartsHold s.head s.events (run_of s)
parts_kept laws s fits may timely carry = parts_of laws (greatest_of 0 s.events) s.head (tale_of first_tale s.events (run_of s).outcomes)
    (run_of s).world (run_goes laws s fits may timely carry)

-- ## In the direct form

direct_admitted : (laws : SerialLaws) (top : ℕ) (tale : Tale) (w : Form) → Goes laws top head.Direct [] tale w
    → AllAdmitted (journal_of w) tale.told
direct_admitted laws top tale (Direct w) g = g.1.admitted
direct_admitted laws top tale (Served w) g = absurd g

-- no reading counts there
direct_timely : (h : Head) (es : List Event) → h ≡ head.Direct → IsTimely h es
direct_timely head.Direct es e = tt
direct_timely (head.Servers servers skew term) es e = absurd (cc)

direct_fits : (h : Head) → h ≡ head.Direct → FitsHead h
direct_fits head.Direct e = tt
direct_fits (head.Servers servers skew term) e = absurd (cc)

direct_carries : (h : Head) (es : List Event) → h ≡ head.Direct → AllCarry (first_world h) es
direct_carries head.Direct es e = nothing_carried first_direct es
direct_carries (head.Servers servers skew term) es e = absurd (cc)

pub told_is_admitted : (laws : SerialLaws) (s : Schedule) → s.head ≡ head.Direct → AllMayHappen s.head s.events
    → AllAdmitted (journal_of (run_of s).world) (replies_given s.events (run_of s).outcomes)
told_is_admitted laws s direct may =
    direct_admitted laws (greatest_of 0 s.events) (tale_of first_tale s.events (run_of s).outcomes) (run_of s).world
    (subst (λ (h : Head). Goes laws (greatest_of 0 s.events) h [] (tale_of first_tale s.events (run_of s).outcomes) (run_of s).world)
    direct (run_goes laws s (direct_fits s.head direct) may (direct_timely s.head s.events direct)
    (direct_carries s.head s.events direct)))
