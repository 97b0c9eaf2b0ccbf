-- What a status says of the error that a node was launched with.
use Rattle.std.proofs.Common.{◌≡◌, refl, ℕ, List, ap, sym, subst, ◌∙◌, inl, inr}
use Rattle.std.specs.Prelude.{Option, Some, None, Result, Ok, Err, IfSome, IsErrOf, ◌⊎◌}
use Rattle.fs_io.specs.declared.reading.ReadError.TheVariants as reading
use Rattle.fs_launch.specs.Launch.{IsUnturned, NodeComesTo}
use Rattle.fs_launch.specs.declared.error.LaunchError.{LaunchError}
use Rattle.fs_launch.specs.declared.error.LaunchError.TheVariants as error
use Rattle.fs_words.specs.Places.{Place}
use Rattle.fs_schedule.specs.declared.error.ScheduleError.TheVariants as schedule
use Rattle.fs_turns.specs.Run.{Outside}
use Rattle.fs_turns.specs.declared.stop.Stop.{Stop}
use Rattle.fs_turns.specs.declared.stop.Stop.TheVariants as stop
use Rattle.fs_words.specs.declared.command.Settings.{Settings}
use Rattle.farsite.specs.Status.{launch_status}
use Rattle.farsite.specs.declared.status.Status.{Status}
use Rattle.farsite.specs.declared.status.Status.TheVariants as status

abbrev pub launched : LaunchError → Result (Unit {0}) LaunchError
launched e = Err e

-- why turns were broken off that end so, but for want of memory
abbrev pub cause_of : Status → Option Stop
cause_of status.WriteFault = Some stop.Write
cause_of (status.Spent counter) = Some (stop.Spent counter)
cause_of other = None

no_cause : {A : Type 0} (s : Status) (why : Stop) → cause_of s ≡ None → cause_of s ≡ Some why → A
no_cause s why h k = let both : None ≡ Some why = sym h ∙ k in absurd (cc both)

-- turns that end so were broken off for this alone
pub caused : (e : LaunchError) (s : Status) (why : Stop) → launch_status e ≡ s → cause_of s ≡ Some why → IsErrOf (launched e) (error.Turns why)
caused error.Bind s why h k = no_cause s why (ap cause_of (sym h)) k
caused (error.Read reading.ReadFault) s why h k = no_cause s why (ap cause_of (sym h)) k
caused (error.Read (reading.TooLong n)) s why h k = no_cause s why (ap cause_of (sym h)) k
caused (error.Read reading.Memory) s why h k = no_cause s why (ap cause_of (sym h)) k
caused (error.Script (schedule.BadLine n)) s why h k = no_cause s why (ap cause_of (sym h)) k
caused (error.Script (schedule.Skewed n m)) s why h k = no_cause s why (ap cause_of (sym h)) k
caused (error.Script (schedule.Limit w n)) s why h k = no_cause s why (ap cause_of (sym h)) k
caused (error.Script schedule.Memory) s why h k = no_cause s why (ap cause_of (sym h)) k
caused (error.Turns stop.Write) s why h k = let both : Some stop.Write ≡ Some why = ap cause_of h ∙ k in cc both
caused (error.Turns (stop.Spent n)) s why h k = let both : Some (stop.Spent n) ≡ Some why = ap cause_of h ∙ k in cc both
caused (error.Turns stop.Memory) s why h k = no_cause s why (ap cause_of (sym h)) k

-- memory was wanting before the first turn, or later
pub wanting : (e : LaunchError) {A B : Type 0} → launch_status e ≡ status.Memory → (IsUnturned (launched e) → A) → (IsErrOf (launched e) (error.Turns stop.Memory) → B) → A ⊎ B
wanting error.Bind h a b = inl (a tt)
wanting (error.Read why) h a b = inl (a tt)
wanting (error.Script why) h a b = inl (a tt)
wanting (error.Turns stop.Write) h a b = absurd (cc h)
wanting (error.Turns (stop.Spent n)) h a b = absurd (cc h)
wanting (error.Turns stop.Memory) h a b = inr (b refl)

-- the places are those that the words tell
pub among : (n : Settings) (places others : List Place) (left : Option (List ℕ)) (ended : Result (Unit {0}) Stop) (before now : Outside) → places ≡ others → IfSome left (λ bytes. NodeComesTo n places bytes ended before now) → IfSome left (λ bytes. NodeComesTo n others bytes ended before now)
among n places others left ended before now e h = subst (λ (ps : List Place). IfSome left (λ bytes. NodeComesTo n ps bytes ended before now)) e h
