-- The loops over events, outcomes, items and lines.
use Rattle.std.proofs.Common.{◌≡◌, Bool, true, false, refl, ℕ, ◌+◌, ◌-◌, ◌<◌, ◌≤◌, List, [], ◌∷◌, inl, inr, length, get_or, take, drop, ap, sym, ◌∙◌, arith, subst}
use Rattle.std.proofs.lemmas.List.{drop_more, take-take, length-take}
use Rattle.std.proofs.Math.Seq.{take-add}
use Rattle.std.specs.Prelude.{Option, Some, None, nat_lt, if◌then◌else◌, Ok}
use Rattle.std.specs.Result.{IsErrOf}
use Rattle.std.proofs.lemmas.Bool.Decides.{nat_tests}
use Rattle.std.specs.Io.KnownBytes.{Appends}
use Rattle.fs_io.specs.Bytes.{IsPrefixWritten}
use Rattle.fs_io.proofs.Known.{appends_more}
use Rattle.fs_schedule.specs.declared.event.Event.{Event}
use Rattle.fs_msg.specs.declared.core_error.Counter.{Counter}
use Rattle.fs_schedule.specs.declared.limits.TheConstants.{PACKETS}
use Rattle.fs_world.specs.declared.form.Form.{Form}
use Rattle.fs_world.specs.Carried.{AllCarry, LinksCarry}
use Rattle.farsite.specs.Stopping.{StandsIn}
use Rattle.fs_world.specs.World.{Run, AtPackets, more, packets_of, run_on, step, stop_after, stop_at, stop_in}

-- the run goes on with one more event
pub run_step : (r : Run) (es : List Event) (i : ℕ) (d : Event) → i < length es → run_on r (drop i es) ≡ run_on (more r (get_or es i d)) (drop (i + 1) es)
run_step r es i d h = rw (drop_more es i d h)

-- no counter is at its end where none is named
pub unspent : (o : Option Counter) → ((c : Counter) → o ≡ Some c → ⊥) → o ≡ None
unspent None h = refl
unspent (Some c) h = absurd (h c refl)

-- an answer that is there is no error
pub no_error : {T E : Type 0} (x : T) (d : E) → IsErrOf (Ok x) d → ⊥
no_error x d h = absurd (cc h)

many : (n : ℕ) → PACKETS < n → nat_lt PACKETS n ≡ true
many n h = grind (arith, nat_tests)

few : (n : ℕ) → n ≤ PACKETS → nat_lt PACKETS n ≡ false
few n h = grind (arith, nat_tests)

-- more packets than may be break the run off
pub flooded : (w after : Form) (line : ℕ) (es : List Event) (i : ℕ) (e : Event) → i < length es → e ≡ get_or es i e → after ≡ (step w e).world → (step w e).spent ≡ None → PACKETS < length (packets_of after) → stop_in w line (drop i es) ≡ Some (AtPackets line)
flooded w after line es i e lt is eq none more =
    ap (λ (xs : List Event). stop_in w line xs) (drop_more es i e lt ∙ ap (λ (x : Event). x ∷ drop (i + 1) es) (sym is))
    ∙ ap (λ (o : Option Counter). stop_at o (stop_after line (packets_of (step w e).world) (stop_in (step w e).world (line + 1) (drop (i + 1) es)))) none
    ∙ ap (λ (v : Form). stop_after line (packets_of v) (stop_in (step w e).world (line + 1) (drop (i + 1) es))) (sym eq)
    ∙ ap (λ (b : Bool). if b then Some (AtPackets line) else stop_in (step w e).world (line + 1) (drop (i + 1) es)) (many (length (packets_of after)) more)

-- and else it goes on
pub goes_on : (w after : Form) (line : ℕ) (es : List Event) (i : ℕ) (e : Event) → i < length es → e ≡ get_or es i e → after ≡ (step w e).world → (step w e).spent ≡ None → length (packets_of after) ≤ PACKETS → stop_in w line (drop i es) ≡ stop_in after (line + 1) (drop (i + 1) es)
goes_on w after line es i e lt is eq none less =
    ap (λ (xs : List Event). stop_in w line xs) (drop_more es i e lt ∙ ap (λ (x : Event). x ∷ drop (i + 1) es) (sym is))
    ∙ ap (λ (o : Option Counter). stop_at o (stop_after line (packets_of (step w e).world) (stop_in (step w e).world (line + 1) (drop (i + 1) es)))) none
    ∙ ap (λ (v : Form). stop_after line (packets_of v) (stop_in v (line + 1) (drop (i + 1) es))) (sym eq)
    ∙ ap (λ (b : Bool). if b then Some (AtPackets line) else stop_in after (line + 1) (drop (i + 1) es)) (few (length (packets_of after)) less)

-- a run stands where it begins
pub stands_here : (w : Form) (es : List Event) → StandsIn w es w
stands_here w [] = refl
stands_here w (e ∷ es) = inl refl

-- and where it stands in what follows an event that does not break it off
pub stands_on : (w after : Form) (es : List Event) (i : ℕ) (e : Event) → i < length es → e ≡ get_or es i e → after ≡ (step w e).world → (step w e).spent ≡ None → length (packets_of after) ≤ PACKETS → (now : Form) → StandsIn after (drop (i + 1) es) now → StandsIn w (drop i es) now
stands_on w after es i e lt is eq none less now rest =
    subst (λ (xs : List Event). StandsIn w xs now) (sym (drop_more es i e lt ∙ ap (λ (x : Event). x ∷ drop (i + 1) es) (sym is)))
    (inr (none, subst (λ (v : Form). length (packets_of v) ≤ PACKETS) eq less, subst (λ (v : Form). StandsIn v (drop (i + 1) es) now) eq rest))

-- what was sent is carried before an event, and before those that follow
pub carried_on : (w after : Form) (es : List Event) (i : ℕ) (e : Event) → i < length es → e ≡ get_or es i e → after ≡ (step w e).world → LinksCarry w → AllCarry after (drop (i + 1) es) → AllCarry w (drop i es)
carried_on w after es i e lt is eq carry rest =
    subst (λ (xs : List Event). AllCarry w xs) (sym (drop_more es i e lt ∙ ap (λ (x : Event). x ∷ drop (i + 1) es) (sym is))) (carry, subst (λ (v : Form). AllCarry v (drop (i + 1) es)) eq rest)

-- one more line is written
pub lines_step : (a b c : Option (List ℕ)) (lines : List ℕ) (at end : ℕ) → at ≤ end → Appends a b (take at lines) → Appends b c (take (end - at) (drop at lines)) → Appends a c (take end lines)
lines_step a b c lines at end le p q =
    let whole : at + (end - at) ≡ end = omega arith in
    subst (λ (n : ℕ). Appends a c (take n lines)) whole (rw (take-add at (end - at) lines) (appends_more a b c _ _ p q))

-- a part of one more line is written
pub lines_part : (a b c : Option (List ℕ)) (lines : List ℕ) (at end : ℕ) → at ≤ end → end ≤ length lines → Appends a b (take at lines) → IsPrefixWritten b c (take (end - at) (drop at lines)) → IsPrefixWritten a c lines
lines_part a b c lines at end le within p q =
    let few : q.0 ≤ length (take (end - at) (drop at lines)) = q.1 in
    let short : q.0 ≤ end - at = omega (arith, few, length-take (end - at) (drop at lines)) in
    let piece : take q.0 (take (end - at) (drop at lines)) ≡ take q.0 (drop at lines) = take-take q.0 (end - at) (drop at lines) short in
    (at + q.0, omega arith, rw (take-add at q.0 lines) (appends_more a b c _ _ p (subst (λ (zs : List ℕ). Appends b c zs) piece q.2)))
