-- Laws of lines that are read, and refused where they pass a limit.
use Rattle.std.proofs.Common.{◌≡◌, ℕ, ◌<◌, ◌≤◌, ◌+◌, true, false, ◌⊎◌, inl, inr, List, length, refl, sym, ◌∙◌, subst, arith}
use Rattle.std.specs.Prelude.{Result, Ok, Err, IfOk, IfErr, IsErrOf}
use Rattle.fs_schedule.specs.declared.event.Event.{Event}
use Rattle.fs_schedule.specs.declared.event.Head.{Head}
use Rattle.fs_schedule.specs.declared.error.Which.{Which}
use Rattle.fs_schedule.specs.declared.error.Which.TheVariants.{Bytes, Servers, Sessions, Events}
use Rattle.fs_schedule.specs.declared.error.ScheduleError.{ScheduleError}
use Rattle.fs_schedule.specs.declared.error.ScheduleError.TheVariants.{BadLine, Limit, Skewed, Memory}
use Rattle.fs_schedule.specs.declared.unread.Unread.{Unread}
use Rattle.fs_schedule.specs.declared.unread.Unread.TheVariants.{Outside, Memory as Wanting}
use Rattle.fs_schedule.specs.declared.limits.TheConstants.{BYTES, EVENTS}
use Rattle.fs_schedule.specs.Spelling.{FitsHead, has_many, names_late}
use Rattle.fs_schedule.specs.Reading.{IsToldHeadLine, IsToldLine}
use Rattle.fs_schedule.specs.Faults.{HeadPasses, HeadHas, IsEventLine, LineHas, Passes, PassesLimit}
use Rattle.fs_schedule.proofs.Reading.{late, late_here, in_time, count_here, many, many_here, few}
use Rattle.fs_schedule.proofs.Single.{fits_form}

-- a line that is refused as outside the grammar was not read
pub unread_outside : (e : Unread) (r : ScheduleError) (at n : ℕ) → (e ≡ Outside → r ≡ BadLine at) → (e ≡ Wanting → r ≡ Memory) → r ≡ BadLine n → (e ≡ Outside) × (at ≡ n)
unread_outside Outside r at n outside memory h = let q = outside refl in (refl, cc)
unread_outside Wanting r at n outside memory h = let q = memory refl in absurd (cc)

-- ## Lines behind the first

-- why a line behind so many events is refused that is read
abbrev pub IsOver : Event → ℕ → ScheduleError → Type 0
IsOver event before e = ((names_late event.what ≡ true) × (e ≡ Limit Sessions (before + 2))) ⊎ ((names_late event.what ≡ false) × (EVENTS ≤ before) × (e ≡ Limit Events (before + 2)))

-- the event is the one that was read, and passes no limit
abbrev pub IsKept : Event → ℕ → Event → Type 0
IsKept event before e = (e ≡ event) × (names_late event.what ≡ false) × (before < EVENTS)

pub line_passes : (head : Head) (event : Event) (before : ℕ) (line : List ℕ) (r : Result Event ScheduleError) → IsToldLine head event line → length line ≤ BYTES → IfOk r (IsKept event before) → IfOk r (λ e. Passes head before e line)
line_passes head event before line (Ok e) told short ok =
    let P : Event → Type 0 = λ x. Passes head before x line in
    subst P (sym ok.0) (record { short = short; event = in_time head event line told ok.1; few = ok.2 })
line_passes head event before line (Err f) told short ok = tt

pub line_is_in : (event : Event) (before n : ℕ) (r : Result Event ScheduleError) → IfErr r (IsOver event before) → IsErrOf r (BadLine n) → ⊥
line_is_in event before n (Ok e) over h = cc
line_is_in event before n (Err f) over h = elim over [ inl x ↦ let q = x.1 in cc | inr x ↦ let q = x.2 in cc ]

pub line_is_timely : (event : Event) (before n m : ℕ) (r : Result Event ScheduleError) → IfErr r (IsOver event before) → IsErrOf r (Skewed n m) → ⊥
line_is_timely event before n m (Ok e) over h = cc
line_is_timely event before n m (Err f) over h = elim over [ inl x ↦ let q = x.1 in cc | inr x ↦ let q = x.2 in cc ]

pub line_is_over : (head : Head) (event : Event) (before n : ℕ) (which : Which) (line : List ℕ) (r : Result Event ScheduleError) → IsToldLine head event line → length line ≤ BYTES → IfErr r (IsOver event before) → IsErrOf r (Limit which n) → (n ≡ before + 2) × LineHas (PassesLimit which) head before line
line_is_over head event before n which line (Ok e) told short over h = absurd (cc)
line_is_over head event before n which line (Err f) told short over h = elim over [
  | inl x ↦
      let e = x.1 in
      let q : Sessions ≡ which = cc in
      let m : before + 2 ≡ n = cc in
      late_here head before n line which q (sym m) short (late head event line told x.0)
  | inr x ↦
      let e = x.2 in
      let q : Events ≡ which = cc in
      let m : before + 2 ≡ n = cc in
      count_here head before n line event which q (sym m) short (in_time head event line told x.0) x.1
]

-- ## The first line

abbrev pub IsManyError : Head → ScheduleError → Type 0
IsManyError head e = (has_many head ≡ true) × (e ≡ Limit Servers 1)

abbrev pub IsFewHead : Head → Head → Type 0
IsFewHead head kept = (kept ≡ head) × (has_many head ≡ false)

pub head_passes : (head : Head) (line : List ℕ) (r : Result Head ScheduleError) → IsToldHeadLine head line → length line ≤ BYTES → IfOk r (IsFewHead head) → IfOk r (λ kept. HeadPasses kept line)
head_passes head line (Ok kept) told short ok =
    let P : Head → Type 0 = λ x. HeadPasses x line in
    subst P (sym ok.0) (short, few head line told ok.1)
head_passes head line (Err f) told short ok = tt

pub head_fits : (head : Head) (line : List ℕ) (r : Result Head ScheduleError) → IsToldHeadLine head line → IfOk r (IsFewHead head) → IfOk r FitsHead
head_fits head line (Ok kept) told ok = subst FitsHead (sym ok.0) (fits_form head line (few head line told ok.1))
head_fits head line (Err f) told ok = tt

pub head_is_in : (head : Head) (n : ℕ) (r : Result Head ScheduleError) → IfErr r (IsManyError head) → IsErrOf r (BadLine n) → ⊥
head_is_in head n (Ok kept) over h = cc
head_is_in head n (Err f) over h = let q = over.1 in cc

pub head_is_timely : (head : Head) (n m : ℕ) (r : Result Head ScheduleError) → IfErr r (IsManyError head) → IsErrOf r (Skewed n m) → ⊥
head_is_timely head n m (Ok kept) over h = cc
head_is_timely head n m (Err f) over h = let q = over.1 in cc

pub head_is_over : (head : Head) (n : ℕ) (which : Which) (line : List ℕ) (r : Result Head ScheduleError) → IsToldHeadLine head line → length line ≤ BYTES → IfErr r (IsManyError head) → IsErrOf r (Limit which n) → (n ≡ 1) × HeadHas (PassesLimit which) line
head_is_over head n which line (Ok kept) told short over h = absurd (cc)
head_is_over head n which line (Err f) told short over h =
    let e = over.1 in
    let q : Servers ≡ which = cc in
    let m : 1 ≡ n = cc in
    many_here n line which q (sym m) short (many head line told over.0)
