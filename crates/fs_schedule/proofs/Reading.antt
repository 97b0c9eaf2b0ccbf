-- Laws of reading the lines behind the first one after another.
use Rattle.std.proofs.Common.{◌≡◌, ℕ, ◌≤◌, ◌+◌, nat_lt, true, false, List, ◌∷◌, ◌++◌, length, refl, ap, arith, sym, ◌∙◌, subst}
use Rattle.std.specs.Fmt.{decimal}
use Rattle.std.proofs.lemmas.Bool.Decides.{nat_tests}
use Rattle.fs_ident.specs.declared.limits.TheConstants.{SESSIONS}
use Rattle.fs_ident.specs.declared.actor.Session.{Session}
use Rattle.fs_ident.specs.declared.actor.Peer.TheVariants.{Server, Client}
use Rattle.fs_schedule.specs.declared.event.What.{What}
use Rattle.fs_schedule.specs.declared.event.What.TheVariants.{Join, Do, Tell, Turn, Recall, Move}
use Rattle.fs_schedule.specs.declared.event.Event.{Event}
use Rattle.fs_schedule.specs.declared.event.Head.{Head}
use Rattle.fs_schedule.specs.declared.event.Head.TheVariants as form
use Rattle.fs_schedule.specs.declared.error.Which.{Which}
use Rattle.fs_schedule.specs.declared.error.Which.TheVariants.{Bytes, Servers, Sessions, Events, Packets}
use Rattle.fs_msg.specs.declared.limits.TheConstants.{SERVERS}
use Rattle.fs_schedule.specs.declared.limits.TheConstants.{BYTES, EVENTS}
use Rattle.fs_schedule.specs.Words.{Bare, line_text}
use Rattle.fs_schedule.specs.Spelling.{IsHeadLine, has_many, IsLineOf, names_late}
use Rattle.fs_schedule.specs.Reading.{capped, capped_head, capped_what, IsToldHeadLine, IsToldLine}
use Rattle.fs_schedule.specs.Faults.{IsFormLine, NamesManyServers, HeadHas, IsEventLine, NamesLateSession, LineFault, PassesLimit, AreEventLines, FaultsAt, LineHas}

-- the events of the lines before those that are left
pub record IsReadSoFar (head : Head) (events : List Event) (left all : List (List ℕ)) : Type 0 where
  pub few : length events ≤ EVENTS
  pub forth : (es : List Event) → AreEventLines head (length events) es left → AreEventLines head 0 (events ++ es) all
  pub fault : (f : LineFault) (at : ℕ) → FaultsAt f head at (length events) left → FaultsAt f head at 0 all

-- ## One line behind the first

late_number : (most n : ℕ) → nat_lt most (capped most n) ≡ true → nat_lt most n ≡ true
late_number most n e = grind (arith, nat_tests)

same_number : (most n : ℕ) → nat_lt most (capped most n) ≡ false → capped most n ≡ n
same_number most n e = grind (arith, nat_tests)

late_what : (w : What) → names_late (capped_what w) ≡ true → names_late w ≡ true
late_what (Join s) e = late_number SESSIONS s.0 e
late_what (Do s o) e = late_number SESSIONS s.0 e
late_what (Tell number) e = e
late_what (Turn (Client s)) e = late_number SESSIONS s.0 e
late_what (Turn (Server k)) e = e
late_what (Recall k f) e = e
late_what (Move k id j) e = e

same_what : (w : What) → names_late (capped_what w) ≡ false → capped_what w ≡ w
same_what (Join s) e = ap (λ (n : ℕ). let r : What = Join (record { 0 = n }) in r) (same_number SESSIONS s.0 e)
same_what (Do s o) e = ap (λ (n : ℕ). let r : What = Do (record { 0 = n }) o in r) (same_number SESSIONS s.0 e)
same_what (Tell number) e = refl
same_what (Turn (Client s)) e = ap (λ (n : ℕ). let r : Session = record { 0 = n } in Turn (Client r)) (same_number SESSIONS s.0 e)
same_what (Turn (Server k)) e = refl
same_what (Recall k f) e = refl
same_what (Move k id j) e = refl

-- the line is that of the event with this in its place
full_line : (head : Head) (e : Event) (line : List ℕ) → (h : IsToldLine head e line) → IsLineOf head (record { reading = e.reading; what = h.1.1.2.0 }) line
full_line head e line h = record { reading = h.1.0; words = h.1.1.0; what = h.1.1.2.1; text = h.2 ∙ ap line_text h.1.1.1 }

pub late : (head : Head) (e : Event) (line : List ℕ) → IsToldLine head e line → names_late e.what ≡ true → NamesLateSession head line
late head e line h t =
    let full : What = h.1.1.2.0 in
    let same : e.what ≡ capped_what full = h.1.1.2.2 in
    (record { reading = e.reading; what = full }, full_line head e line h, late_what full (ap names_late (sym same) ∙ t))

pub in_time : (head : Head) (e : Event) (line : List ℕ) → IsToldLine head e line → names_late e.what ≡ false → IsEventLine head e line
in_time head e line h t =
    let full : What = h.1.1.2.0 in
    let same : e.what ≡ capped_what full = h.1.1.2.2 in
    let whole : full ≡ e.what = sym (same ∙ same_what full (ap names_late (sym same) ∙ t)) in
    let P : What → Type 0 = λ w. IsLineOf head (record { reading = e.reading; what = w }) line in
    record { line_of = subst P whole (full_line head e line h); limit = t }

pub count_here : (head : Head) (before n : ℕ) (line : List ℕ) (e : Event) (which : Which) → Events ≡ which → n ≡ before + 2 → length line ≤ BYTES → IsEventLine head e line → EVENTS ≤ before → (n ≡ before + 2) × LineHas (PassesLimit which) head before line
count_here head before n line e Bytes q m le h ge = absurd (cc)
count_here head before n line e Servers q m le h ge = absurd (cc)
count_here head before n line e Sessions q m le h ge = absurd (cc)
count_here head before n line e Events q m le h ge = (m, (le, (e, h), ge))
count_here head before n line e Packets q m le h ge = absurd (cc)

-- an event's line is told, with the session's number capped
pub no_line : (head : Head) (e : Event) (line : List ℕ) → ((x : Event) → IsToldLine head x line → ⊥) → IsLineOf head e line → ⊥
no_line head e line none h = none (record { reading = e.reading; what = capped_what e.what }) (Bare (decimal e.reading) ∷ h.words, (h.reading, (h.words, refl, (e.what, h.what, refl))), h.text)

pub late_here : (head : Head) (before n : ℕ) (line : List ℕ) (which : Which) → Sessions ≡ which → n ≡ before + 2 → length line ≤ BYTES → NamesLateSession head line → (n ≡ before + 2) × LineHas (PassesLimit which) head before line
late_here head before n line Bytes q m le h = absurd (cc)
late_here head before n line Servers q m le h = absurd (cc)
late_here head before n line Sessions q m le h = (m, (le, h))
late_here head before n line Events q m le h = absurd (cc)
late_here head before n line Packets q m le h = absurd (cc)

-- ## The first line

many_head : (h : Head) → has_many (capped_head h) ≡ true → has_many h ≡ true
many_head form.Direct e = e
many_head (form.Servers servers skew term) e = late_number SERVERS servers e

same_head : (h : Head) → has_many (capped_head h) ≡ false → capped_head h ≡ h
same_head form.Direct e = refl
same_head (form.Servers servers skew term) e = ap (λ (n : ℕ). form.Servers n skew term) (same_number SERVERS servers e)

-- the line names the form that it tells, with all of its servers
full_head : (head : Head) (line : List ℕ) → (h : IsToldHeadLine head line) → IsHeadLine h.1.0 line
full_head head line h = record { words = h.0; form = h.1.1; text = h.2 }

pub many : (head : Head) (line : List ℕ) → IsToldHeadLine head line → has_many head ≡ true → NamesManyServers line
many head line h t = (h.1.0, full_head head line h, many_head h.1.0 (ap has_many (sym h.1.2) ∙ t))

pub few : (head : Head) (line : List ℕ) → IsToldHeadLine head line → has_many head ≡ false → IsFormLine head line
few head line h t =
    let whole : h.1.0 ≡ head = sym (h.1.2 ∙ same_head h.1.0 (ap has_many (sym h.1.2) ∙ t)) in
    let P : Head → Type 0 = λ x. IsHeadLine x line in
    record { line_of = subst P whole (full_head head line h); limit = t }

-- a form's line is told, with the number of its servers capped
pub no_head_line : (head : Head) (line : List ℕ) → ((x : Head) → IsToldHeadLine x line → ⊥) → IsHeadLine head line → ⊥
no_head_line head line none h = none (capped_head head) (h.words, (head, h.form, refl), h.text)

pub many_here : (n : ℕ) (line : List ℕ) (which : Which) → Servers ≡ which → n ≡ 1 → length line ≤ BYTES → NamesManyServers line → (n ≡ 1) × HeadHas (PassesLimit which) line
many_here n line Bytes q m le h = absurd (cc)
many_here n line Servers q m le h = (m, (le, h))
many_here n line Sessions q m le h = absurd (cc)
many_here n line Events q m le h = absurd (cc)
many_here n line Packets q m le h = absurd (cc)
