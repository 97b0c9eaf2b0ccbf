-- A line tells one event, and a text is one schedule's or has one first fault.
use Rattle.std.proofs.Common.{◌≡◌, ℕ, nat_lt, subst, ◌≤◌, ◌+◌, true, false, List, [], ◌∷◌, refl, ap, arith, sym, ◌∙◌, inl, inr}
use Rattle.std.specs.Prelude.{Option, IfSome, codes}
use Rattle.std.proofs.lemmas.Bool.Decides.{nat_tests}
use Rattle.std.specs.List.{AllByRecursion}
use Rattle.std.specs.Fmt.{decimal}
use Rattle.std.proofs.lemmas.Fmt.{decimal_injective}
use Rattle.fs_ident.specs.declared.actor.Session.{Session}
use Rattle.fs_ident.specs.declared.limits.TheConstants.{SESSIONS}
use Rattle.fs_ident.specs.IdText.{id_text}
use Rattle.fs_msg.specs.declared.limits.TheConstants.{SERVERS}
use Rattle.fs_ident.specs.declared.actor.Peer.TheVariants.{Server, Client}
use Rattle.fs_schedule.specs.Words.{Word, Bare}
use Rattle.fs_schedule.specs.declared.event.What.{What}
use Rattle.fs_schedule.specs.declared.event.What.TheVariants.{Join, Do, Tell, Turn, Recall, Move}
use Rattle.fs_schedule.specs.declared.event.Event.{Event}
use Rattle.fs_schedule.specs.declared.event.Schedule.{Schedule}
use Rattle.fs_schedule.specs.declared.event.Head.{Head}
use Rattle.fs_schedule.specs.declared.event.Head.TheVariants as form
use Rattle.fs_schedule.specs.declared.error.Which.TheVariants.{Bytes, Servers, Sessions, Events, Packets}
use Rattle.fs_schedule.specs.Lines.{lines_of}
use Rattle.fs_schedule.specs.Spelling.{FitsHead, FitsTimes, IsCountOf, has_many, head_words, IsHeadLine, server_word, session_in, IsNumberOf, client_word, what_words, FitsWhat, IsSpelled, IsLineOf, names_late, FitsEvent}
use Rattle.fs_schedule.specs.Skew.{IsUntimely}
use Rattle.fs_schedule.specs.Faults.{IsFormLine, NamesManyServers, IsEventLine, NamesLateSession, Passes, LineFault, PassesLimit, IsOutside, HeadPasses, HeadHas, LineHas, AreEventLines, FaultsAt, AreLinesOf, IsScheduleText, LinesFaultAt, Fault, AtLine, IsSkewed, IsFirstFault}
use Rattle.fs_schedule.proofs.Cuts.{words_one}
use Rattle.fs_schedule.proofs.Operations.{distinct, no_reap, id_one, op_one, fields_one, server_one, packet_one}
use Rattle.fs_schedule.proofs.Spelled.{are_head_words, are_event_words}
use Rattle.fs_schedule.proofs.Skews.{one_untimely, timely_or_not}
use Rattle.fs_schedule.proofs.Digits.{one_number, number_positive}

-- ## Forms

forms_one : (ds es : List ℕ) (g h : Head) → IsCountOf ds g → IsCountOf es h → FitsTimes g → FitsTimes h → head_words ds g ≡ head_words es h → g ≡ h
forms_one ds es form.Direct form.Direct p q f k e = refl
forms_one ds es form.Direct (form.Servers n s t) p q f k e = absurd (cc)
forms_one ds es (form.Servers n s t) form.Direct p q f k e = absurd (cc)
forms_one ds es (form.Servers n s t) (form.Servers m j u) p q f k e =
    let digits : ds ≡ es = cc in
    let P : List ℕ → Type 0 = λ xs. IsNumberOf xs m in
    let servers : n ≡ m = one_number ds n m p (subst P (sym digits) q) in
    let t1 : decimal s ≡ decimal j = cc in
    let skews : s ≡ j = decimal_injective s j (omega (arith, f.0)) (omega (arith, k.0)) t1 in
    let t2 : decimal t ≡ decimal u = cc in
    let terms : t ≡ u = decimal_injective t u (omega (arith, f.2)) (omega (arith, k.2)) t2 in
    cc

head_one : (g h : Head) (line : List ℕ) → IsHeadLine g line → IsHeadLine h line → g ≡ h
head_one g h line p q =
    let words : p.words ≡ q.words = words_one p.words q.words line (are_head_words g line p) (are_head_words h line q) in
    forms_one p.form.digits q.form.digits g h p.form.count q.form.count p.form.times q.form.times (sym p.form.spelled ∙ words ∙ q.form.spelled)

in_limit : (most n : ℕ) → nat_lt most n ≡ false → n ≤ most
in_limit most n e = grind (arith, nat_tests)

many_or_not : (head : Head) (line : List ℕ) → IsFormLine head line → NamesManyServers line → ⊥
many_or_not head line h k =
    let same : head ≡ k.0 = head_one head k.0 line h.line_of k.1 in
    let many : false ≡ true = sym h.limit ∙ ap has_many same ∙ k.2 in
    no_reap many

-- the numbers of a form that passes are in their ranges
pub fits_form : (head : Head) (line : List ℕ) → IsFormLine head line → FitsHead head
fits_form form.Direct line h = tt
fits_form (form.Servers n s t) line h =
    let f = h.line_of.form in
    (number_positive f.digits n f.count, in_limit SERVERS n h.limit, f.times.0, f.times.1, f.times.2)

-- ## Events

digits_one : (ds es : List ℕ) (ws vs : List Word) → client_word ds ∷ ws ≡ client_word es ∷ vs → ds ≡ es
digits_one ds es ws vs e = cc

others : (w v x y : Word) (ws vs : List Word) → w ∷ x ∷ ws ≡ v ∷ y ∷ vs → ws ≡ vs
others w v x y ws vs e = cc

pub behind : (w v : Word) (ws vs : List Word) → w ∷ ws ≡ v ∷ vs → ws ≡ vs
behind w v ws vs e = cc

session_one : (s t : Session) (ds es : List ℕ) → IsNumberOf ds s.0 → IsNumberOf es t.0 → ds ≡ es → s ≡ t
session_one s t ds es h k e =
    let P : List ℕ → Type 0 = λ xs. IsNumberOf xs t.0 in
    let q : s.0 ≡ t.0 = one_number ds s.0 t.0 h (subst P (sym e) k) in
    ap (λ (n : ℕ). let r : Session = record { 0 = n } in r) q

pub first_operand : (w v x y : Word) (ws vs : List Word) → w ∷ x ∷ ws ≡ v ∷ y ∷ vs → x ≡ y
first_operand w v x y ws vs e = cc

-- a session is no server
other_letter : (ds es : List ℕ) → Bare (99 ∷ ds) ≡ Bare (115 ∷ es) → ⊥
other_letter ds es e = let q : ◌≡◌ {A = ℕ} 99 115 = cc in omega (arith, q)

what_one : (head : Head) (w v : What) (ds es : List ℕ) → IfSome (session_in w) (λ s. IsNumberOf ds s.0) → IfSome (session_in v) (λ s. IsNumberOf es s.0) → FitsWhat head w → FitsWhat head v → what_words ds w ≡ what_words es v → w ≡ v
what_one head (Join s) (Join t) ds es h k f g e = ap (λ (r : Session). Join r) (session_one s t ds es h k (digits_one ds es _ _ (behind _ _ _ _ e)))
what_one head (Do s o) (Do t p) ds es h k f g e =
    let sessions : s ≡ t = session_one s t ds es h k (digits_one ds es _ _ (behind _ _ _ _ e)) in
    let ops : o ≡ p = op_one o p f g (others _ _ _ _ _ _ e) in
    cc
what_one head (Tell a) (Tell b) ds es h k f g e = ap (λ (n : Option ℕ). Tell n) (packet_one a b f.1 g.1 (first_operand _ _ _ _ _ _ e))
what_one head (Turn (Client s)) (Turn (Client t)) ds es h k f g e = ap (λ (r : Session). Turn (Client r)) (session_one s t ds es h k (digits_one ds es _ _ (behind _ _ _ _ e)))
what_one head (Turn (Server m)) (Turn (Server n)) ds es h k f g e = ap (λ (r : ℕ). Turn (Server r)) (server_one m n f.1 g.1 (first_operand _ _ _ _ _ _ e))
what_one head (Turn (Client s)) (Turn (Server n)) ds es h k f g e = absurd (other_letter ds (decimal n) (first_operand _ _ _ _ _ _ e))
what_one head (Turn (Server m)) (Turn (Client t)) ds es h k f g e = absurd (other_letter es (decimal m) (sym (first_operand _ _ _ _ _ _ e)))
what_one head (Recall m a) (Recall n b) ds es h k f g e =
    let servers : m ≡ n = server_one m n f.0.1 g.0.1 (first_operand _ _ _ _ _ _ e) in
    let fields : a ≡ b = fields_one a b f.1 g.1 (others _ _ _ _ _ _ e) in
    cc
what_one head (Move a p b) (Move c q d) ds es h k f g e =
    let froms : a ≡ c = server_one a c f.0.1 g.0.1 (first_operand _ _ _ _ _ _ e) in
    let t1 : id_text p ≡ id_text q = cc in
    let prefixes : p ≡ q = id_one p q f.1 g.1 t1 in
    let t2 : server_word b ≡ server_word d = cc in
    let tos : b ≡ d = server_one b d f.2.1 g.2.1 t2 in
    cc
what_one head (Join s) v ds es h k f g e = absurd (distinct (codes "join") _ _ _ e refl)
what_one head (Do s o) v ds es h k f g e = absurd (distinct (codes "do") _ _ _ e refl)
what_one head (Tell a) v ds es h k f g e = absurd (distinct (codes "tell") _ _ _ e refl)
what_one head (Turn a) v ds es h k f g e = absurd (distinct (codes "turn") _ _ _ e refl)
what_one head (Recall m a) v ds es h k f g e = absurd (distinct (codes "recall") _ _ _ e refl)
what_one head (Move a p b) v ds es h k f g e = absurd (distinct (codes "move") _ _ _ e refl)

spelled_one : (head : Head) (w v : What) (words : List Word) → IsSpelled head w words → IsSpelled head v words → w ≡ v
spelled_one head w v words h k = what_one head w v h.digits k.digits h.session k.session h.fits k.fits (sym h.spelled ∙ k.spelled)

-- a line is one event's
pub event_one : (head : Head) (e f : Event) (line : List ℕ) → IsLineOf head e line → IsLineOf head f line → e ≡ f
event_one head e f line h k =
    let words : Bare (decimal e.reading) ∷ h.words ≡ Bare (decimal f.reading) ∷ k.words = words_one (Bare (decimal e.reading) ∷ h.words) (Bare (decimal f.reading) ∷ k.words) line (are_event_words head e line h) (are_event_words head f line k) in
    let t1 : decimal e.reading ≡ decimal f.reading = cc in
    let q1 : e.reading ≡ f.reading = decimal_injective e.reading f.reading (omega (arith, h.reading)) (omega (arith, k.reading)) t1 in
    let P : List Word → Type 0 = λ ws. IsSpelled head f.what ws in
    let q3 : e.what ≡ f.what = spelled_one head e.what f.what h.words h.what (subst P (sym (behind _ _ _ _ words)) k.what) in
    ap (λ (n : ℕ). let r : Event = record { reading = n; what = e.what } in r) q1 ∙ ap (λ (w : What). let r : Event = record { reading = f.reading; what = w } in r) q3

late_or_not : (head : Head) (e : Event) (line : List ℕ) → IsEventLine head e line → NamesLateSession head line → ⊥
late_or_not head e line h k =
    let same : e ≡ k.0 = event_one head e k.0 line h.line_of k.1 in
    let late : false ≡ true = sym h.limit ∙ ap (λ (x : Event). names_late x.what) same ∙ k.2 in
    no_reap late

fits_session : (w : What) (ds : List ℕ) → IfSome (session_in w) (λ s. IsNumberOf ds s.0) → names_late w ≡ false → IfSome (session_in w) (λ s. (1 ≤ s.0) × (s.0 ≤ SESSIONS))
fits_session (Join s) ds h e = (number_positive ds s.0 h, in_limit SESSIONS s.0 e)
fits_session (Do s o) ds h e = (number_positive ds s.0 h, in_limit SESSIONS s.0 e)
fits_session (Tell number) ds h e = tt
fits_session (Turn (Client s)) ds h e = (number_positive ds s.0 h, in_limit SESSIONS s.0 e)
fits_session (Turn (Server k)) ds h e = tt
fits_session (Recall k f) ds h e = tt
fits_session (Move k id j) ds h e = tt

fits_event : (head : Head) (e : Event) (line : List ℕ) → IsEventLine head e line → FitsEvent head e
fits_event head e line h =
    let l = h.line_of in
    record { reading = l.reading; session = fits_session e.what l.what.digits l.what.session h.limit; what = l.what.fits }

pub fits_events : (head : Head) (before : ℕ) (es : List Event) (lines : List (List ℕ)) → AreEventLines head before es lines → AllByRecursion (FitsEvent head) es
fits_events head before [] lines h = tt
fits_events head before (e ∷ es) [] h = absurd h
fits_events head before (e ∷ es) (line ∷ lines) h = (fits_event head e line h.0.event, fits_events head (before + 1) es lines h.1)

-- ## Faults

line_fault_one : (f g : LineFault) (head : Head) (before : ℕ) (line : List ℕ) → LineHas f head before line → LineHas g head before line → f ≡ g
line_fault_one (PassesLimit Packets) g head before line h k = absurd h
line_fault_one f (PassesLimit Packets) head before line h k = absurd k
line_fault_one (PassesLimit Servers) g head before line h k = absurd h
line_fault_one f (PassesLimit Servers) head before line h k = absurd k
line_fault_one (PassesLimit Bytes) (PassesLimit Bytes) head before line h k = refl
line_fault_one (PassesLimit Bytes) (PassesLimit Sessions) head before line h k = absurd (omega (arith, k.0))
line_fault_one (PassesLimit Bytes) (PassesLimit Events) head before line h k = absurd (omega (arith, k.0))
line_fault_one (PassesLimit Bytes) IsOutside head before line h k = absurd (omega (arith, k.0))
line_fault_one (PassesLimit Sessions) (PassesLimit Bytes) head before line h k = absurd (omega (arith, h.0))
line_fault_one (PassesLimit Sessions) (PassesLimit Sessions) head before line h k = refl
line_fault_one (PassesLimit Sessions) (PassesLimit Events) head before line h k = absurd (late_or_not head k.1.0 line k.1.1 h.1)
line_fault_one (PassesLimit Sessions) IsOutside head before line h k = absurd (k.1 h.1.0 h.1.1)
line_fault_one (PassesLimit Events) (PassesLimit Bytes) head before line h k = absurd (omega (arith, h.0))
line_fault_one (PassesLimit Events) (PassesLimit Sessions) head before line h k = absurd (late_or_not head h.1.0 line h.1.1 k.1)
line_fault_one (PassesLimit Events) (PassesLimit Events) head before line h k = refl
line_fault_one (PassesLimit Events) IsOutside head before line h k = absurd (k.1 h.1.0 h.1.1.line_of)
line_fault_one IsOutside (PassesLimit Bytes) head before line h k = absurd (omega (arith, h.0))
line_fault_one IsOutside (PassesLimit Sessions) head before line h k = absurd (h.1 k.1.0 k.1.1)
line_fault_one IsOutside (PassesLimit Events) head before line h k = absurd (h.1 k.1.0 k.1.1.line_of)
line_fault_one IsOutside IsOutside head before line h k = refl

no_fault : (f : LineFault) (head : Head) (before : ℕ) (e : Event) (line : List ℕ) → LineHas f head before line → Passes head before e line → ⊥
no_fault (PassesLimit Bytes) head before e line h p = omega (arith, p.short)
no_fault (PassesLimit Sessions) head before e line h p = late_or_not head e line p.event h.1
no_fault (PassesLimit Events) head before e line h p = omega (arith, h.2, p.few)
no_fault (PassesLimit Servers) head before e line h p = h
no_fault (PassesLimit Packets) head before e line h p = h
no_fault IsOutside head before e line h p = h.1 e p.event.line_of

faults_one : (f g : LineFault) (head : Head) (m n before : ℕ) (lines : List (List ℕ)) → FaultsAt f head m before lines → FaultsAt g head n before lines → (f ≡ g) × (m ≡ n)
faults_one f g head m n before [] h k = absurd h
faults_one f g head m n before (line ∷ lines) (inl h) (inl k) = (line_fault_one f g head before line h.1 k.1, h.0 ∙ sym k.0)
faults_one f g head m n before (line ∷ lines) (inl h) (inr k) = absurd (no_fault f head before k.0.0 line h.1 k.0.1)
faults_one f g head m n before (line ∷ lines) (inr h) (inl k) = absurd (no_fault g head before h.0.0 line k.1 h.0.1)
faults_one f g head m n before (line ∷ lines) (inr h) (inr k) = faults_one f g head m n (before + 1) lines h.1 k.1

apart : (f : LineFault) (head : Head) (at before : ℕ) (es : List Event) (lines : List (List ℕ)) → AreEventLines head before es lines → FaultsAt f head at before lines → ⊥
apart f head at before [] [] h k = k
apart f head at before [] (line ∷ lines) h k = absurd (cc)
apart f head at before (e ∷ es) [] h k = h
apart f head at before (e ∷ es) (line ∷ lines) h (inl k) = no_fault f head before e line k.1 h.0
apart f head at before (e ∷ es) (line ∷ lines) h (inr k) = apart f head at (before + 1) es lines h.1 k.1

events_one : (head : Head) (before : ℕ) (es fs : List Event) (lines : List (List ℕ)) → AreEventLines head before es lines → AreEventLines head before fs lines → es ≡ fs
events_one head before [] [] lines h k = refl
events_one head before [] (f ∷ fs) [] h k = absurd k
events_one head before [] (f ∷ fs) (line ∷ lines) h k = absurd (cc)
events_one head before (e ∷ es) [] [] h k = absurd h
events_one head before (e ∷ es) [] (line ∷ lines) h k = absurd (cc)
events_one head before (e ∷ es) (f ∷ fs) [] h k = absurd h
events_one head before (e ∷ es) (f ∷ fs) (line ∷ lines) h k =
    let q : e ≡ f = event_one head e f line h.0.event.line_of k.0.event.line_of in
    let r : es ≡ fs = events_one head (before + 1) es fs lines h.1 k.1 in
    cc

-- ## Texts

head_fault_one : (f g : LineFault) (line : List ℕ) → HeadHas f line → HeadHas g line → f ≡ g
head_fault_one (PassesLimit Sessions) g line h k = absurd h
head_fault_one (PassesLimit Events) g line h k = absurd h
head_fault_one (PassesLimit Packets) g line h k = absurd h
head_fault_one (PassesLimit Bytes) (PassesLimit Sessions) line h k = absurd k
head_fault_one (PassesLimit Bytes) (PassesLimit Events) line h k = absurd k
head_fault_one (PassesLimit Bytes) (PassesLimit Packets) line h k = absurd k
head_fault_one (PassesLimit Servers) (PassesLimit Sessions) line h k = absurd k
head_fault_one (PassesLimit Servers) (PassesLimit Events) line h k = absurd k
head_fault_one (PassesLimit Servers) (PassesLimit Packets) line h k = absurd k
head_fault_one (PassesLimit Servers) (PassesLimit Bytes) line h k = absurd (omega (arith, h.0))
head_fault_one (PassesLimit Servers) (PassesLimit Servers) line h k = refl
head_fault_one (PassesLimit Servers) IsOutside line h k = absurd (k.1 h.1.0 h.1.1)
head_fault_one (PassesLimit Bytes) (PassesLimit Servers) line h k = absurd (omega (arith, k.0))
head_fault_one (PassesLimit Bytes) (PassesLimit Bytes) line h k = refl
head_fault_one (PassesLimit Bytes) IsOutside line h k = absurd (omega (arith, k.0))
head_fault_one IsOutside (PassesLimit Sessions) line h k = absurd k
head_fault_one IsOutside (PassesLimit Events) line h k = absurd k
head_fault_one IsOutside (PassesLimit Packets) line h k = absurd k
head_fault_one IsOutside (PassesLimit Servers) line h k = absurd (h.1 k.1.0 k.1.1)
head_fault_one IsOutside (PassesLimit Bytes) line h k = absurd (omega (arith, h.0))
head_fault_one IsOutside IsOutside line h k = refl

no_head_fault : (f : LineFault) (head : Head) (line : List ℕ) → HeadHas f line → HeadPasses head line → ⊥
no_head_fault (PassesLimit Bytes) head line h p = omega (arith, p.0)
no_head_fault (PassesLimit Servers) head line h p = many_or_not head line p.1 h.1
no_head_fault (PassesLimit Sessions) head line h p = h
no_head_fault (PassesLimit Events) head line h p = h
no_head_fault (PassesLimit Packets) head line h p = h
no_head_fault IsOutside head line h p = h.1 head p.1.line_of

text_faults : (f g : LineFault) (m n : ℕ) (lines : List (List ℕ)) → LinesFaultAt f m lines → LinesFaultAt g n lines → (f ≡ g) × (m ≡ n)
text_faults f g m n [] h k = absurd h
text_faults f g m n (line ∷ lines) (inl h) (inl k) = (head_fault_one f g line h.1 k.1, h.0 ∙ sym k.0)
text_faults f g m n (line ∷ lines) (inl h) (inr k) = absurd (no_head_fault f k.0 line h.1 k.1)
text_faults f g m n (line ∷ lines) (inr h) (inl k) = absurd (no_head_fault g h.0 line k.1 h.1)
text_faults f g m n (line ∷ lines) (inr h) (inr k) =
    let P : Head → Type 0 = λ x. FaultsAt g x n 0 lines in
    faults_one f g h.0 m n 0 lines h.2 (subst P (head_one k.0 h.0 line k.1.1.line_of h.1.1.line_of) k.2)

text_apart : (s : Schedule) (f : LineFault) (at : ℕ) (lines : List (List ℕ)) → AreLinesOf s lines → LinesFaultAt f at lines → ⊥
text_apart s f at [] h k = k
text_apart s f at (line ∷ lines) h (inl k) = no_head_fault f s.head line k.1 h.0
text_apart s f at (line ∷ lines) h (inr k) =
    let P : Head → Type 0 = λ x. FaultsAt f x at 0 lines in
    apart f s.head at 0 s.events lines h.1 (subst P (head_one k.0 s.head line k.1.1.line_of h.0.1.line_of) k.2)

text_one : (s t : Schedule) (lines : List (List ℕ)) → AreLinesOf s lines → AreLinesOf t lines → s ≡ t
text_one s t [] h k = absurd h
text_one s t (line ∷ lines) h k =
    let q : s.head ≡ t.head = head_one s.head t.head line h.0.1.line_of k.0.1.line_of in
    let P : Head → Type 0 = λ x. AreEventLines x 0 t.events lines in
    let r : s.events ≡ t.events = events_one s.head 0 s.events t.events lines h.1 (subst P (sym q) k.1) in
    ap (λ (x : Head). let z : Schedule = record { head = x; events = s.events } in z) q ∙ ap (λ (es : List Event). let z : Schedule = record { head = t.head; events = es } in z) r

text_fits : (s : Schedule) (lines : List (List ℕ)) → AreLinesOf s lines → AllByRecursion (FitsEvent s.head) s.events
text_fits s [] h = absurd h
text_fits s (line ∷ lines) h = fits_events s.head 0 s.events lines h.1

pub one_schedule : (s t : Schedule) (bytes : List ℕ) → IsScheduleText s bytes → IsScheduleText t bytes → s ≡ t
one_schedule s t bytes h k = text_one s t (lines_of bytes) h.0 k.0

untimely_one : (s t : Schedule) (m n i j : ℕ) → s ≡ t → IsUntimely s.head s.events m i → IsUntimely t.head t.events n j → IsSkewed m i ≡ IsSkewed n j
untimely_one s t m n i j q h k =
    let P : Schedule → Type 0 = λ x. IsUntimely x.head x.events n j in
    let same = one_untimely s.head s.events m n i j h (subst P (sym q) k) in
    ap (λ (x : ℕ). IsSkewed x i) same.0 ∙ ap (λ (x : ℕ). IsSkewed n x) same.1

pub one_fault : (f g : Fault) (bytes : List ℕ) → IsFirstFault f bytes → IsFirstFault g bytes → f ≡ g
one_fault (AtLine m f) (AtLine n g) bytes h k =
    let same = text_faults f g m n (lines_of bytes) h k in
    ap (λ (x : LineFault). AtLine m x) same.0 ∙ ap (λ (x : ℕ). AtLine x g) same.1
one_fault (AtLine m f) (IsSkewed n j) bytes h k = absurd (text_apart k.0 f m (lines_of bytes) k.1 h)
one_fault (IsSkewed m i) (AtLine n g) bytes h k = absurd (text_apart h.0 g n (lines_of bytes) h.1 k)
one_fault (IsSkewed m i) (IsSkewed n j) bytes h k = untimely_one h.0 k.0 m n i j (text_one h.0 k.0 (lines_of bytes) h.1 k.1) h.2 k.2

pub no_schedule : (s : Schedule) (f : Fault) (bytes : List ℕ) → IsFirstFault f bytes → IsScheduleText s bytes → ⊥
no_schedule s (AtLine at f) bytes h k = text_apart s f at (lines_of bytes) k.0 h
no_schedule s (IsSkewed n j) bytes h k =
    let P : Schedule → Type 0 = λ x. IsUntimely x.head x.events n j in
    timely_or_not s.head s.events n j k.1 (subst P (text_one h.0 s (lines_of bytes) h.1 k.0) h.2)

pub all_fit : (s : Schedule) (bytes : List ℕ) → IsScheduleText s bytes → AllByRecursion (FitsEvent s.head) s.events
all_fit s bytes h = text_fits s (lines_of bytes) h.0

text_form : (s : Schedule) (lines : List (List ℕ)) → AreLinesOf s lines → FitsHead s.head
text_form s [] h = absurd h
text_form s (line ∷ lines) h = fits_form s.head line h.0.1

pub form_fits : (s : Schedule) (bytes : List ℕ) → IsScheduleText s bytes → FitsHead s.head
form_fits s bytes h = text_form s (lines_of bytes) h.0
