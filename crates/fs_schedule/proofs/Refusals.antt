-- Laws of what readers answer.
use Rattle.std.proofs.Common.{◌≡◌, ℕ, ◌<◌, ◌≤◌, ◌^◌, true, false, List, [], ◌∷◌, refl, ap, sym, ◌∙◌, subst}
use Rattle.std.specs.Prelude.{Result, Ok, Err, IsErr, Option, IfSome, codes}
use Rattle.std.specs.Result.{IsErrAnd}
use Rattle.fs_schedule.specs.declared.unread.Unread.{Unread}
use Rattle.fs_schedule.specs.declared.unread.Unread.TheVariants.{Outside}
use Rattle.fs_schedule.specs.Words.{Word, Bare}
use Rattle.fs_schedule.specs.declared.event.What.{What}
use Rattle.fs_schedule.specs.declared.event.What.TheVariants.{Join, Do, Tell, Turn, Recall, Move}
use Rattle.fs_schedule.specs.declared.event.Event.{Event}
use Rattle.fs_schedule.specs.declared.event.Head.{Head}
use Rattle.fs_schedule.specs.declared.event.Head.TheVariants.{Direct, Servers}
use Rattle.fs_ident.specs.Ident.{IsId}
use Rattle.fs_ident.specs.IdText.{id_text}
use Rattle.fs_ident.specs.declared.limits.TheConstants.{SESSIONS}
use Rattle.fs_msg.specs.declared.limits.TheConstants.{LONGEST, SERVERS}
use Rattle.fs_ident.specs.declared.actor.Session.{Session}
use Rattle.fs_ident.specs.declared.actor.Peer.{Peer}
use Rattle.fs_ident.specs.declared.actor.Peer.TheVariants.{Server, Client}
use Rattle.fs_field.specs.declared.field.Field.{Field}
use Rattle.fs_model.specs.declared.op.Op.{Op}
use Rattle.fs_schedule.specs.Separated.{AreWords}
use Rattle.fs_schedule.specs.Spelling.{servers_in, IsServerIn, client_word, server_word, packet_word, op_words, FitsOp, field_words, FitsField}
use Rattle.fs_schedule.specs.Reading.{Reads, Tells, ReadsSurely, TellsSurely, capped, IsToldNumber, IsToldCount, IsToldHead, IsToldHeadLine, IsToldSession, IsToldPeer, IsToldWhat, IsToldEvent, IsToldLine}
use Rattle.std.specs.Fmt.{decimal}
use Rattle.fs_schedule.proofs.Asked.{bare_one}
use Rattle.fs_schedule.proofs.Operations.{distinct}
use Rattle.fs_schedule.proofs.Spelled.{told_head_line, told_head_by_words, told_line, told_by_words}
use Rattle.fs_schedule.proofs.Single.{first_operand, behind}

pub no_error : false ≡ true → ⊥
no_error e = cc

-- a refusal that is passed on
pub reads_err : {X W : Type 0} (spelled : X → W) (Fits : X → Type 0) (r : Result X Unread) (w : W) (e : Unread) → IsErr r × IsErrAnd r (λ x. x ≡ e) → (e ≡ Outside → (x : X) → Fits x → w ≡ spelled x → ⊥) → Reads spelled Fits r w
reads_err spelled Fits (Ok x) w e h none = absurd (no_error h.0)
reads_err spelled Fits (Err f) w e h none = λ o x fits q. none (sym h.1 ∙ o) x fits q

pub tells_err : {X W : Type 0} (IsOf : X → W → Type 0) (r : Result X Unread) (w : W) (e : Unread) → IsErr r × IsErrAnd r (λ x. x ≡ e) → (e ≡ Outside → (x : X) → IsOf x w → ⊥) → Tells IsOf r w
tells_err IsOf (Ok x) w e h none = absurd (no_error h.0)
tells_err IsOf (Err f) w e h none = λ o x is. none (sym h.1 ∙ o) x is

-- the same of readers that take no memory
pub reads_surely_err : {X W : Type 0} (spelled : X → W) (Fits : X → Type 0) (r : Result X Unread) (w : W) (e : Unread) → IsErr r × IsErrAnd r (λ x. x ≡ e) → (e ≡ Outside) × ((x : X) → Fits x → w ≡ spelled x → ⊥) → ReadsSurely spelled Fits r w
reads_surely_err spelled Fits (Ok x) w e h none = absurd (no_error h.0)
reads_surely_err spelled Fits (Err f) w e h none = (h.1 ∙ none.0, none.1)

pub tells_surely_err : {X W : Type 0} (IsOf : X → W → Type 0) (r : Result X Unread) (w : W) (e : Unread) → IsErr r × IsErrAnd r (λ x. x ≡ e) → (e ≡ Outside) × ((x : X) → IsOf x w → ⊥) → TellsSurely IsOf r w
tells_surely_err IsOf (Ok x) w e h none = absurd (no_error h.0)
tells_surely_err IsOf (Err f) w e h none = (h.1 ∙ none.0, none.1)

digits_same : (ds es : List ℕ) → client_word ds ≡ client_word es → ds ≡ es
digits_same ds es e = cc

pub tells_session : (r : Result ℕ Unread) (digits : List ℕ) → TellsSurely (IsToldNumber SESSIONS) r digits → TellsSurely IsToldSession r (client_word digits)
tells_session (Ok n) digits h = (digits, refl, h)
tells_session (Err e) digits h = (h.0, λ n is. h.1 n (subst (IsToldNumber SESSIONS n) (sym (digits_same digits is.0 is.1)) is.2))

-- ## Forms

pub tells_head : (r : Result Head Unread) (ws : List Word) (line : List ℕ) → AreWords ws line → TellsSurely IsToldHead r ws → Tells IsToldHeadLine r line
tells_head (Ok head) ws line a h = told_head_line head ws line a h
tells_head (Err f) ws line a h = λ o head is. h.1 head (told_head_by_words head ws line a is)

-- digits that tell no number are no number of servers
pub no_digits : (n : ℕ) (digits : List ℕ) (w : Word) → w ≡ Bare digits → (IsToldNumber SERVERS n digits → ⊥) → IsToldCount n w → ⊥
no_digits n digits w e none h = none (subst (IsToldNumber SERVERS n) (sym (bare_one digits h.0 (sym e ∙ h.1))) h.2)

-- the words of a form with servers
abbrev pub served_words : Word → Word → Word → List Word
served_words s k t = Bare (codes "farsite") ∷ Bare (codes "1") ∷ Bare (codes "servers") ∷ s ∷ Bare (codes "skew") ∷ k ∷ Bare (codes "term") ∷ t ∷ []

pub told_served : (n skew term : ℕ) (s k t : Word) → IsToldCount n s → (skew ≤ LONGEST) × (k ≡ Bare (decimal skew)) → ((1 ≤ term) × (term ≤ LONGEST)) × (t ≡ Bare (decimal term)) → IsToldHead (Servers n skew term) (served_words s k t)
told_served n skew term s k t h f g =
    let digits = h.0 in
    let number = h.2 in
    let count : s ≡ Bare digits = h.1 in
    let skews : k ≡ Bare (decimal skew) = f.1 in
    let terms : t ≡ Bare (decimal term) = g.1 in
    let whole : served_words s k t ≡ served_words (Bare digits) (Bare (decimal skew)) (Bare (decimal term)) = cc in
    (Servers number.0 skew term, record { digits = digits; count = number.1; times = (f.0, g.0.0, g.0.1); spelled = whole }, ap (λ (m : ℕ). Servers m skew term) number.2)

-- the words behind the form, one by one
pub tells_served : (r : Result Head Unread) (ws : List Word) (s u k v t : Word) → ws ≡ s ∷ u ∷ k ∷ v ∷ t ∷ [] → u ≡ Bare (codes "skew") → v ≡ Bare (codes "term") → TellsSurely IsToldHead r (served_words s k t) → TellsSurely IsToldHead r (Bare (codes "farsite") ∷ Bare (codes "1") ∷ Bare (codes "servers") ∷ ws)
tells_served r ws s u k v t all skew term h =
    let whole : served_words s k t ≡ Bare (codes "farsite") ∷ Bare (codes "1") ∷ Bare (codes "servers") ∷ ws = cc in
    subst (TellsSurely IsToldHead r) whole h

-- the word of the form is as it was read
pub tells_form : (r : Result Head Unread) (w v : Word) (ws : List Word) → w ≡ v → TellsSurely IsToldHead r (Bare (codes "farsite") ∷ Bare (codes "1") ∷ v ∷ ws) → TellsSurely IsToldHead r (Bare (codes "farsite") ∷ Bare (codes "1") ∷ w ∷ ws)
tells_form r w v ws e h =
    let P : Word → Type 0 = λ x. TellsSurely IsToldHead r (Bare (codes "farsite") ∷ Bare (codes "1") ∷ x ∷ ws) in
    subst P (sym e) h

third_word : (a b w c d v : Word) (ws vs : List Word) → a ∷ b ∷ w ∷ ws ≡ c ∷ d ∷ v ∷ vs → w ≡ v
third_word a b w c d v ws vs e = cc

-- words whose third is no form's name no form
pub no_form : (head : Head) (w : Word) (ws : List Word) → (w ≡ Bare (codes "direct") → ⊥) → (w ≡ Bare (codes "servers") → ⊥) → IsToldHead head (Bare (codes "farsite") ∷ Bare (codes "1") ∷ w ∷ ws) → ⊥
no_form head w ws direct served (Direct, form, same) = direct (third_word _ _ _ _ _ _ _ _ form.spelled)
no_form head w ws direct served (Servers n skew term, form, same) = served (third_word _ _ _ _ _ _ _ _ form.spelled)

-- words without a number of servers, a skew or a term in its place name no form
pub no_count : (head : Head) (s k t : Word) → ((n : ℕ) → IsToldCount n s → ⊥) → IsToldHead head (served_words s k t) → ⊥
no_count head s k t none (Direct, form, same) = let q = form.spelled in cc
no_count head s k t none (Servers n skew term, form, same) =
    let q = form.spelled in
    let word : s ≡ Bare form.digits = cc in
    none (capped SERVERS n) (form.digits, word, (n, form.count, refl))

pub no_skew : (head : Head) (s k t : Word) → ((n : ℕ) → n ≤ LONGEST → k ≡ Bare (decimal n) → ⊥) → IsToldHead head (served_words s k t) → ⊥
no_skew head s k t none (Direct, form, same) = let q = form.spelled in cc
no_skew head s k t none (Servers n skew term, form, same) =
    let q = form.spelled in
    let word : k ≡ Bare (decimal skew) = cc in
    none skew form.times.0 word

pub no_term : (head : Head) (s k t : Word) → ((n : ℕ) → (1 ≤ n) × (n ≤ LONGEST) → t ≡ Bare (decimal n) → ⊥) → IsToldHead head (served_words s k t) → ⊥
no_term head s k t none (Direct, form, same) = let q = form.spelled in cc
no_term head s k t none (Servers n skew term, form, same) =
    let q = form.spelled in
    let word : t ≡ Bare (decimal term) = cc in
    none term (form.times.1, form.times.2) word

-- ## What happens

session_is : (n m : ℕ) → n ≡ capped SESSIONS m → (f : Session → What) → f (record { 0 = n }) ≡ f (record { 0 = capped SESSIONS m })
session_is n m e f = ap (λ (k : ℕ). let r : Session = record { 0 = k } in f r) e

pub told_join : (head : Head) (n : ℕ) (s : Word) → IsToldSession n s → IsToldWhat head (Join (record { 0 = n })) (Bare (codes "join") ∷ s ∷ [])
told_join head n s h =
    let number = h.2 in
    (Join (record { 0 = number.0 }), record { digits = h.0; session = number.1; fits = tt; spelled = ap (λ (w : Word). Bare (codes "join") ∷ w ∷ []) h.1 }, session_is n number.0 number.2 (λ s. Join s))

pub told_do : (head : Head) (n : ℕ) (s : Word) (o : Op) (ws : List Word) → IsToldSession n s → FitsOp o × (ws ≡ op_words o) → IsToldWhat head (Do (record { 0 = n }) o) (Bare (codes "do") ∷ s ∷ ws)
told_do head n s o ws h k =
    let digits = h.0 in
    let number = h.2 in
    let word : s ≡ client_word digits = h.1 in
    let words : ws ≡ op_words o = k.1 in
    let whole : Bare (codes "do") ∷ s ∷ ws ≡ Bare (codes "do") ∷ client_word digits ∷ op_words o = cc in
    (Do (record { 0 = number.0 }) o, record { digits = digits; session = number.1; fits = k.0; spelled = whole }, session_is n number.0 number.2 (λ s. Do s o))

pub told_tell : (head : Head) (number : Option ℕ) (w : Word) → 0 < servers_in head → IfSome number (λ n. n < 2 ^ 64) → w ≡ packet_word number → IsToldWhat head (Tell number) (Bare (codes "tell") ∷ w ∷ [])
told_tell head number w some h e = (Tell number, record { digits = []; session = tt; fits = (some, h); spelled = ap (λ (v : Word). Bare (codes "tell") ∷ v ∷ []) e }, refl)

pub told_turn : (head : Head) (who : Peer) (w : Word) → 0 < servers_in head → IsToldPeer head who w → IsToldWhat head (Turn who) (Bare (codes "turn") ∷ w ∷ [])
told_turn head (Server k) w some h = (Turn (Server k), record { digits = []; session = tt; fits = h.0; spelled = ap (λ (v : Word). Bare (codes "turn") ∷ v ∷ []) h.1 }, refl)
told_turn head (Client s) w some h =
    let number = h.2 in
    (Turn (Client (record { 0 = number.0 })), record { digits = h.0; session = number.1; fits = some; spelled = ap (λ (v : Word). Bare (codes "turn") ∷ v ∷ []) h.1 }, session_is s.0 number.0 number.2 (λ s. Turn (Client s)))

pub told_recall : (head : Head) (k : ℕ) (f : Field) (w : Word) (ws : List Word) → IsServerIn head k × (w ≡ server_word k) → FitsField f × (ws ≡ field_words f) → IsToldWhat head (Recall k f) (Bare (codes "recall") ∷ w ∷ ws)
told_recall head k f w ws h g =
    let word : w ≡ server_word k = h.1 in
    let words : ws ≡ field_words f = g.1 in
    let whole : Bare (codes "recall") ∷ w ∷ ws ≡ Bare (codes "recall") ∷ server_word k ∷ field_words f = cc in
    (Recall k f, record { digits = []; session = tt; fits = (h.0, g.0); spelled = whole }, refl)

pub told_move : (head : Head) (k : ℕ) (id : List ℕ) (j : ℕ) (w v u : Word) → IsServerIn head k × (w ≡ server_word k) → IsId id × (v ≡ Bare (id_text id)) → IsServerIn head j × (u ≡ server_word j) → IsToldWhat head (Move k id j) (Bare (codes "move") ∷ w ∷ v ∷ u ∷ [])
told_move head k id j w v u h f g =
    let from : w ≡ server_word k = h.1 in
    let prefix : v ≡ Bare (id_text id) = f.1 in
    let to : u ≡ server_word j = g.1 in
    let whole : Bare (codes "move") ∷ w ∷ v ∷ u ∷ [] ≡ Bare (codes "move") ∷ server_word k ∷ Bare (id_text id) ∷ server_word j ∷ [] = cc in
    (Move k id j, record { digits = []; session = tt; fits = (h.0, f.0, g.0); spelled = whole }, refl)

-- a reader that takes no memory, whose words are those that were read
pub told_surely : (head : Head) (r : Result What Unread) (w v : Word) (ws : List Word) → w ≡ v → TellsSurely (IsToldWhat head) r (v ∷ ws) → Tells (IsToldWhat head) r (w ∷ ws)
told_surely head (Ok x) w v ws e h =
    let P : Word → Type 0 = λ u. IsToldWhat head x (u ∷ ws) in
    subst P (sym e) h
told_surely head (Err f) w v ws e h = λ o x is.
    let P : Word → Type 0 = λ u. IsToldWhat head x (u ∷ ws) in
    h.1 x (subst P e is)

-- the words of a session's event are told, where its session is
join_told : (head : Head) (w : What) (s : Word) (ws : List Word) → IsToldWhat head w (Bare (codes "join") ∷ s ∷ ws) → (n : ℕ) × IsToldSession n s
join_told head w s ws (Join t, spelled, same) = (capped SESSIONS t.0, (spelled.digits, first_operand _ _ _ _ _ _ spelled.spelled, (t.0, spelled.session, refl)))
join_told head w s ws (f, spelled, same) = absurd (distinct (codes "join") _ _ _ spelled.spelled refl)

do_told : (head : Head) (w : What) (s : Word) (ws : List Word) → IsToldWhat head w (Bare (codes "do") ∷ s ∷ ws) → (n : ℕ) × IsToldSession n s
do_told head w s ws (Do t o, spelled, same) = (capped SESSIONS t.0, (spelled.digits, first_operand _ _ _ _ _ _ spelled.spelled, (t.0, spelled.session, refl)))
do_told head w s ws (f, spelled, same) = absurd (distinct (codes "do") _ _ _ spelled.spelled refl)

-- words whose second is no session's tell nothing
pub no_join : (head : Head) (w : What) (s : Word) (ws : List Word) → ((n : ℕ) → IsToldSession n s → ⊥) → IsToldWhat head w (Bare (codes "join") ∷ s ∷ ws) → ⊥
no_join head w s ws none h = let told = join_told head w s ws h in none told.0 told.1

pub no_do : (head : Head) (w : What) (s : Word) (ws : List Word) → ((n : ℕ) → IsToldSession n s → ⊥) → IsToldWhat head w (Bare (codes "do") ∷ s ∷ ws) → ⊥
no_do head w s ws none h = let told = do_told head w s ws h in none told.0 told.1

-- words whose second is no actor's tell no turn
pub no_turn : (head : Head) (w : What) (s : Word) → ((who : Peer) → IsToldPeer head who s → ⊥) → IsToldWhat head w (Bare (codes "turn") ∷ s ∷ []) → ⊥
no_turn head w s none (Turn (Client t), spelled, same) = none (Client (record { 0 = capped SESSIONS t.0 })) (spelled.digits, first_operand _ _ _ _ _ _ spelled.spelled, (t.0, spelled.session, refl))
no_turn head w s none (Turn (Server k), spelled, same) = none (Server k) (spelled.fits, first_operand _ _ _ _ _ _ spelled.spelled)
no_turn head w s none (f, spelled, same) = absurd (distinct (codes "turn") _ _ _ spelled.spelled refl)

-- a word that begins with no server's letter is a session's or none
pub no_peer : (head : Head) (who : Peer) (w : Word) (text : List ℕ) → w ≡ Bare text → ((digits : List ℕ) → text ≡ 115 ∷ digits → ⊥) → ((n : ℕ) → IsToldSession n w → ⊥) → IsToldPeer head who w → ⊥
no_peer head (Client s) w text q server session h = session s.0 h
no_peer head (Server k) w text q server session h = server (decimal k) (bare_one _ _ (sym q ∙ h.1))

-- ## Events and lines

pub no_event : (head : Head) (e : Event) (first : Word) (ws : List Word) → ((w : What) → IsToldWhat head w ws → ⊥) → IsToldEvent head e (first ∷ ws) → ⊥
no_event head e first ws none h =
    let P : List Word → Type 0 = λ vs. IsToldWhat head e.what vs in
    none e.what (subst P (sym (behind _ _ _ _ h.1.1)) h.1.2)

pub tells_line : (head : Head) (r : Result Event Unread) (ws : List Word) (line : List ℕ) → AreWords ws line → Tells (IsToldEvent head) r ws → Tells (IsToldLine head) r line
tells_line head (Ok e) ws line a h = told_line head e ws line a h
tells_line head (Err f) ws line a h = λ o e is. h o e (told_by_words head e ws line a is)
