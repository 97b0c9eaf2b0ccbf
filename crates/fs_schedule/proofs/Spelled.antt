-- The words of events are words, so a line tells its words.
use Rattle.std.proofs.Common.{◌≡◌, ℕ, ◌<◌, ◌+◌, ◌%◌, ◌^◌, ◌==◌, ◌&&◌, Bool, true, false, not, List, [], ◌∷◌, refl, ap, arith, sym, ◌∙◌, subst}
use Rattle.std.specs.Prelude.{Option, Some, None, IfSome, codes, flat_map}
use Rattle.std.specs.Char.{digit_value}
use Rattle.std.specs.Fmt.{decimal}
use Rattle.std.specs.List.{All, AllByRecursion, list_all, position_from}
use Rattle.std.specs.Str.Parse.{AllDigits}
use Rattle.std.proofs.lemmas.Bool.{eqb-true}
use Rattle.std.proofs.lemmas.Bool.Decides.{nat_tests}
use Rattle.std.proofs.lemmas.Fmt.{decimal_by_steps}
use Rattle.std.proofs.lemmas.Iterator.Adapters.{position_from-zero}
use Rattle.std.proofs.lemmas.List.Elements.{All-head, All-tail}
use Rattle.std.proofs.lemmas.Str.Parse.{digit_from_value}
use Rattle.fs_ident.specs.Ident.{IsId, IsNumber}
use Rattle.fs_ident.specs.IdText.{id_text, step_text}
use Rattle.fs_ident.specs.Name.{IsName, is_name_byte}
use Rattle.fs_ident.specs.declared.kind.Kind.{Kind}
use Rattle.fs_ident.specs.declared.kind.Kind.TheVariants.{File, Dir}
use Rattle.fs_modes.specs.declared.modes.Mode.{Mode}
use Rattle.fs_modes.specs.declared.modes.Mode.TheVariants.{AccR, AccW, AccD, DenyR, DenyW, DenyD}
use Rattle.fs_modes.specs.Letters.{letters, dashed, mode_text}
use Rattle.fs_model.specs.declared.op.Op.{Op}
use Rattle.fs_model.specs.declared.op.Op.TheVariants as op
use Rattle.fs_ident.specs.declared.actor.Peer.TheVariants.{Server, Client}
use Rattle.fs_ident.proofs.Booleans.{both}
use Rattle.fs_ident.proofs.Options.{cond_none}
use Rattle.fs_field.specs.declared.field.Field.{Field}
use Rattle.fs_field.specs.declared.field.Field.TheVariants as field
use Rattle.fs_schedule.specs.Words.{Word, Bare, Quoted, line_text}
use Rattle.fs_schedule.specs.declared.event.What.{What}
use Rattle.fs_schedule.specs.declared.event.What.TheVariants.{Join, Do, Tell, Turn, Recall, Move}
use Rattle.fs_schedule.specs.declared.event.Event.{Event}
use Rattle.fs_schedule.specs.declared.event.Head.{Head}
use Rattle.fs_schedule.specs.declared.event.Head.TheVariants.{Direct, Servers}
use Rattle.fs_schedule.specs.Separated.{Lacks, FitsWord, AreWords, begins_quoted}
use Rattle.fs_schedule.specs.Spelling.{FitsTimes, IsCountOf, head_words, IsHeadLine, kind_text, op_words, FitsOp, field_words, FitsField, session_in, IsNumberOf, client_word, server_word, packet_word, what_words, FitsWhat, IsSpelled, IsLineOf}
use Rattle.fs_schedule.specs.Reading.{IsToldHead, IsToldHeadLine, IsToldEvent, IsToldLine}
use Rattle.fs_schedule.proofs.Cuts.{lacks_push, lacks_append, words_one}

-- ## Bytes

unquoted_from : (xs : List ℕ) → Lacks 34 xs → begins_quoted xs ≡ false
unquoted_from [] h = refl
unquoted_from (x ∷ xs) h = h.0

fits_bare : (xs : List ℕ) → Lacks 32 xs → Lacks 34 xs → FitsWord (Bare xs)
fits_bare xs h k = (h, unquoted_from xs k)

fits_parts : (b c : Bool) → (not b && not c) ≡ true → (b ≡ false) × (c ≡ false)
fits_parts true c e = absurd (cc)
fits_parts false true e = absurd (cc)
fits_parts false false e = (refl, refl)

plain_bytes : (xs : List ℕ) → list_all (λ x. not (x == 32) && not (x == 34)) xs ≡ true → Lacks 32 xs × Lacks 34 xs
plain_bytes [] e = (tt, tt)
plain_bytes (x ∷ xs) e =
    let p = both (not (x == 32) && not (x == 34)) (list_all (λ x. not (x == 32) && not (x == 34)) xs) e in
    let q = fits_parts (x == 32) (x == 34) p.0 in
    let r = plain_bytes xs p.1 in
    ((q.0, r.0), (q.1, r.1))

-- for texts that compute
pub fits_by : (xs : List ℕ) → list_all (λ x. not (x == 32) && not (x == 34)) xs ≡ true → FitsWord (Bare xs)
fits_by xs e = let p = plain_bytes xs e in fits_bare xs p.0 p.1

digit_other : (b n : ℕ) → b < 48 → (48 + n == b) ≡ false
digit_other b n h = grind (arith, nat_tests)

decimal_lacks : (b n : ℕ) → b < 48 → n < 2 ^ 64 → Lacks b (decimal n)
decimal_lacks b n low lt = decimal_by_steps (λ n ds. Lacks b ds) (λ n lt. (digit_other b n low, tt)) (λ n ds ge h. lacks_push b ds (48 + n % 10) h (digit_other b (n % 10) low)) n lt

letter_other : (b n : ℕ) → 57 < b → n < 10 → (48 + n == b) ≡ false
letter_other b n h k = grind (arith, nat_tests)

-- there is no letter in a number
pub no_letter : (b n : ℕ) → 57 < b → n < 2 ^ 64 → Lacks b (decimal n)
no_letter b n high lt = decimal_by_steps (λ n ds. Lacks b ds) (λ n lt. (letter_other b n high lt, tt)) (λ n ds ge h. lacks_push b ds (48 + n % 10) h (letter_other b (n % 10) high (omega arith))) n lt

pub fits_decimal : (n : ℕ) → n < 2 ^ 64 → FitsWord (Bare (decimal n))
fits_decimal n lt = fits_bare (decimal n) (decimal_lacks 32 n (omega arith) lt) (decimal_lacks 34 n (omega arith) lt)

steps_lack : (b : ℕ) (ns : List ℕ) → b < 47 → All IsNumber ns → Lacks b (flat_map step_text ns)
steps_lack b [] low h = tt
steps_lack b (n ∷ ns) low h =
    let number = All-head IsNumber n ns h in
    lacks_append b (step_text n) (flat_map step_text ns) (slash_other b low, decimal_lacks b n (omega arith) (omega (arith, number.fits))) (steps_lack b ns low (All-tail IsNumber n ns h))
  where
    slash_other : (b : ℕ) → b < 47 → (47 == b) ≡ false
    slash_other b h = grind (arith, nat_tests)

id_lacks : (b : ℕ) (id : List ℕ) → b < 47 → (47 == b) ≡ false → IsId id → Lacks b (id_text id)
id_lacks b [] low e h = (e, tt)
id_lacks b (n ∷ ns) low e h = steps_lack b (n ∷ ns) low h.each

pub fits_id : (id : List ℕ) → IsId id → FitsWord (Bare (id_text id))
fits_id id h = fits_bare (id_text id) (id_lacks 32 id (omega arith) refl h) (id_lacks 34 id (omega arith) refl h)

-- ## Names

not_a_quote : (x : ℕ) → not (is_name_byte x) ≡ false → (x == 34) ≡ false
not_a_quote x h = elim (x == 34) as (λ t. (x == 34) ≡ t → t ≡ false) [
  | true ↦ λ t.
      let q : not (is_name_byte 34) ≡ false = subst (λ (y : ℕ). not (is_name_byte y) ≡ false) (eqb-true x 34 t) h in
      q
  | false ↦ λ t. refl
] refl

name_lacks : (i : ℕ) (xs : List ℕ) → position_from (λ b. not (is_name_byte b)) i xs ≡ None → Lacks 34 xs
name_lacks i [] e = tt
name_lacks i (x ∷ xs) e =
    let p = cond_none (not (is_name_byte x)) i (position_from (λ b. not (is_name_byte b)) (i + 1) xs) e in
    (not_a_quote x p.0, name_lacks (i + 1) xs p.1)

pub fits_name : (name : List ℕ) → IsName name → FitsWord (Quoted name)
fits_name name h = name_lacks 0 name (sym (position_from-zero (λ b. not (is_name_byte b)) name) ∙ h.good)

-- ## Kinds, modes, sessions

fits_kind : (k : Kind) → FitsWord (Bare (kind_text k))
fits_kind File = fits_by (codes "file") refl
fits_kind Dir = fits_by (codes "dir") refl

fits_mode : (m : Mode) → FitsWord (Bare (mode_text m))
fits_mode AccR = fits_by (codes "aR") refl
fits_mode AccW = fits_by (codes "aW") refl
fits_mode AccD = fits_by (codes "aD") refl
fits_mode DenyR = fits_by (codes "dR") refl
fits_mode DenyW = fits_by (codes "dW") refl
fits_mode DenyD = fits_by (codes "dD") refl

fits_letters : (r w d : Bool) → FitsWord (Bare (letters r w d))
fits_letters true true true = fits_by (letters true true true) refl
fits_letters true true false = fits_by (letters true true false) refl
fits_letters true false true = fits_by (letters true false true) refl
fits_letters true false false = fits_by (letters true false false) refl
fits_letters false true true = fits_by (letters false true true) refl
fits_letters false true false = fits_by (letters false true false) refl
fits_letters false false true = fits_by (letters false false true) refl
fits_letters false false false = fits_by [] refl

fits_dashed : (r w d : Bool) → FitsWord (Bare (dashed (letters r w d)))
fits_dashed true true true = fits_by (dashed (letters true true true)) refl
fits_dashed true true false = fits_by (dashed (letters true true false)) refl
fits_dashed true false true = fits_by (dashed (letters true false true)) refl
fits_dashed true false false = fits_by (dashed (letters true false false)) refl
fits_dashed false true true = fits_by (dashed (letters false true true)) refl
fits_dashed false true false = fits_by (dashed (letters false true false)) refl
fits_dashed false false true = fits_by (dashed (letters false false true)) refl
fits_dashed false false false = fits_by (dashed (letters false false false)) refl

digit_lacks : (b c : ℕ) → b < 48 → digit_value c < 10 → (c == b) ≡ false
digit_lacks b c low h = let d = digit_from_value c h in grind (arith, nat_tests, d.0)

digits_lack : (b : ℕ) (ds : List ℕ) → b < 48 → AllDigits 10 ds → Lacks b ds
digits_lack b [] low h = tt
digits_lack b (d ∷ ds) low h = (digit_lacks b d low h.0, digits_lack b ds low h.1)

fits_digits : (digits : List ℕ) (n : ℕ) → IsNumberOf digits n → FitsWord (Bare digits)
fits_digits digits n h = fits_bare digits (digits_lack 32 digits (omega arith) h.valid.1) (digits_lack 34 digits (omega arith) h.valid.1)

fits_client : (digits : List ℕ) (n : ℕ) → IsNumberOf digits n → FitsWord (client_word digits)
fits_client digits n h = fits_bare (99 ∷ digits) (refl, digits_lack 32 digits (omega arith) h.valid.1) (refl, digits_lack 34 digits (omega arith) h.valid.1)

pub fits_server : (k : ℕ) → k < 2 ^ 64 → FitsWord (server_word k)
fits_server k lt = fits_bare (115 ∷ decimal k) (refl, decimal_lacks 32 k (omega arith) lt) (refl, decimal_lacks 34 k (omega arith) lt)

fits_packet : (number : Option ℕ) → IfSome number (λ n. n < 2 ^ 64) → FitsWord (packet_word number)
fits_packet (Some n) h = fits_decimal n h
fits_packet None h = fits_by (codes "next") refl

-- ## Forms

fits_head : (digits : List ℕ) (head : Head) → IsCountOf digits head → FitsTimes head → AllByRecursion FitsWord (head_words digits head)
fits_head digits Direct h f = (fits_by (codes "farsite") refl, (fits_by (codes "1") refl, (fits_by (codes "direct") refl, tt)))
fits_head digits (Servers servers skew term) h f =
    let n = fits_digits digits servers h in
    let k = fits_decimal skew (omega (arith, f.0)) in
    let t = fits_decimal term (omega (arith, f.2)) in
    (fits_by (codes "farsite") refl, (fits_by (codes "1") refl, (fits_by (codes "servers") refl, (n, (fits_by (codes "skew") refl, (k, (fits_by (codes "term") refl, (t, tt))))))))

some_words : (digits : List ℕ) (head : Head) (line : List ℕ) → AllByRecursion FitsWord (head_words digits head) → line ≡ line_text (head_words digits head) → AreWords (head_words digits head) line
some_words digits Direct line h e = (h.0, h.1, e)
some_words digits (Servers servers skew term) line h e = (h.0, h.1, e)

-- the words of the first line are words
pub are_head_words : (head : Head) (line : List ℕ) → (h : IsHeadLine head line) → AreWords h.words line
are_head_words head line h =
    let f = h.form in
    let P : List Word → Type 0 = λ ws. AreWords ws line in
    subst P (sym f.spelled) (some_words f.digits head line (fits_head f.digits head f.count f.times) (h.text ∙ ap line_text f.spelled))

-- ## Operations and events

pub fits_op : (o : Op) → FitsOp o → AllByRecursion FitsWord (op_words o)
fits_op (op.Lookup dir name) h = (fits_by (codes "lookup") refl, (fits_id dir h.1.0, (fits_name name h.1.1, tt)))
fits_op (op.List dir) h = (fits_by (codes "list") refl, (fits_id dir h.1, tt))
fits_op (op.Kind file) h = (fits_by (codes "kind") refl, (fits_id file h.1, tt))
fits_op (op.Info file) h = (fits_by (codes "info") refl, (fits_id file h.1, tt))
fits_op (op.Create dir name kind id) h = (fits_by (codes "create") refl, (fits_id dir h.1.0, (fits_name name h.1.1, (fits_kind kind, tt))))
fits_op (op.OpenFile file n modes) h = (fits_by (codes "open") refl, (fits_id file h.1.0, (fits_decimal n (omega (arith, h.1.1)), (fits_letters modes.acc_r modes.acc_w modes.acc_d, (fits_dashed modes.deny_r modes.deny_w modes.deny_d, tt)))))
fits_op (op.Close file n) h = (fits_by (codes "close") refl, (fits_id file h.1.0, (fits_decimal n (omega (arith, h.1.1)), tt)))
fits_op (op.Set file n size stamp) h = (fits_by (codes "set") refl, (fits_id file h.1.0, (fits_decimal n (omega (arith, h.1.1)), (fits_decimal size h.1.2, (fits_decimal stamp h.1.3, tt)))))
fits_op (op.Delete dir name) h = (fits_by (codes "delete") refl, (fits_id dir h.1.0, (fits_name name h.1.1, tt)))
fits_op (op.Rename sdir sname ddir dname) h = (fits_by (codes "rename") refl, (fits_id sdir h.1.0, (fits_name sname h.1.1, (fits_id ddir h.1.2, (fits_name dname h.1.3, tt)))))
fits_op (op.Reap file session) h = absurd (no_reap h.0)
  where
    no_reap : false ≡ true → ⊥
    no_reap e = cc

pub fits_field : (f : Field) → FitsField f → AllByRecursion FitsWord (field_words f)
fits_field (field.Life file) h = (fits_by (codes "life") refl, (fits_id file h, tt))
fits_field (field.Child dir name) h = (fits_by (codes "child") refl, (fits_id dir h.0, (fits_name name h.1, tt)))
fits_field (field.Names dir) h = (fits_by (codes "names") refl, (fits_id dir h, tt))
fits_field (field.Info file) h = (fits_by (codes "info") refl, (fits_id file h, tt))
fits_field (field.Own file) h = absurd h
fits_field (field.SelfW file mode) h = (fits_by (codes "self") refl, (fits_id file h, (fits_mode mode, tt)))
fits_field (field.Other file mode) h = (fits_by (codes "other") refl, (fits_id file h, (fits_mode mode, tt)))

fits_words : (head : Head) (w : What) (digits : List ℕ) → IfSome (session_in w) (λ s. IsNumberOf digits s.0) → FitsWhat head w → AllByRecursion FitsWord (what_words digits w)
fits_words head (Join s) digits h k = (fits_by (codes "join") refl, (fits_client digits s.0 h, tt))
fits_words head (Do s o) digits h k = (fits_by (codes "do") refl, (fits_client digits s.0 h, fits_op o k))
fits_words head (Tell number) digits h k = (fits_by (codes "tell") refl, (fits_packet number k.1, tt))
fits_words head (Turn (Client s)) digits h k = (fits_by (codes "turn") refl, (fits_client digits s.0 h, tt))
fits_words head (Turn (Server n)) digits h k = (fits_by (codes "turn") refl, (fits_server n (omega (arith, k.1)), tt))
fits_words head (Recall n f) digits h k = (fits_by (codes "recall") refl, (fits_server n (omega (arith, k.0.1)), fits_field f k.1))
fits_words head (Move n id m) digits h k = (fits_by (codes "move") refl, (fits_server n (omega (arith, k.0.1)), (fits_id id k.1, (fits_server m (omega (arith, k.2.1)), tt))))

fits_what : (head : Head) (w : What) (words : List Word) → IsSpelled head w words → AllByRecursion FitsWord words
fits_what head w words h = subst (AllByRecursion FitsWord) (sym h.spelled) (fits_words head w h.digits h.session h.fits)

-- the words of a line are words
pub are_event_words : (head : Head) (e : Event) (line : List ℕ) → (h : IsLineOf head e line) → AreWords (Bare (decimal e.reading) ∷ h.words) line
are_event_words head e line h = (fits_decimal e.reading (omega (arith, h.reading)), fits_what head e.what h.words h.what, h.text)

pub text_of : (ws : List Word) (line : List ℕ) → AreWords ws line → line ≡ line_text ws
text_of [] line h = absurd h
text_of (w ∷ ws) line h = h.2

-- a line tells what its words tell
pub told_line : (head : Head) (e : Event) (ws : List Word) (line : List ℕ) → AreWords ws line → IsToldEvent head e ws → IsToldLine head e line
told_line head e ws line a h = (ws, h, text_of ws line a)

told_words : (head : Head) (e : Event) (ws : List Word) (line : List ℕ) → IsToldEvent head e ws → line ≡ line_text ws → AreWords ws line
told_words head e ws line h q =
    let are : AreWords (Bare (decimal e.reading) ∷ h.1.0) (line_text ws) = (fits_decimal e.reading (omega (arith, h.0)), fits_what head h.1.2.0 h.1.0 h.1.2.1, ap line_text h.1.1) in
    let P : List Word → Type 0 = λ vs. AreWords vs (line_text ws) in
    subst (AreWords ws) (sym q) (subst P (sym h.1.1) are)

pub told_by_words : (head : Head) (e : Event) (ws : List Word) (line : List ℕ) → AreWords ws line → IsToldLine head e line → IsToldEvent head e ws
told_by_words head e ws line a h =
    let P : List Word → Type 0 = λ vs. IsToldEvent head e vs in
    subst P (words_one h.0 ws line (told_words head e h.0 line h.1 h.2) a) h.1

-- a line of no words tells nothing
pub told_has_words : (head : Head) (e : Event) (line : List ℕ) → ((ws : List Word) → AreWords ws line → ⊥) → IsToldLine head e line → ⊥
told_has_words head e line none h = none h.0 (told_words head e h.0 line h.1 h.2)

-- the first line tells what its words tell
pub told_head_line : (head : Head) (ws : List Word) (line : List ℕ) → AreWords ws line → IsToldHead head ws → IsToldHeadLine head line
told_head_line head ws line a h = (ws, h, text_of ws line a)

told_head_words : (head : Head) (ws : List Word) (line : List ℕ) → IsToldHead head ws → line ≡ line_text ws → AreWords ws line
told_head_words head ws line h q = are_head_words h.0 line (record { words = ws; form = h.1; text = q })

pub told_head_by_words : (head : Head) (ws : List Word) (line : List ℕ) → AreWords ws line → IsToldHeadLine head line → IsToldHead head ws
told_head_by_words head ws line a h =
    let P : List Word → Type 0 = λ vs. IsToldHead head vs in
    subst P (words_one h.0 ws line (told_head_words head h.0 line h.1 h.2) a) h.1

-- a first line of no words tells no form
pub told_head_has_words : (head : Head) (line : List ℕ) → ((ws : List Word) → AreWords ws line → ⊥) → IsToldHeadLine head line → ⊥
told_head_has_words head line none h = none h.0 (told_head_words head h.0 line h.1 h.2)
