-- The clauses of the two calls that read, from what reading from left to right answers.
use Rattle.std.proofs.Common.{◌≡◌, ℕ, zero, suc, ◌-◌, ◌<◌, ◌≤◌, Bool, true, false, List, [], ◌∷◌, ◌++◌, length, get_or, take, drop, Result, Ok, Err, refl, sym, ap, subst, ◌∙◌, arith, length-append}
use Rattle.std.specs.Prelude.{IfOk, IsErrOf}
use Rattle.std.proofs.lemmas.List.{append-nil, take_at, length-drop}
use Rattle.fs_wire.specs.declared.fault.Fault.{Fault}
use Rattle.fs_msg.specs.declared.msg.Msg.{Msg}
use Rattle.fs_msg.specs.declared.error.MsgError.{MsgError}
use Rattle.fs_msg.specs.declared.error.MsgError.TheVariants as errors
use Rattle.fs_wire.specs.Ranges.{IsBytes}
use Rattle.fs_msg.specs.Spelling.{message}
use Rattle.fs_msg.specs.Ranges.{FitsMessage}
use Rattle.fs_msg.specs.Tags.{tags_of}
use Rattle.fs_msg.specs.Prefixes.{IsMessage, IsProperMessagePrefix, IsTagPlace, GoWrongAt}
use Rattle.fs_msg.specs.Reading.{message_at}
use Rattle.fs_msg.specs.Answers.{IsOkOrMemory, IsErrOrMemory, IsAnswer, error_at, with_length, unless_left, as_whole}
use Rattle.fs_msg.proofs.Exact.{again, whole-again, was-read, front-read, too-few, wrong, stops, cut-short}

-- ---- from the call's answer to the answer of reading, and back

err-is : {A : Type 0} (r s : Result A MsgError) (e : MsgError) → (e ≡ errors.Memory → ⊥) → IsAnswer r s → IsErrOf r e → s ≡ Err e
err-is (Ok x) s e other a h = absurd cc
err-is (Err errors.Memory) s e other a h = let same : errors.Memory ≡ e = cc in absurd (other (sym same))
err-is (Err errors.Short) s e other a h = cc
err-is (Err (errors.Tag at)) s e other a h = cc
err-is (Err (errors.Range at)) s e other a h = cc
err-is (Err (errors.Trailing at)) s e other a h = cc

is-err : {A : Type 0} (r s : Result A MsgError) (e : MsgError) → IsAnswer r s → s ≡ Err e → IsErrOrMemory r e
is-err (Ok x) s e a h = let both : s ≡ Ok x = a in absurd cc
is-err (Err errors.Memory) s e a h = tt
is-err (Err errors.Short) s e a h = cc
is-err (Err (errors.Tag at)) s e a h = cc
is-err (Err (errors.Range at)) s e a h = cc
is-err (Err (errors.Trailing at)) s e a h = cc

is-ok : {A : Type 0} (r s : Result A MsgError) (x : A) → IsAnswer r s → s ≡ Ok x → IsOkOrMemory r x
is-ok (Ok y) s x a h = cc
is-ok (Err errors.Memory) s x a h = refl
is-ok (Err errors.Short) s x a h = absurd cc
is-ok (Err (errors.Tag at)) s x a h = absurd cc
is-ok (Err (errors.Range at)) s x a h = absurd cc
is-ok (Err (errors.Trailing at)) s x a h = absurd cc

-- ---- errors of places

short-of : (len left : ℕ) (tag : Bool) → error_at len left tag ≡ errors.Short → left ≡ 0
short-of len zero tag e = refl
short-of len (suc n) true e = absurd cc
short-of len (suc n) false e = absurd cc

record IsAt (len left at : ℕ) : Type 0 where
  some : 0 < left
  place : len - left ≡ at

tag-of : (len left : ℕ) (tag : Bool) (at : ℕ) → error_at len left tag ≡ errors.Tag at → IsAt len left at × (tag ≡ true)
tag-of len zero tag at e = absurd cc
tag-of len (suc n) true at e = (record { some = omega arith; place = cc }, refl)
tag-of len (suc n) false at e = absurd cc

range-of : (len left : ℕ) (tag : Bool) (at : ℕ) → error_at len left tag ≡ errors.Range at → IsAt len left at × (tag ≡ false)
range-of len zero tag at e = absurd cc
range-of len (suc n) true at e = absurd cc
range-of len (suc n) false at e = (record { some = omega arith; place = cc }, refl)

not-trailing : (len left : ℕ) (tag : Bool) (at : ℕ) → error_at len left tag ≡ errors.Trailing at → ⊥
not-trailing len zero tag at e = absurd cc
not-trailing len (suc n) true at e = absurd cc
not-trailing len (suc n) false at e = absurd cc

at-tag : (len left : ℕ) (tag : Bool) (at : ℕ) → 0 < left → len - left ≡ at → tag ≡ true → error_at len left tag ≡ errors.Tag at
at-tag len zero tag at some place h = absurd (omega arith)
at-tag len (suc n) true at some place h = ap (λ (z : ℕ). errors.Tag z) place
at-tag len (suc n) false at some place h = absurd cc

at-range : (len left : ℕ) (tag : Bool) (at : ℕ) → 0 < left → len - left ≡ at → (tag ≡ true → ⊥) → error_at len left tag ≡ errors.Range at
at-range len zero tag at some place h = absurd (omega arith)
at-range len (suc n) true at some place h = absurd (h refl)
at-range len (suc n) false at some place h = ap (λ (z : ℕ). errors.Range z) place

-- ---- an answer that is an error where reading stops, and there alone but for bytes behind a message

pub record Answers {A : Type 0} (bytes : List ℕ) (s : Result A MsgError) : Type 0 where
  pub from : (e : MsgError) → ((at : ℕ) → e ≡ errors.Trailing at → ⊥) → s ≡ Err e → (f : Fault) × (message_at bytes ≡ Err f) × (error_at (length bytes) f.left f.tag ≡ e)
  pub to : (f : Fault) → message_at bytes ≡ Err f → s ≡ Err (error_at (length bytes) f.left f.tag)

-- what an error tells of the bytes, and which error they have
pub record TellsFaults {A : Type 0} (bytes : List ℕ) (r : Result A MsgError) : Type 0 where
  pub short : IsErrOf r errors.Short → IsProperMessagePrefix bytes
  pub cut : IsProperMessagePrefix bytes → IsErrOrMemory r errors.Short
  pub tag : (at : ℕ) → IsErrOf r (errors.Tag at) → GoWrongAt bytes at × IsTagPlace (take at bytes)
  pub at_tag : (at : ℕ) → GoWrongAt bytes at → IsTagPlace (take at bytes) → IsErrOrMemory r (errors.Tag at)
  pub range : (at : ℕ) → IsErrOf r (errors.Range at) → GoWrongAt bytes at × (IsTagPlace (take at bytes) → ⊥)
  pub at_other : (at : ℕ) → GoWrongAt bytes at → (IsTagPlace (take at bytes) → ⊥) → IsErrOrMemory r (errors.Range at)

module _ {A : Type 0} (bytes : List ℕ) (fits : IsBytes bytes) (s : Result A MsgError) (answers : Answers bytes s) (r : Result A MsgError) (given : IsAnswer r s) where
  short : IsErrOf r errors.Short → IsProperMessagePrefix bytes
  short h =
      let a = answers.from errors.Short (λ at k. absurd cc) (err-is r s errors.Short (λ k. absurd cc) given h) in
      too-few bytes a.0 fits a.1 (short-of (length bytes) a.0.left a.0.tag a.2)

  cut : IsProperMessagePrefix bytes → IsErrOrMemory r errors.Short
  cut p = is-err r s errors.Short given (answers.to (record { left = 0; tag = get_or (tags_of p.whole) (length bytes) false }) (cut-short bytes p))

  tag : (at : ℕ) → IsErrOf r (errors.Tag at) → GoWrongAt bytes at × IsTagPlace (take at bytes)
  tag at h =
      let a = answers.from (errors.Tag at) (λ k e. absurd cc) (err-is r s (errors.Tag at) (λ k. absurd cc) given h) in
      let t = tag-of (length bytes) a.0.left a.0.tag at a.2 in
      let w = wrong bytes a.0 fits a.1 t.0.some at t.0.place in
      (w.go, w.place t.1)

  range : (at : ℕ) → IsErrOf r (errors.Range at) → GoWrongAt bytes at × (IsTagPlace (take at bytes) → ⊥)
  range at h =
      let a = answers.from (errors.Range at) (λ k e. absurd cc) (err-is r s (errors.Range at) (λ k. absurd cc) given h) in
      let t = range-of (length bytes) a.0.left a.0.tag at a.2 in
      let w = wrong bytes a.0 fits a.1 t.0.some at t.0.place in
      (w.go, λ p. let yes = w.other p in let not_so = t.1 in absurd cc)

  is_tag : (at : ℕ) → GoWrongAt bytes at → IsTagPlace (take at bytes) → IsErrOrMemory r (errors.Tag at)
  is_tag at g p =
      let k = stops bytes at fits g in
      is-err r s (errors.Tag at) given (answers.to k.fault k.read ∙ ap (λ (z : MsgError). Err z) (at-tag (length bytes) k.fault.left k.fault.tag at k.some k.place (k.tag p)))

  is_other : (at : ℕ) → GoWrongAt bytes at → (IsTagPlace (take at bytes) → ⊥) → IsErrOrMemory r (errors.Range at)
  is_other at g p =
      let k = stops bytes at fits g in
      is-err r s (errors.Range at) given (answers.to k.fault k.read ∙ ap (λ (z : MsgError). Err z) (at-range (length bytes) k.fault.left k.fault.tag at k.some k.place (λ h. p (k.other h))))

  pub faults_told : TellsFaults bytes r
  faults_told = record { short = short; cut = cut; tag = tag; at_tag = is_tag; range = range; at_other = is_other }

-- ---- a message at the front

front-from : (bytes : List ℕ) (z : Result (Msg × List ℕ) Fault) (e : MsgError) → with_length bytes z ≡ Err e → (f : Fault) × (z ≡ Err f) × (error_at (length bytes) f.left f.tag ≡ e)
front-from bytes (Ok x) e h = absurd cc
front-from bytes (Err f) e h = (f, refl, cc)

pub front-answers : (bytes : List ℕ) → Answers bytes (with_length bytes (message_at bytes))
front-answers bytes = record {
  from = λ e other h. front-from bytes (message_at bytes) e h;
  to = λ f h. ap (λ (z : Result (Msg × List ℕ) Fault). with_length bytes z) h;
}

front-ok : (bytes : List ℕ) (z : Result (Msg × List ℕ) Fault) (y : Msg × ℕ) → with_length bytes z ≡ Ok y → (x : Msg × List ℕ) × (z ≡ Ok x) × ((x.0, length bytes - length x.1) ≡ y)
front-ok bytes (Ok x) y h = (x, refl, cc)
front-ok bytes (Err f) y h = absurd cc

abbrev IsFound : List ℕ → Msg × ℕ → Type 0
IsFound bytes x = FitsMessage x.0 × (x.1 ≤ length bytes) × (take x.1 bytes ≡ message x.0)

found-at : (bytes : List ℕ) → IsBytes bytes → (y : Msg × ℕ) → with_length bytes (message_at bytes) ≡ Ok y → IsFound bytes y
found-at bytes fits y h =
    let a = front-ok bytes (message_at bytes) y h in
    let r = was-read bytes a.0 fits a.1 in
    let all = length-append (message a.0.0) a.0.1 in
    let len = ap length r.parts in
    let place : length (message a.0.0) ≡ length bytes - length a.0.1 = omega (arith, all, len) in
    let taken : take (length bytes - length a.0.1) bytes ≡ message a.0.0 = ap (λ (z : List ℕ). take (length bytes - length a.0.1) z) r.parts ∙ take_at (message a.0.0) a.0.1 (length bytes - length a.0.1) place in
    subst (λ (z : Msg × ℕ). IsFound bytes z) a.2 (r.fits, omega arith, taken)

pub front-found : (bytes : List ℕ) → IsBytes bytes → (r : Result (Msg × ℕ) MsgError) → IsAnswer r (with_length bytes (message_at bytes)) → IfOk r (λ x. FitsMessage x.0 × (x.1 ≤ length bytes) × (take x.1 bytes ≡ message x.0))
front-found bytes fits (Ok y) given = found-at bytes fits y given
front-found bytes fits (Err e) given = tt

pub front-only : (bytes : List ℕ) (r : Result (Msg × ℕ) MsgError) → IsAnswer r (with_length bytes (message_at bytes)) → (m : Msg) (rest : List ℕ) → FitsMessage m → bytes ≡ message m ++ rest → IsOkOrMemory r (m, length (message m))
front-only bytes r given m rest fits parts =
    let read : message_at bytes ≡ Ok (m, rest) = ap (λ (z : List ℕ). message_at z) parts ∙ again m rest fits in
    let place : length bytes - length rest ≡ length (message m) = omega (arith, ap length parts, length-append (message m) rest) in
    is-ok r (with_length bytes (message_at bytes)) (m, length (message m)) given (ap (λ (z : Result (Msg × List ℕ) Fault). with_length bytes z) read ∙ ap (λ (z : ℕ). Ok (m, z)) place)

pub front-trailing : (bytes : List ℕ) (r : Result (Msg × ℕ) MsgError) → IsAnswer r (with_length bytes (message_at bytes)) → (at : ℕ) → IsErrOf r (errors.Trailing at) → ⊥
front-trailing bytes r given at h =
    let a = front-from bytes (message_at bytes) (errors.Trailing at) (err-is r (with_length bytes (message_at bytes)) (errors.Trailing at) (λ k. absurd cc) given h) in
    not-trailing (length bytes) a.0.left a.0.tag at a.2

-- ---- the whole is a message

left-not : (m : Msg) (len left : ℕ) (e : MsgError) → ((at : ℕ) → e ≡ errors.Trailing at → ⊥) → unless_left m len left ≡ Err e → ⊥
left-not m len zero e other h = absurd cc
left-not m len (suc n) e other h = let same : errors.Trailing (len - suc n) ≡ e = cc in other (len - suc n) (sym same)

whole-from : (bytes : List ℕ) (z : Result (Msg × List ℕ) Fault) (e : MsgError) → ((at : ℕ) → e ≡ errors.Trailing at → ⊥) → as_whole bytes z ≡ Err e → (f : Fault) × (z ≡ Err f) × (error_at (length bytes) f.left f.tag ≡ e)
whole-from bytes (Ok x) e other h = absurd (left-not x.0 (length bytes) (length x.1) e other h)
whole-from bytes (Err f) e other h = (f, refl, cc)

pub whole-answers : (bytes : List ℕ) → Answers bytes (as_whole bytes (message_at bytes))
whole-answers bytes = record {
  from = λ e other h. whole-from bytes (message_at bytes) e other h;
  to = λ f h. ap (λ (z : Result (Msg × List ℕ) Fault). as_whole bytes z) h;
}

left-none : (m : Msg) (len : ℕ) (rest : List ℕ) (y : Msg) → unless_left m len (length rest) ≡ Ok y → (rest ≡ []) × (m ≡ y)
left-none m len [] y h = (refl, cc)
left-none m len (b ∷ rest) y h = absurd cc

whole-ok : (bytes : List ℕ) (z : Result (Msg × List ℕ) Fault) (y : Msg) → as_whole bytes z ≡ Ok y → (x : Msg × List ℕ) × (z ≡ Ok x) × (x.1 ≡ []) × (x.0 ≡ y)
whole-ok bytes (Ok x) y h = let a = left-none x.0 (length bytes) x.1 y h in (x, refl, a.0, a.1)
whole-ok bytes (Err f) y h = absurd cc

whole-at : (bytes : List ℕ) → IsBytes bytes → (y : Msg) → as_whole bytes (message_at bytes) ≡ Ok y → FitsMessage y × (bytes ≡ message y)
whole-at bytes fits y h =
    let a = whole-ok bytes (message_at bytes) y h in
    let r = was-read bytes a.0 fits a.1 in
    let all : bytes ≡ message a.0.0 = r.parts ∙ ap (λ (z : List ℕ). message a.0.0 ++ z) a.2 ∙ append-nil (message a.0.0) in
    subst (λ (z : Msg). FitsMessage z × (bytes ≡ message z)) a.3 (r.fits, all)

pub whole-found : (bytes : List ℕ) → IsBytes bytes → (r : Result Msg MsgError) → IsAnswer r (as_whole bytes (message_at bytes)) → IfOk r (λ m. FitsMessage m × (bytes ≡ message m))
whole-found bytes fits (Ok y) given = whole-at bytes fits y given
whole-found bytes fits (Err e) given = tt

pub whole-only : (bytes : List ℕ) (r : Result Msg MsgError) → IsAnswer r (as_whole bytes (message_at bytes)) → (m : Msg) → FitsMessage m → bytes ≡ message m → IsOkOrMemory r m
whole-only bytes r given m fits same = is-ok r (as_whole bytes (message_at bytes)) m given (ap (λ (z : Result (Msg × List ℕ) Fault). as_whole bytes z) (ap (λ (z : List ℕ). message_at z) same ∙ whole-again m fits))

left-some : (m : Msg) (len : ℕ) (left at : ℕ) → unless_left m len left ≡ Err (errors.Trailing at) → (0 < left) × (len - left ≡ at)
left-some m len zero at h = absurd cc
left-some m len (suc n) at h = (omega arith, cc)

left-is : (m : Msg) (len left at : ℕ) → 0 < left → len - left ≡ at → unless_left m len left ≡ Err (errors.Trailing at)
left-is m len zero at some place = absurd (omega arith)
left-is m len (suc n) at some place = ap (λ (z : ℕ). Err (errors.Trailing z)) place

followed-by : (bytes : List ℕ) (z : Result (Msg × List ℕ) Fault) (at : ℕ) → as_whole bytes z ≡ Err (errors.Trailing at) → (x : Msg × List ℕ) × (z ≡ Ok x) × (0 < length x.1) × (length bytes - length x.1 ≡ at)
followed-by bytes (Ok x) at h = let a = left-some x.0 (length bytes) (length x.1) at h in (x, refl, a.0, a.1)
followed-by bytes (Err f) at h = let same : error_at (length bytes) f.left f.tag ≡ errors.Trailing at = cc in absurd (not-trailing (length bytes) f.left f.tag at same)

pub whole-trailing : (bytes : List ℕ) → IsBytes bytes → (r : Result Msg MsgError) → IsAnswer r (as_whole bytes (message_at bytes)) → (at : ℕ) → IsErrOf r (errors.Trailing at) → IsMessage (take at bytes) × (at < length bytes)
whole-trailing bytes fits r given at h =
    let a = followed-by bytes (message_at bytes) at (err-is r (as_whole bytes (message_at bytes)) (errors.Trailing at) (λ k. absurd cc) given h) in
    let f = was-read bytes a.0 fits a.1 in
    let all = length-append (message a.0.0) a.0.1 in
    let len = ap length f.parts in
    let place : length (message a.0.0) ≡ at = omega (arith, all, len, a.3) in
    (record { whole = a.0.0; fits = f.fits; spelled = ap (λ (z : List ℕ). take at z) f.parts ∙ take_at (message a.0.0) a.0.1 at place }, omega (arith, all, len, a.2, a.3))

pub whole-followed : (bytes : List ℕ) (r : Result Msg MsgError) → IsAnswer r (as_whole bytes (message_at bytes)) → (at : ℕ) → at < length bytes → IsMessage (take at bytes) → IsErrOrMemory r (errors.Trailing at)
whole-followed bytes r given at lt m =
    let read = front-read bytes at m in
    let len = length-drop at bytes in
    is-err r (as_whole bytes (message_at bytes)) (errors.Trailing at) given (ap (λ (z : Result (Msg × List ℕ) Fault). as_whole bytes z) read ∙ left-is m.whole (length bytes) (length (drop at bytes)) at (omega (arith, len)) (omega (arith, len)))
