-- What holds of each reader: what it takes, where it stops, and how bytes that stop it too early go on.
use Rattle.std.proofs.Common.{◌≡◌, ℕ, zero, suc, ◌<◌, ◌⊎◌, inl, inr, Bool, true, false, cond, List, [], ◌∷◌, ◌++◌, length, Result, Ok, Err, refl, sym, ap, subst, ◌∙◌, append_assoc, arith}
use Rattle.std.proofs.lemmas.List.{append-nil}
use Rattle.fs_wire.specs.declared.fault.Fault.{Fault}
use Rattle.fs_wire.specs.Ranges.{IsBytes}
use Rattle.fs_wire.specs.Readers.{◌>>=◌, Reader, stop, then_at, map_at, always_at, either_at, one_at}

pub IsBytes-right : (a b : List ℕ) → IsBytes (a ++ b) → IsBytes b
IsBytes-right [] b h = h
IsBytes-right (x ∷ a) b h = IsBytes-right a b (λ i. h (suc i))

pub IsBytes-left : (a b : List ℕ) → IsBytes (a ++ b) → IsBytes a
IsBytes-left [] b h i = omega arith
IsBytes-left (x ∷ a) b h zero = h 0
IsBytes-left (x ∷ a) b h (suc i) = IsBytes-left a b (λ j. h (suc j)) i

pub IsBytes-both : (a b : List ℕ) → IsBytes a → IsBytes b → IsBytes (a ++ b)
IsBytes-both [] b h k i = k i
IsBytes-both (x ∷ a) b h k zero = h 0
IsBytes-both (x ∷ a) b h k (suc i) = IsBytes-both a b (λ j. h (suc j)) k i

pub IsBytes-none : IsBytes []
IsBytes-none i = omega arith

pub IsBytes-one : (b : ℕ) → b < 256 → IsBytes (b ∷ [])
IsBytes-one b lt zero = lt
IsBytes-one b lt (suc i) = omega arith

-- ---- steps that fail or not

pub bind_ok : {A B : Type 0} (r : Result A Fault) (f : A → Result B Fault) (y : B) → (r >>= f) ≡ Ok y → (x : A) × (r ≡ Ok x) × (f x ≡ Ok y)
bind_ok (Ok x) f y e = (x, refl, e)
bind_ok (Err d) f y e = absurd cc

-- the first step failed, or the second
pub bind_err : {A B : Type 0} (r : Result A Fault) (f : A → Result B Fault) (e : Fault) → (r >>= f) ≡ Err e → (r ≡ Err e) ⊎ ((x : A) × (r ≡ Ok x) × (f x ≡ Err e))
bind_err (Ok x) f e h = inr (x, refl, h)
bind_err (Err d) f e h = inl cc

abbrev done : {A : Type 0} → A → Result A Fault
done x = Ok x

pub ok_is : {A : Type 0} (x y : A) → done x ≡ done y → x ≡ y
ok_is x y e = cc

-- ---- what holds of a reader

-- what was taken, and that it is taken again whatever follows
pub record Took {A : Type 0} (read : Reader A) (Q : A → List ℕ → Type 0) (bytes : List ℕ) (x : A × List ℕ) : Type 0 where
  pub text : List ℕ
  pub is : Q x.0 text
  pub parts : bytes ≡ text ++ x.1
  pub again : (more : List ℕ) → read (text ++ more) ≡ Ok (x.0, more)

-- where reading stopped: it stops there with nothing more, and with anything more behind the same byte
pub record Stopped {A : Type 0} (read : Reader A) (bytes : List ℕ) (f : Fault) : Type 0 where
  pub front : List ℕ
  pub rest : List ℕ
  pub parts : bytes ≡ front ++ rest
  pub left : f.left ≡ length rest
  pub begins : read front ≡ stop f.tag 0
  pub past : (b : ℕ) (others : List ℕ) → rest ≡ b ∷ others → (more : List ℕ) → read (front ++ b ∷ more) ≡ stop f.tag (length (b ∷ more))

-- some bytes behind these complete what is read
pub record GoesOn {A : Type 0} (read : Reader A) (bytes : List ℕ) : Type 0 where
  pub text : List ℕ
  pub text_fits : IsBytes text
  pub value : A
  pub whole : read (bytes ++ text) ≡ Ok (value, [])

pub record IsReader {A : Type 0} (read : Reader A) (Q : A → List ℕ → Type 0) : Type 0 where
  pub took : (bytes : List ℕ) (x : A × List ℕ) → IsBytes bytes → read bytes ≡ Ok x → Took read Q bytes x
  pub stopped : (bytes : List ℕ) (f : Fault) → IsBytes bytes → read bytes ≡ Err f → Stopped read bytes f
  pub goes_on : (bytes : List ℕ) (f : Fault) → IsBytes bytes → read bytes ≡ Err f → f.left ≡ 0 → GoesOn read bytes

pub rest_fits : (bytes text rest : List ℕ) → bytes ≡ text ++ rest → IsBytes bytes → IsBytes rest
rest_fits bytes text rest e fits = IsBytes-right text rest (subst (λ (z : List ℕ). IsBytes z) e fits)

none_left : (a b : List ℕ) → [] ≡ a ++ b → b ≡ []
none_left [] b e = sym e
none_left (x ∷ a) b e = absurd cc

-- ---- one after the other

module _ {A B : Type 0} (read : Reader A) (more : A → Reader B) (Q : A → List ℕ → Type 0) (R : B → List ℕ → Type 0) (first : IsReader read Q) (second : (v : A) (t : List ℕ) → Q v t → IsReader (more v) (λ w u. R w (t ++ u))) where
  abbrev go : A × List ℕ → Result (B × List ℕ) Fault
  go x = more x.0 x.1

  then-took : (bytes : List ℕ) (y : B × List ℕ) → IsBytes bytes → (read bytes >>= go) ≡ Ok y → Took (then_at read more) R bytes y
  unfolding then_at
  then-took bytes y fits e =
      let a = bind_ok (read bytes) go y e in
      let t = first.took bytes a.0 fits a.1 in
      let u = (second a.0.0 t.text t.is).took a.0.1 y (rest_fits bytes t.text a.0.1 t.parts fits) a.2 in
      record {
        text = t.text ++ u.text;
        is = u.is;
        parts = t.parts ∙ ap (λ (z : List ℕ). t.text ++ z) u.parts ∙ sym (append_assoc t.text u.text y.1);
        again = λ m. ap (λ (z : List ℕ). read z >>= go) (append_assoc t.text u.text m) ∙ ap (λ (z : Result (A × List ℕ) Fault). z >>= go) (t.again (u.text ++ m)) ∙ u.again m;
      }

  stopped-first : (bytes : List ℕ) (f : Fault) → Stopped read bytes f → Stopped (then_at read more) bytes f
  unfolding then_at
  stopped-first bytes f s = record {
    front = s.front;
    rest = s.rest;
    parts = s.parts;
    left = s.left;
    begins = ap (λ (z : Result (A × List ℕ) Fault). z >>= go) s.begins;
    past = λ b others e m. ap (λ (z : Result (A × List ℕ) Fault). z >>= go) (s.past b others e m);
  }

  stopped-second : (bytes : List ℕ) (f : Fault) (x : A × List ℕ) → (t : Took read Q bytes x) → Stopped (more x.0) x.1 f → Stopped (then_at read more) bytes f
  unfolding then_at
  stopped-second bytes f x t s = record {
    front = t.text ++ s.front;
    rest = s.rest;
    parts = t.parts ∙ ap (λ (z : List ℕ). t.text ++ z) s.parts ∙ sym (append_assoc t.text s.front s.rest);
    left = s.left;
    begins = ap (λ (z : Result (A × List ℕ) Fault). z >>= go) (t.again s.front) ∙ s.begins;
    past = λ b others e m. ap (λ (z : List ℕ). read z >>= go) (append_assoc t.text s.front (b ∷ m)) ∙ ap (λ (z : Result (A × List ℕ) Fault). z >>= go) (t.again (s.front ++ b ∷ m)) ∙ s.past b others e m;
  }

  then-stopped : (bytes : List ℕ) (f : Fault) → IsBytes bytes → (read bytes >>= go) ≡ Err f → Stopped (then_at read more) bytes f
  then-stopped bytes f fits e =
      elim (bind_err (read bytes) go f e) [
        | inl a ↦ stopped-first bytes f (first.stopped bytes f fits a)
        | inr a ↦
            let t = first.took bytes a.0 fits a.1 in
            stopped-second bytes f a.0 t ((second a.0.0 t.text t.is).stopped a.0.1 f (rest_fits bytes t.text a.0.1 t.parts fits) a.2)
      ]

  -- the second goes on after nothing
  from_nothing : (bytes : List ℕ) (text : List ℕ) (v : A) → IsBytes bytes → IsBytes text → read (bytes ++ text) ≡ Ok (v, []) → (z : Result (B × List ℕ) Fault) → more v [] ≡ z → GoesOn (then_at read more) bytes
  unfolding then_at
  from_nothing bytes text v fits text_fits e (Ok y) h =
      let t = first.took (bytes ++ text) (v, []) (IsBytes-both bytes text fits text_fits) e in
      let u = (second v t.text t.is).took [] y IsBytes-none h in
      let over : y.1 ≡ [] = none_left u.text y.1 u.parts in
      record {
        text = text;
        text_fits = text_fits;
        value = y.0;
        whole = ap (λ (z : Result (A × List ℕ) Fault). z >>= go) e ∙ h ∙ ap (λ (z : List ℕ). done (y.0, z)) over;
      }
  from_nothing bytes text v fits text_fits e (Err f) h =
      let t = first.took (bytes ++ text) (v, []) (IsBytes-both bytes text fits text_fits) e in
      let s = (second v t.text t.is).stopped [] f IsBytes-none h in
      let over : s.rest ≡ [] = none_left s.front s.rest s.parts in
      let g = (second v t.text t.is).goes_on [] f IsBytes-none h (s.left ∙ ap (λ (z : List ℕ). length z) over) in
      let all : bytes ++ (text ++ g.text) ≡ t.text ++ g.text = sym (append_assoc bytes text g.text) ∙ ap (λ (z : List ℕ). z ++ g.text) (t.parts ∙ append-nil t.text) in
      record {
        text = text ++ g.text;
        text_fits = IsBytes-both text g.text text_fits g.text_fits;
        value = g.value;
        whole = ap (λ (z : List ℕ). read z >>= go) all ∙ ap (λ (z : Result (A × List ℕ) Fault). z >>= go) (t.again g.text) ∙ g.whole;
      }

  then-goes_on : (bytes : List ℕ) (f : Fault) → IsBytes bytes → (read bytes >>= go) ≡ Err f → f.left ≡ 0 → GoesOn (then_at read more) bytes
  unfolding then_at
  then-goes_on bytes f fits e left =
      elim (bind_err (read bytes) go f e) [
        | inl a ↦
            let g = first.goes_on bytes f fits a left in
            from_nothing bytes g.text g.value fits g.text_fits g.whole (more g.value []) refl
        | inr a ↦
            let t = first.took bytes a.0 fits a.1 in
            let g = (second a.0.0 t.text t.is).goes_on a.0.1 f (rest_fits bytes t.text a.0.1 t.parts fits) a.2 left in
            let all : bytes ++ g.text ≡ t.text ++ (a.0.1 ++ g.text) = ap (λ (z : List ℕ). z ++ g.text) t.parts ∙ append_assoc t.text a.0.1 g.text in
            record {
              text = g.text;
              text_fits = g.text_fits;
              value = g.value;
              whole = ap (λ (z : List ℕ). read z >>= go) all ∙ ap (λ (z : Result (A × List ℕ) Fault). z >>= go) (t.again (a.0.1 ++ g.text)) ∙ g.whole;
            }
      ]

  pub then-reader : IsReader (then_at read more) R
  unfolding then_at
  then-reader = record { took = then-took; stopped = then-stopped; goes_on = then-goes_on }

-- ---- as something else

module _ {A B : Type 0} (make : A → B) (read : Reader A) (Q : A → List ℕ → Type 0) (R : B → List ℕ → Type 0) (first : IsReader read Q) (is : (v : A) (t : List ℕ) → Q v t → R (make v) t) where
  abbrev made : A × List ℕ → Result (B × List ℕ) Fault
  made x = Ok (make x.0, x.1)

  map-took : (bytes : List ℕ) (y : B × List ℕ) → IsBytes bytes → (read bytes >>= made) ≡ Ok y → Took (map_at make read) R bytes y
  unfolding map_at
  map-took bytes y fits e =
      let a = bind_ok (read bytes) made y e in
      let t = first.took bytes a.0 fits a.1 in
      let whole : Took (map_at make read) R bytes (make a.0.0, a.0.1) = record {
        text = t.text;
        is = is a.0.0 t.text t.is;
        parts = t.parts;
        again = λ m. ap (λ (z : Result (A × List ℕ) Fault). z >>= made) (t.again m);
      } in
      subst (λ (z : B × List ℕ). Took (map_at make read) R bytes z) (ok_is (make a.0.0, a.0.1) y a.2) whole

  map-failed : (r : Result (A × List ℕ) Fault) (f : Fault) → (r >>= made) ≡ Err f → r ≡ Err f
  map-failed (Ok x) f e = absurd cc
  map-failed (Err d) f e = cc

  map-stopped : (bytes : List ℕ) (f : Fault) → IsBytes bytes → (read bytes >>= made) ≡ Err f → Stopped (map_at make read) bytes f
  unfolding map_at
  map-stopped bytes f fits e =
      let s = first.stopped bytes f fits (map-failed (read bytes) f e) in
      record {
        front = s.front;
        rest = s.rest;
        parts = s.parts;
        left = s.left;
        begins = ap (λ (z : Result (A × List ℕ) Fault). z >>= made) s.begins;
        past = λ b others h m. ap (λ (z : Result (A × List ℕ) Fault). z >>= made) (s.past b others h m);
      }

  map-goes_on : (bytes : List ℕ) (f : Fault) → IsBytes bytes → (read bytes >>= made) ≡ Err f → f.left ≡ 0 → GoesOn (map_at make read) bytes
  unfolding map_at
  map-goes_on bytes f fits e left =
      let g = first.goes_on bytes f fits (map-failed (read bytes) f e) left in
      record { text = g.text; text_fits = g.text_fits; value = make g.value; whole = ap (λ (z : Result (A × List ℕ) Fault). z >>= made) g.whole }

  pub map-reader : IsReader (map_at make read) R
  unfolding map_at
  map-reader = record { took = map-took; stopped = map-stopped; goes_on = map-goes_on }

-- ---- nothing, one or the other

pub always-reader : {A : Type 0} (x : A) (R : A → List ℕ → Type 0) → R x [] → IsReader (always_at x) R
unfolding always_at
always-reader x R is = record {
  took = λ bytes y fits e. subst (λ (z : _). Took (λ b. Ok (x, b)) R bytes z) (ok_is (x, bytes) y e) (record { text = []; is = is; parts = refl; again = λ m. refl });
  stopped = λ bytes f fits e. absurd cc;
  goes_on = λ bytes f fits e left. absurd cc;
}

pub either-reader : {A : Type 0} (b : Bool) (first second : Reader A) (R : A → List ℕ → Type 0) → (b ≡ true → IsReader first R) → (b ≡ false → IsReader second R) → IsReader (either_at b first second) R
unfolding either_at
either-reader true first second R h k = h refl
either-reader false first second R h k = k refl

pub weaker : {A : Type 0} (read : Reader A) (Q R : A → List ℕ → Type 0) → IsReader read Q → ((v : A) (t : List ℕ) → Q v t → R v t) → IsReader read R
weaker read Q R first is = record {
  took = λ bytes x fits e. let t = first.took bytes x fits e in record { text = t.text; is = is x.0 t.text t.is; parts = t.parts; again = t.again };
  stopped = first.stopped;
  goes_on = first.goes_on;
}

-- ---- one byte

-- a byte that passes the test, and its text
pub record IsOne (test : ℕ → Bool) (b : ℕ) (text : List ℕ) : Type 0 where
  pub text_is : text ≡ b ∷ []
  pub below : b < 256
  pub passes : test b ≡ true

if_ok : {A : Type 0} (t : Bool) (x : A) (f : Fault) (y : A) → cond t (Ok x) (Err f) ≡ Ok y → (t ≡ true) × (x ≡ y)
if_ok true x f y e = (refl, cc)
if_ok false x f y e = absurd cc

if_err : {A : Type 0} (t : Bool) (x : A) (f d : Fault) → cond t (Ok x) (Err f) ≡ Err d → (t ≡ false) × (f ≡ d)
if_err true x f d e = absurd cc
if_err false x f d e = (refl, cc)

one-took : (tag : Bool) (test : ℕ → Bool) (bytes : List ℕ) (x : ℕ × List ℕ) → IsBytes bytes → one_at tag test bytes ≡ Ok x → Took (one_at tag test) (IsOne test) bytes x
unfolding one_at
one-took tag test [] x fits e = absurd cc
one-took tag test (b ∷ bytes) x fits e =
    let g = if_ok (test b) (b, bytes) (record { left = length (b ∷ bytes); tag = tag }) x e in
    subst (λ (z : ℕ × List ℕ). Took (one_at tag test) (IsOne test) (b ∷ bytes) z) g.1 (record {
      text = b ∷ [];
      is = record { text_is = refl; below = fits 0; passes = g.0 };
      parts = refl;
      again = λ m. rw g.0 refl;
    })

one-stopped : (tag : Bool) (test : ℕ → Bool) (bytes : List ℕ) (f : Fault) → IsBytes bytes → one_at tag test bytes ≡ Err f → Stopped (one_at tag test) bytes f
unfolding one_at
one-stopped tag test [] f fits e =
    let g : (record { left = 0; tag = tag }) ≡ f = cc in
    subst (λ (z : Fault). Stopped (one_at tag test) [] z) g (record { front = []; rest = []; parts = refl; left = refl; begins = refl; past = λ b others h m. absurd cc })
one-stopped tag test (b ∷ bytes) f fits e =
    let g = if_err (test b) (b, bytes) (record { left = length (b ∷ bytes); tag = tag }) f e in
    subst (λ (z : Fault). Stopped (one_at tag test) (b ∷ bytes) z) g.1 (record {
      front = [];
      rest = b ∷ bytes;
      parts = refl;
      left = refl;
      begins = refl;
      past = λ c others h m. let same : b ≡ c = cc in let fails : test c ≡ false = subst (λ (z : ℕ). test z ≡ false) same g.0 in rw fails refl;
    })

one-goes_on : (tag : Bool) (test : ℕ → Bool) (a : ℕ) → a < 256 → test a ≡ true → (bytes : List ℕ) (f : Fault) → one_at tag test bytes ≡ Err f → f.left ≡ 0 → GoesOn (one_at tag test) bytes
unfolding one_at
one-goes_on tag test a lt passes [] f e left = record { text = a ∷ []; text_fits = IsBytes-one a lt; value = a; whole = rw passes refl }
one-goes_on tag test a lt passes (b ∷ bytes) f e left =
    let g = if_err (test b) (b, bytes) (record { left = length (b ∷ bytes); tag = tag }) f e in
    let much : length (b ∷ bytes) ≡ 0 = ap (λ (z : Fault). z.left) g.1 ∙ left in
    absurd (omega (arith, much))

-- a byte that passes a test, where some byte passes it
pub one-reader : (tag : Bool) (test : ℕ → Bool) (a : ℕ) → a < 256 → test a ≡ true → IsReader (one_at tag test) (IsOne test)
one-reader tag test a lt passes = record {
  took = one-took tag test;
  stopped = one-stopped tag test;
  goes_on = λ bytes f fits e left. one-goes_on tag test a lt passes bytes f e left;
}
