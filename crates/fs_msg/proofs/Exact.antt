-- What reading from left to right answers, in the words of the spelling alone.
use Rattle.std.proofs.Common.{◌≡◌, ℕ, zero, suc, ◌+◌, ◌-◌, ◌<◌, ◌≤◌, ◌⊎◌, inl, inr, Bool, true, false, List, [], ◌∷◌, ◌++◌, length, get_or, take, drop, Result, Ok, Err, refl, sym, ap, subst, ◌∙◌, append_assoc, arith, length-append}
use Rattle.std.proofs.Math.Seq.{take-append-add}
use Rattle.std.proofs.lemmas.Bool.{cases_lt}
use Rattle.std.proofs.lemmas.List.{append-nil, take_at, take_all, take-append-drop}
use Rattle.fs_wire.specs.declared.fault.Fault.{Fault}
use Rattle.fs_msg.specs.declared.msg.Msg.{Msg}
use Rattle.fs_wire.specs.Readers.{stop}
use Rattle.fs_wire.specs.Ranges.{IsBytes}
use Rattle.fs_wire.proofs.Readers.{IsBytes-left, IsBytes-both}
use Rattle.fs_msg.specs.Spelling.{message}
use Rattle.fs_msg.specs.Ranges.{FitsMessage}
use Rattle.fs_msg.specs.Tags.{tags_of}
use Rattle.fs_msg.specs.Prefixes.{IsMessage, BeginsWithNone, IsMessagePrefix, IsProperMessagePrefix, IsTagPlace, GoWrongAt}
use Rattle.fs_msg.specs.Reading.{message_at}
use Rattle.fs_msg.proofs.MessageWires.{message-wire}

pub again : (m : Msg) (rest : List ℕ) → FitsMessage m → message_at (message m ++ rest) ≡ Ok (m, rest)
again m rest fits = (message-wire.says m fits).again rest

pub whole-again : (m : Msg) → FitsMessage m → message_at (message m) ≡ Ok (m, [])
whole-again m fits = ap (λ (z : List ℕ). message_at z) (sym (append-nil (message m))) ∙ again m [] fits

abbrev done : Msg × List ℕ → Result (Msg × List ℕ) Fault
done x = Ok x

-- ---- what was read

pub record Read (bytes : List ℕ) (m : Msg) (rest : List ℕ) : Type 0 where
  pub fits : FitsMessage m
  pub parts : bytes ≡ message m ++ rest

pub was-read : (bytes : List ℕ) (x : Msg × List ℕ) → IsBytes bytes → message_at bytes ≡ Ok x → Read bytes x.0 x.1
was-read bytes x fits e =
    let t = message-wire.reads.took bytes x fits e in
    record { fits = t.is.fits; parts = t.parts ∙ ap (λ (z : List ℕ). z ++ x.1) t.is.text_is }

-- a front of the bytes is a message
pub front-read : (bytes : List ℕ) (k : ℕ) → (f : IsMessage (take k bytes)) → message_at bytes ≡ Ok (f.whole, drop k bytes)
front-read bytes k f = ap (λ (z : List ℕ). message_at z) (sym (take-append-drop k bytes)) ∙ ap (λ (z : List ℕ). message_at (z ++ drop k bytes)) f.spelled ∙ again f.whole (drop k bytes) f.fits

-- ---- what was not read

-- a message goes on behind bytes that are no message
pub proper : (front text : List ℕ) (m : Msg) (tag : Bool) → FitsMessage m → message m ≡ front ++ text → message_at front ≡ stop tag 0 → IsProperMessagePrefix front
proper front [] m tag fits e begins =
    let same : front ≡ message m = sym (e ∙ append-nil front) in
    let both : done (m, []) ≡ stop tag 0 = sym (whole-again m fits) ∙ ap (λ (z : List ℕ). message_at z) (sym same) ∙ begins in
    absurd cc
proper front (b ∷ text) m tag fits e begins = record { whole = m; fits = fits; next = b; rest = text; begins = e }

pub goes-on : (front : List ℕ) (tag : Bool) → IsBytes front → message_at front ≡ stop tag 0 → IsProperMessagePrefix front
goes-on front tag fits begins =
    let g = message-wire.reads.goes_on front (record { left = 0; tag = tag }) fits begins refl in
    let r = was-read (front ++ g.text) (g.value, []) (IsBytes-both front g.text fits g.text_fits) g.whole in
    proper front g.text g.value tag r.fits (sym (r.parts ∙ append-nil (message g.value))) begins

-- the mark of the place behind a front
pub marked : (front : List ℕ) (p : IsProperMessagePrefix front) → message_at front ≡ stop (get_or (tags_of p.whole) (length front) false) 0
marked front p = (message-wire.says p.whole p.fits).marks front p.next p.rest p.begins

abbrev faulty : Bool → Fault
faulty tag = record { left = 0; tag = tag }

tag-is : (s t : Bool) → stop {A = Msg × List ℕ} s 0 ≡ stop t 0 → s ≡ t
tag-is s t e =
    let same : faulty s ≡ faulty t = cc in
    ap (λ (z : Fault). z.tag) same

pub at-tag : (front : List ℕ) → IsBytes front → message_at front ≡ stop true 0 → IsTagPlace front
at-tag front fits begins =
    let p = goes-on front true fits begins in
    record {
      whole = p.whole;
      fits = p.fits;
      rest = p.next ∷ p.rest;
      begins = p.begins;
      tag = tag-is (get_or (tags_of p.whole) (length front) false) true (sym (marked front p) ∙ begins);
    }

marked-by : (front : List ℕ) (tag : Bool) → message_at front ≡ stop tag 0 → (m : Msg) → FitsMessage m → (rest : List ℕ) → message m ≡ front ++ rest → get_or (tags_of m) (length front) false ≡ true → tag ≡ true
marked-by front tag begins m fits [] e mark =
    let both : done (m, []) ≡ stop tag 0 = sym (whole-again m fits) ∙ ap (λ (z : List ℕ). message_at z) (e ∙ append-nil front) ∙ begins in
    absurd cc
marked-by front tag begins m fits (b ∷ rest) e mark = tag-is tag (get_or (tags_of m) (length front) false) (sym begins ∙ (message-wire.says m fits).marks front b rest e) ∙ mark

pub tag-at : (front : List ℕ) (tag : Bool) → message_at front ≡ stop tag 0 → IsTagPlace front → tag ≡ true
tag-at front tag begins t = marked-by front tag begins t.whole t.fits t.rest t.begins t.tag

pub none-begins : (bytes : List ℕ) (f : Fault) → message_at bytes ≡ Err f → BeginsWithNone bytes
none-begins bytes f e k m = let both : done (m.whole, drop k bytes) ≡ Err f = sym (front-read bytes k m) ∙ e in absurd cc

-- no front passes the place where reading stops
too-long : (bytes front rest : List ℕ) (tag : Bool) → bytes ≡ front ++ rest
    → ((b : ℕ) (others : List ℕ) → rest ≡ b ∷ others → (more : List ℕ) → message_at (front ++ b ∷ more) ≡ stop tag (length (b ∷ more)))
    → (k : ℕ) → k ≤ length bytes → length front < k → IsMessagePrefix (take k bytes) → ⊥
too-long bytes front [] tag parts past k le lt f = omega (arith, ap length parts, length-append front [])
too-long bytes front (b ∷ others) tag parts past k le lt f =
    let j = k - length front - 1 in
    let count : k ≡ length front + suc j = omega arith in
    let taken : take k bytes ≡ front ++ b ∷ take j others = ap (λ (z : List ℕ). take k z) parts ∙ ap (λ (z : ℕ). take z (front ++ b ∷ others)) count ∙ take-append-add front (b ∷ others) (suc j) in
    let text : message f.whole ≡ front ++ b ∷ (take j others ++ f.rest) = f.begins ∙ ap (λ (z : List ℕ). z ++ f.rest) taken ∙ append_assoc front (b ∷ take j others) f.rest in
    let both : done (f.whole, []) ≡ stop tag (length (b ∷ (take j others ++ f.rest))) = sym (whole-again f.whole f.fits) ∙ ap (λ (z : List ℕ). message_at z) text ∙ past b others refl (take j others ++ f.rest) in
    absurd cc

-- all that is known where reading stops
pub record Failed (bytes : List ℕ) (f : Fault) : Type 0 where
  pub front : List ℕ
  pub rest : List ℕ
  pub parts : bytes ≡ front ++ rest
  pub left : f.left ≡ length rest
  pub proper : IsProperMessagePrefix front
  pub longest : (k : ℕ) → k ≤ length bytes → IsMessagePrefix (take k bytes) → k ≤ length front
  pub tag : f.tag ≡ true → IsTagPlace front
  pub other : IsTagPlace front → f.tag ≡ true

pub failed : (bytes : List ℕ) (f : Fault) → IsBytes bytes → message_at bytes ≡ Err f → Failed bytes f
failed bytes f fits e =
    let s = message-wire.reads.stopped bytes f fits e in
    let front_fits = IsBytes-left s.front s.rest (subst (λ (z : List ℕ). IsBytes z) s.parts fits) in
    record {
      front = s.front;
      rest = s.rest;
      parts = s.parts;
      left = s.left;
      proper = goes-on s.front f.tag front_fits s.begins;
      longest = λ k le p. elim (cases_lt (length s.front) k) [
        | inl lt ↦ absurd (too-long bytes s.front s.rest f.tag s.parts s.past k le lt p)
        | inr ge ↦ ge
      ];
      tag = λ h. at-tag s.front front_fits (subst (λ (z : Bool). message_at s.front ≡ stop z 0) h s.begins);
      other = tag-at s.front f.tag s.begins;
    }

front-of : (bytes : List ℕ) → IsProperMessagePrefix bytes → IsMessagePrefix bytes
front-of bytes p = record { whole = p.whole; fits = p.fits; rest = p.next ∷ p.rest; begins = p.begins }

-- ---- the bytes are too few

pub too-few : (bytes : List ℕ) (f : Fault) → IsBytes bytes → message_at bytes ≡ Err f → f.left ≡ 0 → IsProperMessagePrefix bytes
too-few bytes f fits e left =
    let d = failed bytes f fits e in
    let over : d.rest ≡ [] = nothing d.rest (sym d.left ∙ left) in
    let same : d.front ≡ bytes = sym (append-nil d.front) ∙ ap (λ (z : List ℕ). d.front ++ z) (sym over) ∙ sym d.parts in
    subst (λ (z : List ℕ). IsProperMessagePrefix z) same d.proper
  where
    nothing : (l : List ℕ) → length l ≡ 0 → l ≡ []
    nothing [] h = refl
    nothing (x ∷ l) h = absurd (omega (arith, h))

-- ---- the bytes go wrong

pub record Wrong (bytes : List ℕ) (at : ℕ) (tag : Bool) : Type 0 where
  pub go : GoWrongAt bytes at
  pub place : tag ≡ true → IsTagPlace (take at bytes)
  pub other : IsTagPlace (take at bytes) → tag ≡ true

pub wrong : (bytes : List ℕ) (f : Fault) → IsBytes bytes → message_at bytes ≡ Err f → 0 < f.left → (at : ℕ) → length bytes - f.left ≡ at → Wrong bytes at f.tag
wrong bytes f fits e some at at-is =
    let d = failed bytes f fits e in
    let all = length-append d.front d.rest in
    let len = ap length d.parts in
    let place : length d.front ≡ at = omega (arith, all, len, d.left, at-is) in
    let taken : take at bytes ≡ d.front = ap (λ (z : List ℕ). take at z) d.parts ∙ take_at d.front d.rest at place in
    record {
      go = record {
        inside = omega (arith, all, len, d.left, at-is);
        none = none-begins bytes f e;
        longest = record {
          within = omega (arith, all, len, d.left, at-is);
          begins = subst (λ (z : List ℕ). IsMessagePrefix z) (sym taken) (front-of d.front d.proper);
          longest = λ k le p. let h = d.longest k le p in omega (arith, h, place);
        };
      };
      place = λ h. subst (λ (z : List ℕ). IsTagPlace z) (sym taken) (d.tag h);
      other = λ p. d.other (subst (λ (z : List ℕ). IsTagPlace z) taken p);
    }

-- the place is one
pub one-place : (bytes : List ℕ) (at k : ℕ) → GoWrongAt bytes at → GoWrongAt bytes k → at ≡ k
one-place bytes at k a b =
    let p = b.longest.longest at a.longest.within a.longest.begins in
    let q = a.longest.longest k b.longest.within b.longest.begins in
    omega (arith, p, q)

-- how bytes that go wrong are read
pub record Stops (bytes : List ℕ) (at : ℕ) : Type 0 where
  pub fault : Fault
  pub read : message_at bytes ≡ Err fault
  pub some : 0 < fault.left
  pub place : length bytes - fault.left ≡ at
  pub tag : IsTagPlace (take at bytes) → fault.tag ≡ true
  pub other : fault.tag ≡ true → IsTagPlace (take at bytes)

some-or-none : (n : ℕ) → (n ≡ 0) ⊎ (0 < n)
some-or-none zero = inl refl
some-or-none (suc n) = inr (omega arith)

no-front : (bytes : List ℕ) (at : ℕ) → GoWrongAt bytes at → IsProperMessagePrefix bytes → ⊥
no-front bytes at g p =
    let all : take (length bytes) bytes ≡ bytes = take_all (length bytes) bytes (omega arith) in
    let h = g.longest.longest (length bytes) (omega arith) (subst (λ (z : List ℕ). IsMessagePrefix z) (sym all) (front-of bytes p)) in
    omega (arith, h, g.inside)

stops-by : (bytes : List ℕ) (at : ℕ) → IsBytes bytes → GoWrongAt bytes at → (z : Result (Msg × List ℕ) Fault) → message_at bytes ≡ z → Stops bytes at
stops-by bytes at fits g (Ok x) e =
    let r = was-read bytes x fits e in
    let front : IsMessage (take (length (message x.0)) bytes) = record { whole = x.0; fits = r.fits; spelled = ap (λ (z : List ℕ). take (length (message x.0)) z) r.parts ∙ take_at (message x.0) x.1 (length (message x.0)) refl } in
    absurd (g.none (length (message x.0)) front)
stops-by bytes at fits g (Err f) e =
    elim (some-or-none f.left) [
      | inl left ↦ absurd (no-front bytes at g (too-few bytes f fits e left))
      | inr some ↦
          let w = wrong bytes f fits e some (length bytes - f.left) refl in
          let same : length bytes - f.left ≡ at = one-place bytes (length bytes - f.left) at w.go g in
          let v = wrong bytes f fits e some at same in
          record { fault = f; read = e; some = some; place = same; tag = v.other; other = v.place }
    ]

pub stops : (bytes : List ℕ) (at : ℕ) → IsBytes bytes → GoWrongAt bytes at → Stops bytes at
stops bytes at fits g = stops-by bytes at fits g (message_at bytes) refl

-- bytes that a message goes on behind are too few
pub cut-short : (bytes : List ℕ) → (p : IsProperMessagePrefix bytes) → message_at bytes ≡ stop (get_or (tags_of p.whole) (length bytes) false) 0
cut-short bytes p = marked bytes p

-- ---- no more is left than was there

pub read-within : (bytes : List ℕ) (x : Msg × List ℕ) → IsBytes bytes → message_at bytes ≡ Ok x → length x.1 ≤ length bytes
read-within bytes x fits e = let r = was-read bytes x fits e in omega (arith, ap length r.parts, length-append (message x.0) x.1)

pub left-within : (bytes : List ℕ) (f : Fault) → IsBytes bytes → message_at bytes ≡ Err f → f.left ≤ length bytes
left-within bytes f fits e = let d = failed bytes f fits e in omega (arith, ap length d.parts, length-append d.front d.rest, d.left)
