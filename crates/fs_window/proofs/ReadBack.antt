-- What is read from bytes is spelled so.
use Rattle.std.proofs.Common.{◌≡◌, ℕ, zero, suc, ◌+◌, ◌^◌, ◌<◌, ◌≤◌, Bool, true, false, cond, ltb, leb, eqb, List, [], ◌∷◌, ◌++◌, length, get_or, take, drop, Option, Some, None, option_map, refl, sym, ap, subst, ◌∙◌, arith, inl, inr}
use Rattle.std.specs.Int.{w64, from_be_bytes, to_be_bytes}
use Rattle.std.specs.Prelude.{option_and_then}
use Rattle.std.proofs.lemmas.Bool.{cases_lt, eqb-true, ltb-false, le-ltb, le-leb, and_from}
use Rattle.std.proofs.lemmas.List.{take-append-drop, length-append, take_at, drop_at, length-take, get_or-drop, get_or-take, get_or_past}
use Rattle.std.proofs.lemmas.Nat.{be_bytes_8, from_be_bytes-to_be_bytes_8}
use Rattle.fs_frag.specs.Segment.{IsSegment}
use Rattle.fs_window.specs.declared.packet.Packet.{Packet}
use Rattle.fs_window.specs.Packet.{IsBody, IsPacket, body_text, packet_text}
use Rattle.fs_ident.specs.Bytes.{number_in_front}
use Rattle.fs_window.specs.Reading.{body_at, parts_at, is_segment, packet_with, packet_at}
use Rattle.fs_window.proofs.Lists.{some_is, some_of}

abbrev pub IsBytes : List ℕ → Type 0
IsBytes bytes = (i : ℕ) → get_or bytes i 0 < 256

IsBytes-rest : (b : ℕ) (bytes : List ℕ) → IsBytes (b ∷ bytes) → IsBytes bytes
IsBytes-rest b bytes h i = h (suc i)

IsBytes-drop : (n : ℕ) (bytes : List ℕ) → IsBytes bytes → IsBytes (drop n bytes)
IsBytes-drop n bytes h i = rw get_or-drop (h (n + i))

IsBytes-take : (n : ℕ) (bytes : List ℕ) → IsBytes bytes → IsBytes (take n bytes)
IsBytes-take n bytes h i =
    elim (cases_lt i n) [
      | inl lt ↦ rw (get_or-take n bytes i 0 lt) (h i)
      | inr le ↦ rw (get_or_past (take n bytes) i 0 (omega (arith, length-take n bytes))) (omega arith)
    ]

-- a test that passed
guard_some : {A : Type 0} (b : Bool) (x y : A) → cond b None (Some x) ≡ Some y → (b ≡ false) × (x ≡ y)
guard_some true x y e = absurd cc
guard_some false x y e = (refl, cc)

map_some : {A B : Type 0} (f : A → B) (o : Option A) (y : B) → option_map f o ≡ Some y → (x : A) × (o ≡ Some x) × (f x ≡ y)
map_some f None y e = absurd cc
map_some f (Some x) y e = (x, refl, cc)

then_some : {A B : Type 0} (f : A → Option B) (o : Option A) (y : B) → option_and_then f o ≡ Some y → (x : A) × (o ≡ Some x) × (f x ≡ Some y)
then_some f None y e = absurd cc
then_some f (Some x) y e = (x, refl, e)

-- a number that was read, and what is left
pub record IsRead (bytes : List ℕ) (n : ℕ) (rest : List ℕ) : Type 0 where
  pub text : bytes ≡ to_be_bytes w64 n ++ rest
  pub fits : n < 2 ^ 64
  pub rest_fits : IsBytes rest

below_64 : (bytes : List ℕ) → IsBytes bytes → from_be_bytes w64 bytes < 2 ^ 64
below_64 bytes fits = omega (arith, fits 0, fits 1, fits 2, fits 3, fits 4, fits 5, fits 6, fits 7)

number_read : (bytes : List ℕ) (x : ℕ × List ℕ) → IsBytes bytes → number_in_front bytes ≡ Some x → IsRead bytes x.0 x.1
number_read bytes x fits e =
    let g = guard_some (ltb (length bytes) 8) (from_be_bytes w64 (take 8 bytes), drop 8 bytes) x e in
    let long : 8 ≤ length bytes = ltb-false _ _ g.0 in
    let prefix = IsBytes-take 8 bytes fits in
    let text : to_be_bytes w64 (from_be_bytes w64 (take 8 bytes)) ≡ take 8 bytes = be_bytes_8 (take 8 bytes) _ (omega (arith, length-take 8 bytes)) prefix refl in
    let made : IsRead bytes (from_be_bytes w64 (take 8 bytes)) (drop 8 bytes) = record {
      text = sym (take-append-drop 8 bytes) ∙ ap (λ (t : List ℕ). t ++ drop 8 bytes) (sym text);
      fits = below_64 (take 8 bytes) prefix;
      rest_fits = IsBytes-drop 8 bytes fits;
    } in
    subst (λ (y : ℕ × List ℕ). IsRead bytes y.0 y.1) g.1 made

-- the number of a body fits
abbrev pub NumberFits : Option (ℕ × List ℕ) → Type 0
NumberFits None = Unit {0}
NumberFits (Some b) = b.0 < 2 ^ 64

body_read : (bytes : List ℕ) (body : Option (ℕ × List ℕ)) → IsBytes bytes → body_at bytes ≡ Some body → (bytes ≡ body_text body) × NumberFits body
body_read [] body fits e = absurd cc
body_read (zero ∷ []) body fits e = subst (λ (b : Option (ℕ × List ℕ)). (0 ∷ [] ≡ body_text b) × NumberFits b) (some_is None body e) (refl, tt)
body_read (zero ∷ b ∷ bytes) body fits e = absurd cc
body_read (suc zero ∷ bytes) body fits e =
    let m = map_some (λ n. Some n) (number_in_front bytes) body e in
    let r = number_read bytes m.0 (IsBytes-rest 1 bytes fits) m.1 in
    subst (λ (b : Option (ℕ × List ℕ)). (1 ∷ bytes ≡ body_text b) × NumberFits b) m.2 (ap (λ (t : List ℕ). 1 ∷ t) r.text, r.fits)
body_read (suc (suc flag) ∷ bytes) body fits e = absurd cc

guard_passed : {A : Type 0} (b : Bool) (o : Option A) (y : A) → cond b o None ≡ Some y → (b ≡ true) × (o ≡ Some y)
guard_passed true o y e = (refl, e)
guard_passed false o y e = absurd cc

-- what a whole packet was read from
pub record ArePartsOf (bytes : List ℕ) (ack : ℕ) (body : Option (ℕ × List ℕ)) : Type 0 where
  pub text : bytes ≡ 70 ∷ to_be_bytes w64 ack ++ body_text body
  pub ack_fits : ack < 2 ^ 64
  pub number_fits : NumberFits body

pub parts_read : (bytes : List ℕ) (ack : ℕ) (body : Option (ℕ × List ℕ)) → IsBytes bytes → parts_at bytes ≡ Some (ack, body) → ArePartsOf bytes ack body
parts_read [] ack body fits e = absurd cc
parts_read (b ∷ bytes) ack body fits e =
    let g = guard_passed (eqb b 70) (option_and_then (λ n. option_map (λ x. (n.0, x)) (body_at n.1)) (number_in_front bytes)) (ack, body) e in
    let n = then_some (λ n. option_map (λ x. (n.0, x)) (body_at n.1)) (number_in_front bytes) (ack, body) g.1 in
    let x = map_some (λ x. (n.0.0, x)) (body_at n.0.1) (ack, body) n.2 in
    let r = number_read bytes n.0 (IsBytes-rest b bytes fits) n.1 in
    let t = body_read n.0.1 x.0 r.rest_fits x.1 in
    let mark : b ≡ 70 = eqb-true b 70 g.0 in
    let made : ArePartsOf (b ∷ bytes) n.0.0 x.0 = record {
      text = ap (λ (w : ℕ). w ∷ bytes) mark ∙ ap (λ (w : List ℕ). 70 ∷ w) (r.text ∙ ap (λ (w : List ℕ). to_be_bytes w64 n.0.0 ++ w) t.0);
      ack_fits = r.fits;
      number_fits = t.1;
    } in
    subst (λ (p : ℕ × Option (ℕ × List ℕ)). ArePartsOf (b ∷ bytes) p.0 p.1) x.2 made

-- ---- what is written is read

number_written : (n : ℕ) (rest : List ℕ) → n < 2 ^ 64 → number_in_front (to_be_bytes w64 n ++ rest) ≡ Some (n, rest)
number_written n rest h =
    let bytes = to_be_bytes w64 n ++ rest in
    let len : length bytes ≡ 8 + length rest = length-append (to_be_bytes w64 n) rest in
    let number : from_be_bytes w64 (take 8 bytes) ≡ n = ap (λ (x : List ℕ). from_be_bytes w64 x) (take_at (to_be_bytes w64 n) rest 8 refl) ∙ from_be_bytes-to_be_bytes_8 n h in
    rw (le-ltb (length bytes) 8 (omega arith)) (ap (λ (x : ℕ). some_of (x, drop 8 bytes)) number ∙ ap (λ (x : List ℕ). some_of (n, x)) (drop_at (to_be_bytes w64 n) rest 8 refl))

is_one : (s : List ℕ) → IsSegment s → is_segment s ≡ true
is_one s h = and_from (leb 1 (length s)) (leb (length s) 1024) (le-leb 1 (length s) h.some) (le-leb (length s) 1024 h.few)

body_written : (body : Option (ℕ × List ℕ)) → IsBody body → body_at (body_text body) ≡ Some body
body_written None h = refl
body_written (Some b) h = ap (λ (o : Option (ℕ × List ℕ)). option_map (λ n. some_of n) o) (number_written b.0 b.1 h.0)

with_body : (ack : ℕ) (body : Option (ℕ × List ℕ)) → IsBody body → packet_with ack body ≡ Some (record { ack = ack; body = body })
with_body ack None h = refl
with_body ack (Some b) h = ap (λ (t : Bool). cond t (some_packet ack b) None) (is_one b.1 h.1)
  where
    some_packet : ℕ → ℕ × List ℕ → Option Packet
    some_packet a x = Some (record { ack = a; body = Some x })

pub written : (p : Packet) → IsPacket p → packet_at (packet_text p) ≡ Some p
written p h =
    let parts : parts_at (packet_text p) ≡ Some (p.ack, p.body) =
    ap (λ (o : Option (ℕ × List ℕ)). option_and_then (λ n. option_map (λ body. (n.0, body)) (body_at n.1)) o) (number_written p.ack (body_text p.body) h.ack)
    ∙ ap (λ (o : Option (Option (ℕ × List ℕ))). option_map (λ body. (p.ack, body)) o) (body_written p.body h.body) in
    ap (λ (o : Option (ℕ × Option (ℕ × List ℕ))). option_and_then (λ x. packet_with x.0 x.1) o) parts ∙ with_body p.ack p.body h.body
