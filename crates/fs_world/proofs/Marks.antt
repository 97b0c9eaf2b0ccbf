-- The first packet that was not told, as packets are added, told and cut off.
use Rattle.std.proofs.Common.{◌≡◌, ℕ, Result, Ok, Err, OnOk, OnErr, zero, suc, ◌+◌, ◌<◌, ◌≤◌, min, Bool, true, false, List, [], ◌∷◌, ◌++◌}
use Rattle.std.proofs.Common.{map, length, get_or, take, set, refl, ap, sym, ◌∙◌, arith, length-append, length-take, take_at}
use Rattle.std.proofs.lemmas.List.{length-map}
use Rattle.fs_window.specs.declared.sent.Sent.{Sent}
use Rattle.fs_world.specs.Packets.{Packets, AreMarked, first_undelivered}

undelivered_more : (delivered : List Bool) (more : List Sent)
    → first_undelivered (delivered ++ map (λ (x : Sent). false) more) ≡ first_undelivered delivered
undelivered_more [] [] = refl
undelivered_more [] (x ∷ xs) = refl
undelivered_more (false ∷ ts) more = refl
undelivered_more (true ∷ ts) more = ap (λ n. n + 1) (undelivered_more ts more)

-- more packets, of which none was told
pub marked_more : (sent more : List Sent) (delivered : List Bool) (next : ℕ) → AreMarked sent delivered next
    → AreMarked (sent ++ more) (delivered ++ map (λ (x : Sent). false) more) next
marked_more sent more delivered next h = record {
  marks =
      let marks : length (map (λ (x : Sent). false) more) ≡ length more = length-map more (λ (x : Sent). false) in
      length-append delivered (map (λ (x : Sent). false) more) ∙ omega (arith, length-append sent more);
  first = h.first ∙ sym (undelivered_more delivered more);
}

-- more packets with their marks, or neither
pub marked_added : {T E : Type 0} (r : Result T E) (sent more sent' : List Sent) (delivered marks delivered' : List Bool) (next : ℕ)
    → AreMarked sent delivered next → marks ≡ map (λ (x : Sent). false) more
    → OnOk r (sent' ≡ sent ++ more) → OnOk r (delivered' ≡ delivered ++ marks) → OnErr r (sent' ≡ sent) → OnErr r (delivered' ≡ delivered)
    → AreMarked sent' delivered' next
marked_added (Ok x) sent more sent' delivered marks delivered' next h m s t es et = rw (s, t, m) (marked_more sent more delivered next h)
marked_added (Err e) sent more sent' delivered marks delivered' next h m s t es et = rw (es, et) h

undelivered_first : (n : ℕ) (delivered : List Bool) → first_undelivered (take n delivered) ≡ min (first_undelivered delivered) n
undelivered_first zero delivered = omega arith
undelivered_first (suc n) [] = omega arith
undelivered_first (suc n) (false ∷ ts) = omega arith
undelivered_first (suc n) (true ∷ ts) = omega (arith, undelivered_first n ts)

-- the first so many
pub marked_first : (n : ℕ) (sent : List Sent) (delivered : List Bool) (next : ℕ) → AreMarked sent delivered next
    → AreMarked (take n sent) (take n delivered) (min next n)
marked_first n sent delivered next h = record {
  marks = length-take n delivered ∙ ap (min n) h.marks ∙ sym (length-take n sent);
  first = ap (λ (k : ℕ). min k n) h.first ∙ sym (undelivered_first n delivered);
}

undelivered_delivered : (k : ℕ) (delivered : List Bool) → first_undelivered delivered ≤ first_undelivered (set delivered k true)
undelivered_delivered k [] = omega arith
undelivered_delivered zero (false ∷ ts) = omega arith
undelivered_delivered zero (true ∷ ts) = omega arith
undelivered_delivered (suc k) (false ∷ ts) = omega arith
undelivered_delivered (suc k) (true ∷ ts) = omega (arith, undelivered_delivered k ts)

-- none before the next one is not told
pub undelivered_after : (delivered : List Bool) (k next : ℕ) → next ≡ first_undelivered delivered
    → next ≤ first_undelivered (set delivered k true)
undelivered_after delivered k next h = omega (arith, undelivered_delivered k delivered)

-- one that was told is passed
pub undelivered_past : (delivered : List Bool) (k : ℕ) → k < length delivered → get_or delivered k false ≡ true
    → k ≤ first_undelivered delivered → k + 1 ≤ first_undelivered delivered
undelivered_past [] k h t l = absurd (omega arith)
undelivered_past (false ∷ ts) zero h t l = absurd (cc)
undelivered_past (false ∷ ts) (suc k) h t l = absurd (omega arith)
undelivered_past (true ∷ ts) zero h t l = omega arith
undelivered_past (true ∷ ts) (suc k) h t l = omega (arith, undelivered_past ts k (omega arith) t (omega arith))

pub undelivered_within : (delivered : List Bool) → first_undelivered delivered ≤ length delivered
undelivered_within [] = omega arith
undelivered_within (false ∷ ts) = omega arith
undelivered_within (true ∷ ts) = omega (arith, undelivered_within ts)

pub undelivered_here : (delivered : List Bool) (k : ℕ) → k < length delivered → get_or delivered k false ≡ false
    → k ≤ first_undelivered delivered → k ≡ first_undelivered delivered
undelivered_here [] k h t l = absurd (omega arith)
undelivered_here (false ∷ ts) zero h t l = refl
undelivered_here (false ∷ ts) (suc k) h t l = absurd (omega arith)
undelivered_here (true ∷ ts) zero h t l = absurd (cc)
undelivered_here (true ∷ ts) (suc k) h t l = omega (arith, undelivered_here ts k (omega arith) t (omega arith))

-- what was added is cut off again
pub cut_off : (p : Packets) (more : List Sent) (len : ℕ) → length (p.delivered ++ map (λ (x : Sent). false) more) ≡ length (p.sent ++ more)
    → len ≡ length p.sent
    → (take len (p.sent ++ more) ≡ p.sent) × (take len (p.delivered ++ map (λ (x : Sent). false) more) ≡ p.delivered)
cut_off p more len h e =
    let marks : length (map (λ (x : Sent). false) more) ≡ length more = length-map more (λ (x : Sent). false) in
    let delivered : length (p.delivered ++ map (λ (x : Sent). false) more) ≡ length p.delivered + length (map (λ (x : Sent). false) more) =
    length-append p.delivered (map (λ (x : Sent). false) more) in
    (take_at p.sent more len (sym e), take_at p.delivered (map (λ (x : Sent). false) more) len (omega (arith, length-append p.sent more)))
