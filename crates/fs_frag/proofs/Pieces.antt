-- One piece after another.
use Rattle.std.proofs.Common.{◌≡◌, ℕ, zero, suc, ◌+◌, ◌-◌, ◌*◌, ◌<◌, ◌≤◌, min, subst, List, [], ◌∷◌, ◌++◌, length, take, drop, refl, sym, ap, ◌∙◌, append_assoc, inl, inr, arith}
use Rattle.std.proofs.lemmas.Bool.{cases_lt}
use Rattle.std.proofs.lemmas.List.{length-append, length-drop, length-take, take_all}
use Rattle.std.proofs.Math.Seq.{drop-append-add, take-append-add}
use Rattle.std.specs.Int.{w64, to_be_bytes}
use Rattle.std.proofs.Math.ListN.{drop_of_length-le}
use Rattle.fs_ident.specs.In.{In}
use Rattle.fs_frag.specs.Cut.{framed, pieces, piece_count, cut_of}
use Rattle.fs_frag.specs.Segment.{IsSegment}

-- bytes that are there have one piece more than what lies behind their first 1,024
pub piece_count-more : (len : ℕ) → 1 ≤ len → piece_count len ≡ suc (piece_count (len - 1024))
piece_count-more len h = omega arith

pub pieces-more : (bytes : List ℕ) → 1 ≤ length bytes
    → pieces (piece_count (length bytes)) bytes ≡ take 1024 bytes ∷ pieces (piece_count (length (drop 1024 bytes))) (drop 1024 bytes)
pieces-more bytes h = rw (piece_count-more (length bytes) h, length-drop) refl

-- the same for a piece that was cut at the end of shorter bytes
cut_at_end : (size n : ℕ) (bytes : List ℕ) → n ≡ min (length bytes) size → (take n bytes ≡ take size bytes) × (drop n bytes ≡ drop size bytes)
cut_at_end size n bytes e =
    elim (cases_lt size (length bytes)) [
      | inl lt ↦ (let k : n ≡ size = omega arith in (rw k refl, rw k refl))
      | inr le ↦ (let k : n ≡ length bytes = omega arith in (take_all n bytes (omega arith) ∙ sym (take_all size bytes le), drop_of_length-le bytes (omega arith) ∙ sym (drop_of_length-le bytes le)))
    ]

pub pieces_step : (done : List (List ℕ)) (bytes : List ℕ) (n : ℕ) (total : List (List ℕ)) → 1 ≤ length bytes → n ≡ min (length bytes) 1024
    → done ++ pieces (piece_count (length bytes)) bytes ≡ total → (done ++ take n bytes ∷ []) ++ pieces (piece_count (length (drop n bytes))) (drop n bytes) ≡ total
pieces_step done bytes n total h e so_far =
    let k = cut_at_end 1024 n bytes e in
    rw (k.0, k.1, append_assoc) (ap (λ (x : List (List ℕ)). done ++ x) (sym (pieces-more bytes h)) ∙ so_far)

-- the first piece of a message is its length with what fits behind it, and the others are those of the rest
pub first_and_rest : (message : List ℕ) (n : ℕ) → n ≡ min (length message) 1016
    → ((to_be_bytes w64 (length message) ++ take n message) ∷ []) ++ pieces (piece_count (length (drop n message))) (drop n message) ≡ cut_of message
first_and_rest message n e =
    let k = cut_at_end 1016 n message e in
    let head : List ℕ = to_be_bytes w64 (length message) in
    let front : take 1024 (framed message) ≡ head ++ take 1016 message = take-append-add head message 1016 in
    let back : drop 1024 (framed message) ≡ drop 1016 message = drop-append-add head message 1016 in
    let some : 1 ≤ length (framed message) = omega (arith, length-append head message) in
    rw (k.0, k.1) (sym (pieces-more (framed message) some ∙ ap (λ x. x ∷ pieces (piece_count (length (drop 1024 (framed message)))) (drop 1024 (framed message))) front
    ∙ ap (λ x. (head ++ take 1016 message) ∷ pieces (piece_count (length x)) x) back))

-- each piece of bytes that are there is a segment
pieces_in : (n : ℕ) (bytes s : List ℕ) → 1024 * n < length bytes + 1024 → In s (pieces n bytes) → IsSegment s
pieces_in zero bytes s h i = absurd i
pieces_in (suc n) bytes s h i =
    let len = length-take 1024 bytes in
    let left = length-drop 1024 bytes in
    let first : IsSegment (take 1024 bytes) = record { some = omega arith; few = omega arith } in
    elim i [
      | inl e ↦ subst (λ (x : List ℕ). IsSegment x) (sym e) first
      | inr j ↦ pieces_in n (drop 1024 bytes) s (omega arith) j
    ]

pub cut_in : (message s : List ℕ) → In s (cut_of message) → IsSegment s
cut_in message s i = pieces_in (piece_count (length (framed message))) (framed message) s (omega arith) i
