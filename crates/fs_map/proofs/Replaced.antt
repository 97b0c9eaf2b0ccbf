-- What stands behind a list comes into the place of a part of it.
use Rattle.std.proofs.Common.{◌≡◌, ◌∙◌, ℕ, List, [], ◌++◌, ap, sym, length, arith, ◌+◌, ◌-◌, take, drop, append_assoc, length-drop}
use Rattle.std.specs.Prelude.{slice_range}
use Rattle.std.proofs.lemmas.List.{take-take, take_all, drop_all, drop-drop, append-nil}
use Rattle.std.proofs.lemmas.Slice.{between_is}
use borrow.Rule.Slice.PartMut.{put_mid}
use Rattle.fs_map.specs.Part.{AreBounds, with_part_replaced, with_ends_exchanged}

module _ {X : Type 0} (xs : List X) (start end kept : ℕ) (g : AreBounds xs start end kept) where
  abbrev rest : List X
  rest = drop start xs

  rest_length : length rest ≡ length xs - start
  rest_length = length-drop start xs

  behind : drop (kept - start) rest ≡ drop kept xs
  behind = drop-drop (kept - start) start xs ∙ ap (λ n. drop n xs) (let n : start + (kept - start) ≡ kept = omega (arith, g.ordered, g.within) in n)

  between_them : drop (end - start) (take (kept - start) rest) ≡ drop end (take kept xs)
  between_them =
      ap (drop (end - start)) (between_is xs start kept)
      ∙ drop-drop (end - start) start (take kept xs)
      ∙ ap (λ n. drop n (take kept xs)) (let n : start + (end - start) ≡ end = omega (arith, g.ordered) in n)

  turned : with_ends_exchanged rest (end - start) (length xs - kept) ≡ drop kept xs ++ (drop end (take kept xs) ++ slice_range xs start end)
  turned =
      let same : length rest - (length xs - kept) ≡ kept - start = omega (arith, rest_length, g.ordered, g.within, g.behind) in
      ap (λ n. drop n rest ++ (drop (end - start) (take n rest) ++ slice_range xs start end)) same
      ∙ ap (λ ys. ys ++ (drop (end - start) (take (kept - start) rest) ++ slice_range xs start end)) behind
      ∙ ap (λ ys. drop kept xs ++ (ys ++ slice_range xs start end)) between_them

  -- what stands from the part on, turned about, behind what stands before it
  pub brought : (n : ℕ) (ys : List X) → n ≡ length xs - start → ys ≡ with_ends_exchanged (take n rest) (end - start) (length xs - kept)
      → put_mid start n xs ys ≡ with_part_replaced xs start end kept ++ slice_range xs start end
  brought n ys m e =
      let all : take n rest ≡ rest = take_all n rest (omega (arith, rest_length)) in
      let none : drop n rest ≡ [] = drop_all n rest (omega (arith, rest_length)) in
      let is : ys ≡ drop kept xs ++ (drop end (take kept xs) ++ slice_range xs start end) = e ∙ ap (λ zs. with_ends_exchanged zs (end - start) (length xs - kept)) all ∙ turned in
      ap (λ zs. take start xs ++ (ys ++ zs)) none
      ∙ ap (λ zs. take start xs ++ zs) (append-nil ys ∙ is ∙ sym (append_assoc (drop kept xs) (drop end (take kept xs)) (slice_range xs start end)))
      ∙ sym (append_assoc (take start xs) (drop kept xs ++ drop end (take kept xs)) (slice_range xs start end))
      ∙ ap (λ zs. (zs ++ (drop kept xs ++ drop end (take kept xs))) ++ slice_range xs start end) (sym (take-take start kept xs (omega (arith, g.ordered, g.within))))
