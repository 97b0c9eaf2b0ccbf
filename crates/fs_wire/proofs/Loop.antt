-- Reading many, as a loop does: for any reader.
use Rattle.std.proofs.Common.{◌≡◌, ℕ, suc, ◌-◌, ◌+◌, ◌≤◌, ◌<◌, List, [], ◌∷◌, ◌++◌, Result, Ok, Err, refl, sym, ap, ◌∙◌, append_assoc, arith}
use Rattle.std.proofs.lemmas.List.{append-nil}
use Rattle.fs_wire.specs.declared.fault.Fault.{Fault}
use Rattle.fs_wire.specs.declared.fault.ReadError.{ReadError}
use Rattle.fs_wire.specs.declared.fault.ReadError.TheVariants as errors
use Rattle.fs_wire.specs.Readers.{◌>>=◌, Fails, Reader, then_at, map_at, always_at, many_at}

module _ {X : Type 0} where
  -- what was read before, and what is still read
  abbrev pub with_front : List X → Result (List X × List ℕ) Fault → Result (List X × List ℕ) Fault
  with_front front read = read >>= λ x. Ok (front ++ x.0, x.1)

  regroup : (front : List X) (n : X) (read : Result (List X × List ℕ) Fault) → with_front front (read >>= λ x. Ok (n ∷ x.0, x.1)) ≡ with_front (front ++ n ∷ []) read
  regroup front n (Ok x) = ap (λ (ns : List X). Ok (ns, x.1)) (simp append_assoc)
  regroup front n (Err f) = refl

  pub goes_on : (at : Reader X) (front : List X) (count i : ℕ) (bytes : List ℕ) (n : X) (after : List ℕ) (total : Result (List X × List ℕ) Fault) → i < count → at bytes ≡ Ok (n, after)
      → with_front front (many_at at (count - i) bytes) ≡ total → with_front (front ++ n ∷ []) (many_at at (count - (i + 1)) after) ≡ total
  unfolding many_at then_at map_at always_at
  goes_on at front count i bytes n after total lt h so_far =
      let k : count - i ≡ suc (count - (i + 1)) = omega arith in
      let one : with_front front (many_at at (count - i) bytes) ≡ with_front (front ++ n ∷ []) (many_at at (count - (i + 1)) after) = rw (k, h) (regroup front n (many_at at (count - (i + 1)) after)) in
      sym one ∙ so_far

  pub ends : (at : Reader X) (e : ReadError) (front : List X) (count i : ℕ) (bytes : List ℕ) (total : Result (List X × List ℕ) Fault) → i < count → Fails e (at bytes)
      → with_front front (many_at at (count - i) bytes) ≡ total → Fails e total
  unfolding many_at then_at map_at always_at
  ends at errors.Memory front count i bytes total lt h so_far = tt
  ends at (errors.Fault f) front count i bytes total lt h so_far =
      let k : count - i ≡ suc (count - (i + 1)) = omega arith in
      let one : with_front front (many_at at (count - i) bytes) ≡ Err f = rw (k, h) refl in
      sym so_far ∙ one

  pub is_done : (at : Reader X) (front : List X) (count i : ℕ) (bytes : List ℕ) (total : Result (List X × List ℕ) Fault) → count ≤ i → with_front front (many_at at (count - i) bytes) ≡ total → total ≡ Ok (front, bytes)
  unfolding many_at then_at map_at always_at
  is_done at front count i bytes total le so_far =
      let k : count - i ≡ 0 = omega arith in
      let one : with_front front (many_at at (count - i) bytes) ≡ Ok (front, bytes) = rw k (ap (λ (ns : List X). Ok (ns, bytes)) (append-nil front)) in
      sym so_far ∙ one
