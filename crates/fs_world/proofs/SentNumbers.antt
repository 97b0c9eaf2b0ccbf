-- The numbers of packets that are sent, one after another.
use Rattle.std.proofs.Common.{◌≡◌, ℕ, zero, suc, ◌+◌, ◌-◌, ◌<◌, ◌≤◌, List, [], ◌∷◌, ◌++◌, length, drop, refl, ap, sym, ◌∙◌, append_assoc}
use Rattle.std.proofs.Common.{arith}
use Rattle.fs_window.specs.declared.sent.Sent.{Sent}
use Rattle.fs_world.specs.Packets.{numbers_from}

numbers_next : (n k : ℕ) (packets : List Sent) → k < length packets
    → numbers_from n (drop k packets) ≡ n ∷ numbers_from (n + 1) (drop (suc k) packets)
numbers_next n k [] h = absurd (omega arith)
numbers_next n zero (x ∷ xs) h = refl
numbers_next n (suc k) (x ∷ xs) h = numbers_next n k xs (omega arith)

-- one number more
pub numbers_step : (all : List ℕ) (from number : ℕ) (packets : List Sent) → from ≤ number → number < from + length packets
    → (all ++ number ∷ []) ++ numbers_from (number + 1) (drop (number + 1 - from) packets) ≡ all ++ numbers_from number
    (drop (number - from) packets)
numbers_step all from number packets low high =
    let place : number + 1 - from ≡ suc (number - from) = omega arith in
    rw place (append_assoc all (number ∷ []) _
    ∙ ap (λ (ns : List ℕ). all ++ ns) (sym (numbers_next number (number - from) packets (omega arith))))
