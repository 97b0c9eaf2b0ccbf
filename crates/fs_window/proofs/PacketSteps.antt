-- Packets made of segments, one after another.
use Rattle.std.proofs.Common.{◌≡◌, ℕ, suc, ◌+◌, ◌-◌, ◌<◌, List, [], ◌∷◌, ◌++◌, take, Some, sym, ap, ◌∙◌, append_assoc, arith}
use Rattle.fs_window.specs.declared.packet.Packet.{Packet}
use Rattle.fs_window.specs.LinkEnd.{packets_from}

abbrev packet : ℕ → ℕ → List ℕ → Packet
packet ack n s = record { ack = ack; body = Some (n, s) }

-- one packet is made, and the others of what is left
pub packets_step : (ack n to : ℕ) (s : List ℕ) (left rest : List (List ℕ)) (done total : List Packet) → n < to → left ≡ s ∷ rest
    → done ++ packets_from ack n (take (to - n) left) ≡ total → (done ++ record { ack = ack; body = Some (n, s) } ∷ []) ++ packets_from ack (n + 1) (take (to - (n + 1)) rest) ≡ total
packets_step ack n to s left rest done total lt is so_far =
    let k : to - n ≡ suc (to - (n + 1)) = omega arith in
    let all : packets_from ack n (take (to - n) left) ≡ packet ack n s ∷ packets_from ack (n + 1) (take (to - (n + 1)) rest) =
    ap (λ (x : ℕ). packets_from ack n (take x left)) k ∙ ap (λ (x : List (List ℕ)). packets_from ack n (take (suc (to - (n + 1))) x)) is in
    append_assoc done (packet ack n s ∷ []) (packets_from ack (n + 1) (take (to - (n + 1)) rest)) ∙ ap (λ (x : List Packet). done ++ x) (sym all) ∙ so_far
