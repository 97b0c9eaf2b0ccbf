-- Packets read from the left.
use Rattle.std.specs.Prelude.{ℕ, zero, suc, Bool, ◌&&◌, nat_le, List, [], ◌∷◌, length, Option, Some, None, option_map, option_and_then, ◌==◌, if◌then◌else◌}
use Rattle.fs_ident.specs.Bytes.{number_in_front}
use Rattle.fs_window.specs.declared.packet.Packet.{Packet}

-- the body that these bytes are: none, or a number and bytes
abbrev pub body_at : List ℕ → Option (Option (ℕ × List ℕ))
body_at [] = None
body_at (zero ∷ []) = Some None
body_at (zero ∷ b ∷ bytes) = None
body_at (suc zero ∷ bytes) = option_map (λ n. Some n) (number_in_front bytes)
body_at (suc (suc flag) ∷ bytes) = None

-- the acknowledgement and the body
abbrev pub parts_at : List ℕ → Option (ℕ × Option (ℕ × List ℕ))
parts_at [] = None
parts_at (b ∷ bytes) =
    if b == 70 then option_and_then (λ n. option_map (λ body. (n.0, body)) (body_at n.1)) (number_in_front bytes) else None

-- whether the bytes can be a segment
abbrev pub is_segment : List ℕ → Bool
is_segment bytes = nat_le 1 (length bytes) && nat_le (length bytes) 1024

-- the packet of an acknowledgement and a body, if the bytes of the body are a segment
abbrev pub packet_with : ℕ → Option (ℕ × List ℕ) → Option Packet
packet_with ack None = Some (record { ack = ack; body = None })
packet_with ack (Some b) = if is_segment b.1 then Some (record { ack = ack; body = Some b }) else None

-- the packet that these bytes spell
abbrev pub packet_at : List ℕ → Option Packet
packet_at bytes = option_and_then (λ x. packet_with x.0 x.1) (parts_at bytes)
