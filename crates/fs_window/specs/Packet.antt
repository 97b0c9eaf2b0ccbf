-- Packets, and the one spelling of each.
use Rattle.std.specs.Prelude.{ℕ, ◌<◌, ◌^◌, List, [], ◌∷◌, ◌++◌, Option, Some, None}
use Rattle.std.specs.Int.{w64, to_be_bytes}
use Rattle.fs_frag.specs.Segment.{IsSegment}
use Rattle.fs_window.specs.declared.packet.Packet.{Packet}

-- a segment with its number
abbrev pub IsBody : Option (ℕ × List ℕ) → Type 0
IsBody None = Unit {0}
IsBody (Some b) = (b.0 < 2 ^ 64) × IsSegment b.1

-- what can be a packet
pub record IsPacket (p : Packet) : Type 0 where
  pub ack : p.ack < 2 ^ 64
  pub body : IsBody p.body

-- no segment, or a segment behind its number
abbrev pub body_text : Option (ℕ × List ℕ) → List ℕ
body_text None = 0 ∷ []
body_text (Some b) = 1 ∷ to_be_bytes w64 b.0 ++ b.1

-- the byte that begins each packet, the acknowledgement, and the body
abbrev pub packet_text : Packet → List ℕ
packet_text p = 70 ∷ to_be_bytes w64 p.ack ++ body_text p.body
