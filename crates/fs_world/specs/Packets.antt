-- The packets that were sent, and which of them were told.
use Rattle.std.specs.Prelude.{◌≡◌, ℕ, ◌+◌, Bool, true, false, List, [], ◌∷◌, ◌++◌, length, map, slice_set}
use Rattle.fs_window.specs.declared.sent.Sent.{Sent}

-- a mark for each packet, in order of sending
pub record Packets : Type 0 where
  pub sent : List Sent
  pub delivered : List Bool

abbrev pub no_packets : Packets
no_packets = record { sent = []; delivered = [] }

-- with more packets, of which none was told yet
abbrev pub with_sent : List Sent → Packets → Packets
with_sent more p = record { sent = p.sent ++ more; delivered = p.delivered ++ map (λ (x : Sent). false) more }

abbrev pub with_delivered : ℕ → Packets → Packets
with_delivered k p = record p { delivered = slice_set p.delivered k true }

-- the number of the first that was never told, or how many there are
abbrev pub first_undelivered : List Bool → ℕ
first_undelivered [] = 0
first_undelivered (false ∷ ts) = 0
first_undelivered (true ∷ ts) = first_undelivered ts + 1

-- the numbers of these packets, of which the first has the number n
abbrev pub numbers_from : ℕ → List Sent → List ℕ
numbers_from n [] = []
numbers_from n (x ∷ xs) = n ∷ numbers_from (n + 1) xs

-- there is a mark for each packet, and this is the number of the first that was not told
pub record AreMarked (sent : List Sent) (delivered : List Bool) (next : ℕ) : Type 0 where
  pub marks : length delivered ≡ length sent
  pub first : next ≡ first_undelivered delivered
