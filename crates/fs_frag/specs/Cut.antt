-- How messages are cut into segments.
use Rattle.std.specs.Prelude.{ℕ, zero, suc, ◌+◌, ◌/◌, List, [], ◌∷◌, ◌++◌, length, take, drop}
use Rattle.std.specs.Int.{w64, to_be_bytes}

-- the message behind its length
abbrev pub framed : List ℕ → List ℕ
framed message = to_be_bytes w64 (length message) ++ message

-- so many pieces of 1,024 bytes, the last one shorter where the bytes end
abbrev pub pieces : ℕ → List ℕ → List (List ℕ)
pieces zero bytes = []
pieces (suc n) bytes = take 1024 bytes ∷ pieces n (drop 1024 bytes)

-- as many pieces as hold so many bytes
abbrev pub piece_count : ℕ → ℕ
piece_count len = (len + 1023) / 1024

-- the segments of a message
abbrev pub cut_of : List ℕ → List (List ℕ)
cut_of message = pieces (piece_count (length (framed message))) (framed message)
