use Rattle.std.proofs.Common.{◌≡◌, ◌+◌, [], drop, take, map, string_bytes}
use Rattle.fs_words.specs.Places.{places_at_front}
use Rattle.fs_words.proofs.placed.places_at_front.Given as goal

abbrev pub invariant-loop-at : goal.invariant-loop-at
invariant-loop-at l =
    places_at_front l.servers (map string_bytes (take l.at l.words)) (map string_bytes (drop l.at l.words)) + l.at ≡ places_at_front l.servers [] (map string_bytes l.words)
