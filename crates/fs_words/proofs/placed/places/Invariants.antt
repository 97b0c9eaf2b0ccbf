use Rattle.std.proofs.Common.{◌≡◌, ◌++◌, drop, map, string_bytes}
use Rattle.fs_words.specs.Places.{places_in}
use Rattle.fs_words.proofs.placed.places.Given as goal

abbrev pub invariant-loop-word : goal.invariant-loop-word
invariant-loop-word l = l.found ++ places_in (map string_bytes (drop l.word-index l.words)) ≡ places_in (map string_bytes l.words)
