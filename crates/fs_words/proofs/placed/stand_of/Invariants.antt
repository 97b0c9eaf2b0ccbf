use Rattle.std.proofs.Common.{◌≡◌, drop, map, string_bytes}
use Rattle.fs_words.specs.Places.{stand_of}
use Rattle.fs_words.proofs.placed.stand_of.Given as goal

abbrev pub invariant-loop-word : goal.invariant-loop-word
invariant-loop-word l = stand_of l.who (map string_bytes (drop l.word-index l.words)) ≡ stand_of l.who (map string_bytes l.words)
