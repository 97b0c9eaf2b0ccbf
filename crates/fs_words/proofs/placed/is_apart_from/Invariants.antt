use Rattle.std.proofs.Common.{◌≡◌, drop, map, string_bytes}
use Rattle.std.specs.List.{list_all}
use Rattle.fs_words.specs.Places.{is_apart, places_in}
use Rattle.fs_words.proofs.placed.is_apart_from.Given as goal

abbrev pub invariant-loop-word : goal.invariant-loop-word
invariant-loop-word l =
    list_all (is_apart l.place) (places_in (map string_bytes (drop l.word-index l.words))) ≡ list_all (is_apart l.place) (places_in (map string_bytes l.words))
