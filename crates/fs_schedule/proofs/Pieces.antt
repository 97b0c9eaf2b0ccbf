-- Laws of the words of a line at their places.
use Rattle.std.proofs.Common.{◌≡◌, ℕ, ◌<◌, ◌≤◌, ◌-◌, List, [], ◌∷◌, length, get_or, take, drop, arith, ap, sym, ◌∙◌}
use Rattle.std.proofs.lemmas.List.{take_all}
use Rattle.fs_schedule.specs.declared.word.Word.{Word as Piece}
use Rattle.fs_schedule.specs.Words.{Word}
use Rattle.fs_schedule.specs.Reading.{word_of, words_in}

-- the first two, and those behind them
pub first_two : (d : Piece) (ps : List Piece) (w v : Word) (ws : List Word) → 2 ≤ length ps → words_in ps ≡ w ∷ v ∷ ws → word_of (get_or ps 0 d) ∷ word_of (get_or ps 1 d) ∷ [] ≡ w ∷ v ∷ []
first_two d (p ∷ q ∷ ps) w v ws le e = cc
first_two d (p ∷ []) w v ws le e = absurd (omega (arith, le))
first_two d [] w v ws le e = absurd (omega (arith, le))

pub behind_two : (ps : List Piece) (w v : Word) (ws : List Word) → 2 ≤ length ps → words_in ps ≡ w ∷ v ∷ ws → words_in (take (length ps - 2) (drop 2 ps)) ≡ ws
behind_two (p ∷ q ∷ ps) w v ws le e =
    let whole : words_in (take (length (p ∷ q ∷ ps) - 2) (drop 2 (p ∷ q ∷ ps))) ≡ words_in ps = ap words_in (take_all (length (p ∷ q ∷ ps) - 2) ps (omega arith)) in
    let others : words_in ps ≡ ws = cc in
    whole ∙ others
behind_two (p ∷ []) w v ws le e = absurd (omega (arith, le))
behind_two [] w v ws le e = absurd (omega (arith, le))

pub two_and : (d : Piece) (ps : List Piece) (w v : Word) (ws : List Word) → 2 ≤ length ps → word_of (get_or ps 0 d) ∷ word_of (get_or ps 1 d) ∷ [] ≡ w ∷ v ∷ [] → words_in (take (length ps - 2) (drop 2 ps)) ≡ ws → words_in ps ≡ w ∷ v ∷ ws
two_and d (p ∷ q ∷ ps) w v ws le e f =
    let whole : words_in (take (length (p ∷ q ∷ ps) - 2) (drop 2 (p ∷ q ∷ ps))) ≡ words_in ps = ap words_in (take_all (length (p ∷ q ∷ ps) - 2) ps (omega arith)) in
    let others : words_in ps ≡ ws = sym whole ∙ f in
    cc
two_and d (p ∷ []) w v ws le e f = absurd (omega (arith, le))
two_and d [] w v ws le e f = absurd (omega (arith, le))

-- the third, where there are three
pub two_below_three : (n : ℕ) → 3 ≤ n → 2 ≤ n
two_below_three n le = omega (arith, le)

pub third : (d : Piece) (ps : List Piece) (w v u : Word) → 3 ≤ length ps → words_in ps ≡ w ∷ v ∷ u ∷ [] → word_of (get_or ps 2 d) ≡ u
third d (p ∷ q ∷ r ∷ ps) w v u le e = cc
third d (p ∷ q ∷ []) w v u le e = absurd (omega (arith, le))
third d (p ∷ []) w v u le e = absurd (omega (arith, le))
third d [] w v u le e = absurd (omega (arith, le))

pub two_and_third : (d : Piece) (ps : List Piece) (w v u : Word) → 3 ≤ length ps → length ps < 4 → word_of (get_or ps 0 d) ∷ word_of (get_or ps 1 d) ∷ [] ≡ w ∷ v ∷ [] → word_of (get_or ps 2 d) ≡ u → words_in ps ≡ w ∷ v ∷ u ∷ []
two_and_third d (p ∷ q ∷ r ∷ []) w v u le lt e f = cc
two_and_third d (p ∷ q ∷ r ∷ s ∷ ps) w v u le lt e f = absurd (omega (arith, lt))
two_and_third d (p ∷ q ∷ []) w v u le lt e f = absurd (omega (arith, le))
two_and_third d (p ∷ []) w v u le lt e f = absurd (omega (arith, le))
two_and_third d [] w v u le lt e f = absurd (omega (arith, le))
