use Rattle.std.proofs.Common.{◌≡◌, ◌<◌, ◌≤◌, List, [], ◌∷◌, length, get_or, refl, arith}
use Rattle.fs_schedule.specs.declared.word.Word.{Word as Piece}
use Rattle.fs_schedule.specs.Reading.{word_of, words_in}
use Rattle.fs_schedule.proofs.Refusals.{tells_served}
use Rattle.fs_schedule.proofs.head.servers_of.Goals as goal

five : (d : Piece) (ws : List Piece) → 5 ≤ length ws → length ws < 6 → words_in ws ≡ word_of (get_or ws 0 d) ∷ word_of (get_or ws 1 d) ∷ word_of (get_or ws 2 d) ∷ word_of (get_or ws 3 d) ∷ word_of (get_or ws 4 d) ∷ []
five d (a ∷ b ∷ c ∷ e ∷ f ∷ []) h k = refl
five d ws h k = absurd (omega arith)

pub returns : goal.returns
returns c = tells_served _ (words_in c.args.operands.now) _ _ _ _ _ (five _ c.args.operands.now c.in-len5.len_at_least c.in-len5.len_below) (c.is_bare.ensures.0 c.if-not-is_bare.false) (c.is_bare-2.ensures.0 c.if-not-is_bare-2.false) c.servers_by.ensures
