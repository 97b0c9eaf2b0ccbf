use Rattle.std.proofs.Common.{List, [], ◌∷◌, ◌++◌, ◌≡◌, ap, refl, sym, subst}
use Rattle.fs_schedule.specs.declared.word.Word.{Word as Piece}
use Rattle.fs_schedule.specs.Words.{Word}
use Rattle.fs_schedule.specs.Reading.{word_of, words_in}
use Rattle.fs_schedule.proofs.Cuts.{IsSplit, no_split, split_more}
use Rattle.fs_schedule.proofs.words.words_of.Goals as goal

words_push : (ws : List Piece) (w : Piece) → words_in (ws ++ w ∷ []) ≡ words_in ws ++ word_of w ∷ []
words_push [] w = refl
words_push (v ∷ vs) w = ap (λ (xs : List Word). word_of v ∷ xs) (words_push vs w)

pub returns-in_default-clause-none : goal.returns-in_default-clause-none
returns-in_default-clause-none c = λ o ws a. no_split (words_in c.loop-word.words) ws c.loop-word.rest.now c.args.line.now c.loop-word.invariant (rw c.in_default.is at c.next_word.ensures.none) a

pub loop-word-preserved : goal.loop-word-preserved
loop-word-preserved c =
    let fits = rw c.in-Some.is at c.next_word.ensures.fits in
    let found = rw (c.in-Some.is, c.in-Some-after.is) at c.next_word.ensures.found in
    let more = split_more (words_in c.loop-word.words) (word_of c.in-Some.word) c.loop-word.rest.now c.in-Some-after.more.now c.args.line.now c.loop-word.invariant fits found in
    let P : List Word → Type 0 = λ ws. IsSplit ws c.in-Some-after.more.now c.args.line.now in
    rw c.in_ok-push.ensures.ok (subst P (sym (words_push c.loop-word.words c.in-Some.word)) more)
