-- Answers behind their tags.
use Rattle.std.proofs.Common.{◌≡◌, ℕ, ◌<◌, not, ◌||◌, Bool, true, false, eqb, List, ◌++◌, refl, arith}
use Rattle.std.proofs.lemmas.Bool.{eqb-true, agree_below_at}
use Rattle.fs_msg.specs.declared.answer.Answer.{Answer}
use Rattle.fs_msg.specs.declared.answer.Answer.TheVariants as answer_
use Rattle.fs_wire.specs.Readers.{either_at}
use Rattle.fs_wire.proofs.Readers.{IsOne, IsReader, either-reader}
use Rattle.fs_wire.proofs.Says.{says-map}
use Rattle.fs_wire.proofs.Behind.{IsBehind, behind, other, implied}
use Rattle.fs_wire.proofs.Wires.{Spelled, arm, pair-wire, plain-pair, plain-option}
use Rattle.fs_wire.proofs.NumberWires.{eight-wire, list-wire, plain-list}
use Rattle.fs_wire.proofs.SmallWires.{lease-wire}
use Rattle.fs_wire.proofs.NameWires.{identifier-wire}
use Rattle.fs_msg.specs.Spelling.{answer}
use Rattle.fs_msg.specs.Ranges.{FitsAnswer}
use Rattle.fs_msg.specs.Tags.{answer_tags}
use Rattle.fs_msg.specs.Reading.{is_answer_tag, answer_of}
use Rattle.fs_msg.proofs.EndWires.{end-wire}
use Rattle.fs_msg.proofs.GrantWires.{grant-wire}
use Rattle.fs_msg.proofs.LedWires.{led_end-wire}

-- each tag of an answer is one of these
abbrev is_listed : ℕ → Bool
is_listed b = not (is_answer_tag b) || (eqb b 17 || (eqb b 18 || (eqb b 19 || (eqb b 20 || (eqb b 21 || eqb b 22)))))

last-tag : (tag : ℕ) → tag < 256 → is_answer_tag tag ≡ true → eqb tag 17 ≡ false → eqb tag 18 ≡ false → eqb tag 19 ≡ false → eqb tag 20 ≡ false → eqb tag 21 ≡ false → tag ≡ 22
last-tag tag lt passes a b c d e =
    let listed = implied _ _ (agree_below_at is_listed (λ b. true) 256 tag refl lt) passes in
    eqb-true tag 22 (other _ _ (other _ _ (other _ _ (other _ _ (other _ _ listed a) b) c) d) e)

pub answer-reads : {test : ℕ → Bool} (tag : ℕ) (t : List ℕ) → IsOne test tag t → is_answer_tag tag ≡ true → IsReader (answer_of tag) (λ w u. Spelled FitsAnswer answer w (t ++ u))
unfolding answer
answer-reads tag t q passes =
    either-reader _ _ _ _ (λ e. arm _ 17 q (eqb-true tag 17 e) (pair-wire (list-wire grant-wire) (pair-wire (plain-option identifier-wire) end-wire)) (λ v f. (f.0, f.1.0, f.1.1)) (λ v. refl)) (λ e17.
    either-reader _ _ _ _ (λ e. arm _ 18 q (eqb-true tag 18 e) (pair-wire (plain-list (plain-pair lease-wire (plain-option eight-wire))) end-wire) (λ v f. f) (λ v. refl)) (λ e18.
    either-reader _ _ _ _ (λ e. arm _ 19 q (eqb-true tag 19 e) (pair-wire eight-wire end-wire) (λ v f. f) (λ v. refl)) (λ e19.
    either-reader _ _ _ _ (λ e. arm _ 20 q (eqb-true tag 20 e) (pair-wire eight-wire end-wire) (λ v f. f) (λ v. refl)) (λ e20.
    either-reader _ _ _ _ (λ e. arm _ 21 q (eqb-true tag 21 e) led_end-wire (λ v f. f) (λ v. refl)) (λ e21.
    arm _ 22 q (last-tag tag q.below passes e17 e18 e19 e20 e21) lease-wire (λ v f. f) (λ v. refl))))))

pub answer-says : (a : Answer) → FitsAnswer a → IsBehind answer_of is_answer_tag a (answer a) (answer_tags a)
unfolding answer answer_tags either_at
answer-says (answer_.Granted grants fresh e) fits = behind 17 (omega arith) refl (says-map (λ p. answer_.Granted p.0 p.1.0 p.1.1) ((pair-wire (list-wire grant-wire) (pair-wire (plain-option identifier-wire) end-wire)).says (grants, (fresh, e)) (fits.0, (fits.1, fits.2)))) refl refl
answer-says (answer_.Renewed rows e) fits = behind 18 (omega arith) refl (says-map (λ p. answer_.Renewed p.0 p.1) ((pair-wire (plain-list (plain-pair lease-wire (plain-option eight-wire))) end-wire).says (rows, e) fits)) refl refl
answer-says (answer_.Released count e) fits = behind 19 (omega arith) refl (says-map (λ p. answer_.Released p.0 p.1) ((pair-wire eight-wire end-wire).says (count, e) fits)) refl refl
answer-says (answer_.Shipped count e) fits = behind 20 (omega arith) refl (says-map (λ p. answer_.Shipped p.0 p.1) ((pair-wire eight-wire end-wire).says (count, e) fits)) refl refl
answer-says (answer_.Led e) fits = behind 21 (omega arith) refl (says-map (λ x. answer_.Led x) (led_end-wire.says e fits)) refl refl
answer-says (answer_.Recall l) fits = behind 22 (omega arith) refl (says-map (λ x. answer_.Recall x) (lease-wire.says l fits)) refl refl
