use Rattle.std.proofs.Common.{◌≡◌, ℕ, List, [], ◌++◌, Result, Ok, sym, ap, ◌∙◌}
use Rattle.fs_wire.specs.declared.fault.Fault.{Fault}
use Rattle.fs_msg.specs.declared.msg.Msg.{Msg}
use Rattle.fs_msg.specs.Spelling.{message}
use Rattle.fs_msg.specs.Ranges.{FitsMessage}
use Rattle.fs_msg.specs.Reading.{message_at}
use Rattle.fs_msg.proofs.Exact.{again, whole-again}
use Rattle.fs_msg.proofs.law.no_message_begins_another.Goals as goal

abbrev done : Msg × List ℕ → Result (Msg × List ℕ) Fault
done x = Ok x

abbrev pair_of : Msg → List ℕ → Msg × List ℕ
pair_of m a = (m, a)

begins : (m n : Msg) (rest : List ℕ) → FitsMessage m → FitsMessage n → message n ≡ message m ++ rest → done (n, []) ≡ done (m, rest)
begins m n rest fits fits' e = sym (whole-again n fits') ∙ ap (λ (z : List ℕ). message_at z) e ∙ again m rest fits

rest-is : (m n : Msg) (a b : List ℕ) → done (m, a) ≡ done (n, b) → a ≡ b
rest-is m n a b e = let same : pair_of m a ≡ pair_of n b = cc in ap (λ (x : Msg × List ℕ). x.1) same

message-is : (m n : Msg) (a b : List ℕ) → done (m, a) ≡ done (n, b) → m ≡ n
message-is m n a b e = let same : pair_of m a ≡ pair_of n b = cc in ap (λ (x : Msg × List ℕ). x.0) same

pub returns : goal.returns
returns c = record {
  whole = λ m n rest fits fits' e. sym (rest-is n m [] rest (begins m n rest fits fits' e));
  one = λ m n fits fits' e. message-is m n [] [] (sym (whole-again m fits) ∙ ap (λ (z : List ℕ). message_at z) e ∙ whole-again n fits');
}
