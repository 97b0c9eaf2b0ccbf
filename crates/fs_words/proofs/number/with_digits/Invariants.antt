use Rattle.std.proofs.Common.{◌≡◌, ◌≤◌, drop}
use Rattle.fs_words.specs.Numbers.{with_digits}
use Rattle.fs_words.proofs.number.with_digits.Given as goal

abbrev pub invariant-loop-b : goal.invariant-loop-b
invariant-loop-b l = (l.n ≤ l.most) × (with_digits l.most l.n (drop l.b-index l.digits) ≡ with_digits l.most 0 l.digits)
