use Rattle.std.proofs.Common.{◌==◌, ℕ, not, ap, sym, ◌∙◌}
use Rattle.std.specs.List.{list_any}
use Rattle.fs_txn.proofs.LeadingParts.{some_left}
use Rattle.fs_txn.proofs.leading.Ending.awaits_others.Goals as goal

pub returns : goal.returns
returns c =
    c.has_other_number.ensures
    ∙ ap (list_any (λ (x : ℕ × ℕ). not (x.0 == c.args.number))) c.as_slice.ensures
    ∙ sym (some_left (λ (x : ℕ × ℕ). not (x.0 == c.args.number)) c.args.self.now.awaits)
