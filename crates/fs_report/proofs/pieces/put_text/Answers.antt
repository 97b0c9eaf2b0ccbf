use Rattle.std.proofs.Common.{◌≡◌, ℕ, List, ◌++◌, ap, ◌∙◌}
use Rattle.fs_report.proofs.Text.{added}
use Rattle.fs_report.proofs.pieces.put_text.Goals as goal

pub returns-clause-text : goal.returns-clause-text
returns-clause-text c = λ old.
    let e : c.extend_from_slice.new.self.items ≡ c.args.out.now.items ++ c.args.text.now
    = c.in_ok-extend_from_slice.ensures.items ∙ ap (λ (bs : List ℕ). c.args.out.now.items ++ bs) c.as_bytes.ensures.value in
    added c.args.out.now.items c.extend_from_slice.new.self.items c.args.text.now e c.utf8.text old
