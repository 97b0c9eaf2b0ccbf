use Rattle.std.proofs.Common.{◌≡◌, ℕ, List, ◌++◌, ap, ◌∙◌}
use Rattle.fs_report.proofs.Text.{name_added}
use Rattle.fs_report.proofs.pieces.put_bare_name.Goals as goal

pub returns-clause-text : goal.returns-clause-text
returns-clause-text c = λ old.
    let e : c.extend_from_slice.new.self.items ≡ c.args.out.now.items ++ c.args.name.now
    = c.in_ok-extend_from_slice.ensures.items ∙ ap (λ (bs : List ℕ). c.args.out.now.items ++ bs) c.bytes.ensures.same in
    name_added c.args.out.now.items c.extend_from_slice.new.self.items c.args.name.now e c.bytes.ensures.valid old
