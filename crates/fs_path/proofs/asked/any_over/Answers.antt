use Rattle.std.proofs.Common.{ap, sym, not, length, ◌==◌, ◌∙◌}
use Rattle.fs_path.specs.Leases.{goes_over}
use Rattle.fs_path.proofs.Over.{some_named}
use Rattle.fs_path.proofs.asked.any_over.Goals as goal

pub returns-then-is_whole : goal.returns-then-is_whole
returns-then-is_whole c =
    let index = c.requires (sym c.is_whole.ensures ∙ c.if-is_whole.true) in
    ap not c.is_empty.ensures ∙ ap (λ ns. not (length ns == 0)) (c.at.ensures ∙ index.1 c.args.file.now) ∙ some_named (goes_over c.args.file.now) c.args.issued.now
