use Rattle.std.proofs.Common.{ap, sym, ◌∙◌}
use Rattle.fs_path.specs.Index.{first_named}
use Rattle.fs_path.proofs.Over.{first_is}
use Rattle.fs_path.proofs.reads.through.Goals as goal

pub returns-then-is_whole : goal.returns-then-is_whole
returns-then-is_whole c =
    let index = c.requires (sym c.is_whole.ensures ∙ c.if-is_whole.true) in
    c.first_no.ensures ∙ ap first_named (c.at.ensures ∙ index.1 c.args.file.now) ∙ first_is c.args.file.now c.args.issued.now
