use Rattle.std.proofs.Common.{ap, sym, ◌∙◌}
use Rattle.fs_path.specs.Index.{has_other}
use Rattle.fs_path.specs.Leases.{goes_over}
use Rattle.fs_path.proofs.Over.{other_named}
use Rattle.fs_path.proofs.returning.any_over_but.Goals as goal

pub returns-then-is_whole : goal.returns-then-is_whole
returns-then-is_whole c =
    let index = c.requires (sym c.is_whole.ensures ∙ c.if-is_whole.true) in
    c.has_other.ensures ∙ ap (has_other c.args.no) (c.at.ensures ∙ index.1 c.args.file.now) ∙ other_named (goes_over c.args.file.now) c.args.no c.args.issued.now
