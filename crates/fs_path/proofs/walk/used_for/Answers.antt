use Rattle.std.proofs.Common.{ap, sym, ◌∙◌}
use Rattle.fs_path.specs.Index.{used_named}
use Rattle.fs_path.proofs.Own.{own_rises, used_own}
use Rattle.fs_path.proofs.walk.used_for.Goals as goal

pub used_named-requires : goal.used_named-requires
used_named-requires c = own_rises c.args.had.now.own c.args.held.now c.requires.0 (sym c.is_whole.ensures ∙ c.if-is_whole.true)

pub returns-then-is_whole : goal.returns-then-is_whole
returns-then-is_whole c =
    c.used_named.ensures
    ∙ ap (λ ns. used_named ns c.args.held.now) c.at.ensures
    ∙ used_own c.args.file.now c.args.had.now.own c.args.held.now c.requires.0 (sym c.is_whole.ensures ∙ c.if-is_whole.true)
