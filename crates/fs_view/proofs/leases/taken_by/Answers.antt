use Rattle.std.proofs.Common.{sym, ap, ◌∙◌}
use Rattle.std.specs.Prelude.{None}
use Rattle.std.specs.Option.{option_copied}
use Rattle.std.proofs.lemmas.List.{drop_all}
use Rattle.fs_view.specs.Index.{taken_by}
use Rattle.fs_view.proofs.Finding.{taken_by_number}
use Rattle.fs_view.proofs.leases.taken_by.Goals as goal

pub returns : goal.returns
returns c =
    ap (λ ns. taken_by c.args.now c.args.field.now c.args.kind c.args.leases.now.kept.items (option_copied c.loop-no.best) ns) (sym (drop_all c.loop-no.no-index c.args.numbers.now c.loop-no-test.false))
    ∙ c.loop-no.invariant ∙ ap (λ ns. taken_by c.args.now c.args.field.now c.args.kind c.args.leases.now.kept.items None ns) c.requires.numbers
    ∙ taken_by_number c.args.now c.args.field.now c.args.kind c.args.leases.now.kept.items c.requires.found.distinct
