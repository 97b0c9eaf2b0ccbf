use Rattle.std.proofs.Common.{ap, sym, ◌∙◌}
use Rattle.std.specs.List.{insert}
use Rattle.fs_field.specs.Table.{no_before}
use Rattle.fs_ident.proofs.Put.{put_at}
use Rattle.fs_rows.proofs.grants.put.Goals as goal

pub returns-clause-rows : goal.returns-clause-rows
returns-clause-rows c =
    c.in-Ok.ensures.items
    ∙ ap (λ n. insert c.args.rows.now.items n c.args.row) c.requires.place
    ∙ sym (put_at (λ r. no_before c.args.row.no r.no) c.args.row c.args.rows.now.items)
