use Rattle.std.proofs.Common.{ap, sym, ◌∙◌}
use Rattle.std.specs.List.{insert}
use Rattle.fs_field.specs.Table.{no_before}
use Rattle.fs_ident.proofs.Put.{put_at}
use Rattle.fs_moderows.proofs.putting.put_one.Goals as goal

pub returns-clause-rows : goal.returns-clause-rows
returns-clause-rows c =
    c.in-Ok.ensures.items
    ∙ ap (λ n. insert c.args.rows.now.items n c.args.row) (rw c.deref.ensures.value at c.place_at-at.ensures.place)
    ∙ sym (put_at (λ r. no_before c.args.row.no r.no) c.args.row c.args.rows.now.items)
