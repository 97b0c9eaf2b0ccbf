use Rattle.std.proofs.Common.{length, ap, sym, ◌∙◌}
use Rattle.std.specs.Prelude.{unwrap_or}
use Rattle.std.specs.List.{insert, position}
use Rattle.fs_field.specs.Table.{no_before}
use Rattle.fs_ident.proofs.Put.{put_at}
use Rattle.fs_rows.proofs.seek.put_row.Goals as goal

pub returns-clause-ok : goal.returns-clause-ok
returns-clause-ok c =
    c.in_ok-insert.ensures.items
    ∙ ap (λ at. insert c.args.rows.now.items at c.args.row) (c.place_at-at.ensures.place ∙ ap (λ rs. unwrap_or (position (λ r. no_before c.args.row.no r.no) rs) (length rs)) c.deref.ensures.value)
    ∙ sym (put_at (λ r. no_before c.args.row.no r.no) c.args.row c.args.rows.now.items)
