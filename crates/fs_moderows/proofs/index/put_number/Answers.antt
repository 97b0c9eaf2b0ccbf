use Rattle.std.proofs.Common.{length, ap, sym, ◌∙◌}
use Rattle.std.specs.Prelude.{unwrap_or}
use Rattle.std.specs.List.{insert, position}
use Rattle.fs_field.specs.Table.{no_before}
use Rattle.fs_ident.proofs.Put.{put_at}
use Rattle.fs_moderows.proofs.index.put_number.Goals as goal

pub returns : goal.returns
returns c =
    c.in_ok-insert.ensures.items
    ∙ ap (λ at. insert c.args.numbers.now.items at c.args.no) (c.place_for-at.ensures.place ∙ ap (λ ns. unwrap_or (position (λ n. no_before c.args.no n) ns) (length ns)) c.deref.ensures.value)
    ∙ sym (put_at (λ n. no_before c.args.no n) c.args.no c.args.numbers.now.items)
