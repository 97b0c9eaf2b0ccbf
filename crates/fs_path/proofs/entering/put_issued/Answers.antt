use Rattle.std.proofs.Common.{length, ap, sym, ◌∙◌}
use Rattle.std.specs.Prelude.{unwrap_or}
use Rattle.std.specs.List.{insert, position}
use Rattle.fs_ident.proofs.Put.{put_at}
use Rattle.fs_path.specs.Leases.{path_before}
use Rattle.fs_path.proofs.entering.put_issued.Goals as goal

pub returns-in-Ok-clause-ok : goal.returns-in-Ok-clause-ok
returns-in-Ok-clause-ok c =
    c.in-Ok.ensures.items
    ∙ ap (λ at. insert c.args.issued.now.items at c.args.l)
    (c.issued_place-at.ensures.place
    ∙ ap (λ n. unwrap_or (position (λ x. path_before n x.no) c.deref.result.now) (length c.deref.result.now)) c.no.ensures
    ∙ ap (λ rs. unwrap_or (position (λ x. path_before c.args.l.no x.no) rs) (length rs)) c.deref.ensures.value)
    ∙ sym (put_at (λ x. path_before c.args.l.no x.no) c.args.l c.args.issued.now.items)
