use Rattle.std.proofs.Common.{ap, sym, ◌∙◌, subst, map}
use Rattle.fs_field.specs.Table.{renewed_row}
use Rattle.fs_server.specs.Rows.{AreRows, in_one_list}
use Rattle.fs_parcel.proofs.Both.{renewed_both, renewed_if}
use Rattle.fs_server.proofs.Kept.{renewed_in_order}
use Rattle.fs_server.proofs.all_rows.AllRows.renew.Goals as goal

pub returns : goal.returns
returns c = rw (← c.self.view_is)
    (ap (λ rows. in_one_list rows c.renew-2.new.self) (renewed_if c.renew.result c.args.no c.args.until c.self.inside.plain c.renew.new.self c.renew.ensures.known c.renew.ensures.ok c.renew.ensures.err)
    ∙ ap (in_one_list (map (renewed_row c.args.no c.args.until) c.self.inside.plain)) (renewed_if c.renew-2.result c.args.no c.args.until c.self.inside.modes c.renew-2.new.self c.renew-2.ensures.known c.renew-2.ensures.ok c.renew-2.ensures.err)
    ∙ sym (renewed_both c.args.no c.args.until c.self.inside.plain c.self.inside.modes))

pub invariant_of-self : goal.invariant_of-self
invariant_of-self c = (
  c.renew.ensures.valid,
  (
    c.renew-2.ensures.valid,
    subst AreRows (sym (returns c ∙ ap (map (renewed_row c.args.no c.args.until)) (sym c.self.view_is))) (renewed_in_order c.args.no c.args.until (in_one_list c.self.inside.plain c.self.inside.modes) c.self.invariant.1.1),
  ),
)
