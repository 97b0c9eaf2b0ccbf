use Rattle.std.proofs.Common.{not, ap, sym, ◌∙◌, subst}
use Rattle.std.specs.List.{filter}
use Rattle.fs_field.specs.Table.{has_no}
use Rattle.fs_server.specs.Rows.{AreRows, in_one_list}
use Rattle.fs_parcel.proofs.Both.{filtered_both}
use Rattle.fs_parcel.proofs.Both.{filtered_rows}
use Rattle.fs_server.proofs.all_rows.AllRows.release.Goals as goal

pub returns : goal.returns
returns c = rw (← c.self.view_is)
    (ap (λ rows. in_one_list rows c.release-2.new.self) c.release.ensures.rows
    ∙ ap (in_one_list (filter (λ r. not (has_no c.args.no r)) c.self.inside.plain)) c.release-2.ensures.rows
    ∙ filtered_both (λ r. not (has_no c.args.no r)) c.self.inside.plain c.self.inside.modes c.self.invariant)

pub invariant_of-self : goal.invariant_of-self
invariant_of-self c = (
  c.release.ensures.valid,
  (
    c.release-2.ensures.valid,
    subst AreRows (sym (returns c ∙ ap (filter (λ r. not (has_no c.args.no r))) (sym c.self.view_is))) (filtered_rows (λ r. not (has_no c.args.no r)) (in_one_list c.self.inside.plain c.self.inside.modes) c.self.invariant.1.1),
  ),
)
