use Rattle.std.proofs.Common.{ap, sym, ◌∙◌, subst}
use Rattle.std.specs.List.{filter}
use Rattle.fs_field.specs.Table.{is_live}
use Rattle.fs_server.specs.Rows.{AreRows, in_one_list}
use Rattle.fs_parcel.proofs.Both.{filtered_both}
use Rattle.fs_parcel.proofs.Both.{filtered_rows}
use Rattle.fs_server.proofs.all_rows.AllRows.lapse.Goals as goal

pub returns : goal.returns
returns c = rw (← c.self.view_is)
    (ap (λ rows. in_one_list rows c.lapse-2.new.self) c.lapse.ensures.rows
    ∙ ap (in_one_list (filter (is_live c.args.now c.args.skew) c.self.inside.plain)) c.lapse-2.ensures.rows
    ∙ filtered_both (is_live c.args.now c.args.skew) c.self.inside.plain c.self.inside.modes c.self.invariant)

pub invariant_of-self : goal.invariant_of-self
invariant_of-self c = (
  c.lapse.ensures.valid,
  (
    c.lapse-2.ensures.valid,
    subst AreRows (sym (returns c ∙ ap (filter (is_live c.args.now c.args.skew)) (sym c.self.view_is))) (filtered_rows (is_live c.args.now c.args.skew) (in_one_list c.self.inside.plain c.self.inside.modes) c.self.invariant.1.1),
  ),
)
