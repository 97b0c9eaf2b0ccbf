use Rattle.std.proofs.Common.{not, ap, sym, ◌∙◌, subst}
use Rattle.fs_rows.specs.Moving.{is_on_given, rows_left}
use Rattle.fs_server.specs.Rows.{AreRows, in_one_list}
use Rattle.fs_parcel.proofs.Both.{filtered_both, filtered_rows}
use Rattle.fs_server.proofs.all_rows.AllRows.leave.Goals as goal

pub returns : goal.returns
returns c = rw (← c.self.view_is)
    (ap (λ rows. in_one_list rows c.leave-2.new.self) c.leave.ensures.left
    ∙ ap (in_one_list (rows_left c.args.piece.now.prefix c.args.piece.now.given c.self.inside.plain)) c.leave-2.ensures.left
    ∙ filtered_both (λ r. not (is_on_given c.args.piece.now.prefix c.args.piece.now.given r)) c.self.inside.plain c.self.inside.modes c.self.invariant)

pub invariant_of-self : goal.invariant_of-self
invariant_of-self c = (
  c.leave.ensures.valid,
  (
    c.leave-2.ensures.valid,
    subst AreRows (sym (returns c ∙ ap (rows_left c.args.piece.now.prefix c.args.piece.now.given) (sym c.self.view_is))) (filtered_rows (λ r. not (is_on_given c.args.piece.now.prefix c.args.piece.now.given r)) (in_one_list c.self.inside.plain c.self.inside.modes) c.self.invariant.1.1),
  ),
)
