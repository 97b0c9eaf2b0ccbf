use Rattle.std.proofs.Common.{◌&&◌, ap, sym, ◌∙◌}
use Rattle.fs_rows.specs.Moving.{are_new}
use Rattle.fs_parcel.proofs.Coming.{new_both}
use Rattle.fs_parcel.proofs.fitting.are_new.Goals as goal

pub returns-then-are_new : goal.returns-then-are_new
returns-then-are_new c =
    c.are_new-then-are_new.ensures
    ∙ ap (λ b. b && are_new c.args.modes.now c.args.more.now) (sym c.if-are_new.true ∙ c.are_new.ensures)
    ∙ sym (new_both c.args.rows.now c.args.modes.now c.args.more.now)

pub returns-else-are_new : goal.returns-else-are_new
returns-else-are_new c =
    c.if-are_new.false
    ∙ ap (λ b. b && are_new c.args.modes.now c.args.more.now) (sym c.if-are_new.false ∙ c.are_new.ensures)
    ∙ sym (new_both c.args.rows.now c.args.modes.now c.args.more.now)
