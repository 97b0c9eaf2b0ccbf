use Rattle.std.proofs.Common.{◌||◌, ap, sym, ◌∙◌}
use Rattle.std.specs.List.{list_any}
use Rattle.fs_field.specs.Table.{has_no}
use Rattle.fs_parcel.proofs.Coming.{any_with_rows}
use Rattle.fs_server.proofs.all_live.AllLive.has.Goals as goal

pub returns-then-has : goal.returns-then-has
returns-then-has c =
    let plain = c.self.inside.plain in
    let modes = c.self.inside.modes in
    rw (← c.self.view_is) (c.if-has.true ∙ sym (any_with_rows (has_no c.args.no) modes plain ∙ ap (λ b. b || list_any (has_no c.args.no) modes) (sym c.has.ensures ∙ c.if-has.true)))

pub returns-else-has : goal.returns-else-has
returns-else-has c =
    let plain = c.self.inside.plain in
    let modes = c.self.inside.modes in
    rw (← c.self.view_is) (c.has-else-has.ensures ∙ sym (any_with_rows (has_no c.args.no) modes plain ∙ ap (λ b. b || list_any (has_no c.args.no) modes) (sym c.has.ensures ∙ c.if-has.false)))
