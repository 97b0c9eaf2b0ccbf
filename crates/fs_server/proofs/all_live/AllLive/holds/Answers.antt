use Rattle.std.proofs.Common.{◌||◌, ap, sym, ◌∙◌}
use Rattle.std.specs.List.{list_any}
use Rattle.fs_field.specs.Table.{is_lease}
use Rattle.fs_parcel.proofs.Coming.{any_with_rows}
use Rattle.fs_server.proofs.all_live.AllLive.holds.Goals as goal

pub returns-then-holds : goal.returns-then-holds
returns-then-holds c =
    let plain = c.self.inside.plain in
    let modes = c.self.inside.modes in
    rw (← c.self.view_is) (c.if-holds.true ∙ sym (any_with_rows (is_lease c.args.no c.args.session c.args.field.now c.args.kind) modes plain ∙ ap (λ b. b || list_any (is_lease c.args.no c.args.session c.args.field.now c.args.kind) modes) (sym c.holds.ensures ∙ c.if-holds.true)))

pub returns-else-holds : goal.returns-else-holds
returns-else-holds c =
    let plain = c.self.inside.plain in
    let modes = c.self.inside.modes in
    rw (← c.self.view_is) (c.holds-else-holds.ensures ∙ sym (any_with_rows (is_lease c.args.no c.args.session c.args.field.now c.args.kind) modes plain ∙ ap (λ b. b || list_any (is_lease c.args.no c.args.session c.args.field.now c.args.kind) modes) (sym c.holds.ensures ∙ c.if-holds.false)))
