use Rattle.std.proofs.Common.{◌≡◌, ◌++◌, ap, sym, ◌∙◌}
use Rattle.fs_field.specs.Table.{borne_numbers}
use Rattle.fs_record.specs.Fresh.{is_borne}
use Rattle.fs_rows.proofs.Bearing.{bears-with_rows}
use Rattle.fs_server.proofs.Giving.{both_borne}
use Rattle.fs_server.proofs.all_live.AllLive.borne.Goals as goal

pub returns : goal.returns
returns c =
    let plain = c.self.inside.plain in
    let modes = c.self.inside.modes in
    let told : c.extend_from_slice.new.self.items ≡ c.in_ok-told.told ++ c.in_ok-others.others = cc (c.in_ok-extend_from_slice.ensures.items, c.items_mut.ensures.value, c.as_slice.ensures) in
    rw (← c.self.view_is) (λ k.
    ap (λ numbers. is_borne numbers k) told
    ∙ both_borne k c.in_ok-told.told c.in_ok-others.others (borne_numbers c.args.dir.now plain) (borne_numbers c.args.dir.now modes) (c.in_ok-told.ensures.same k) (c.in_ok-others.ensures.same k)
    ∙ sym (bears-with_rows c.args.dir.now k modes plain))
