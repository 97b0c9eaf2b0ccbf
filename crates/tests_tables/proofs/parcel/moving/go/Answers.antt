use Rattle.std.proofs.Common.{not}
use Rattle.fs_map.specs.Lists.{piece_of}
use Rattle.fs_rows.specs.Moving.{is_on_given}
use Rattle.fs_parcel.proofs.Moved.{either_passed}
use Rattle.tests_tables.proofs.parcel.moving.go.Goals as goal

pub returns : goal.returns
returns c =
    let s = c.args.s.now in
    let prefix = c.args.prefix.now in
    either_passed c.pack_up.result (λ r. not (is_on_given prefix (piece_of s.map s.me prefix) r)) s.rows s.modes _ _ (c.all.ensures.valid, (c.all-2.ensures.valid, c.requires)) c.pack_up.ensures.rows c.pack_up.ensures.err_rows c.pack_up.ensures.modes c.pack_up.ensures.err_modes
