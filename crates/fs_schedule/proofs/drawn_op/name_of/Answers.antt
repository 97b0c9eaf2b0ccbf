use Rattle.std.proofs.Common.{ap}
use Rattle.std.specs.Prelude.{Err}
use Rattle.fs_ident.specs.declared.error.IdError.{IdError}
use Rattle.fs_schedule.proofs.drawn_op.name_of.Goals as goal

pub unreachable-requires : goal.unreachable-requires
unreachable-requires c =
    let bad = (c.in-Err-BadName.ensures.bad c.in-Err-BadName.field-0-0).0 (ap (λ (x : IdError). Err x) c.in-Err-BadName.field-0-is) in
    bad.0 c.requires.name
