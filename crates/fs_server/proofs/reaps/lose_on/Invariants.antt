use Rattle.std.proofs.Common.{◌≡◌, drop}
use Rattle.fs_field.specs.declared.field.Field.TheVariants.{Own}
use Rattle.fs_server.proofs.Losing.{IsLosing}
use Rattle.fs_server.proofs.reaps.lose_on.Given as goal

abbrev pub invariant-loop-session : goal.invariant-loop-session
invariant-loop-session l = IsLosing l.at l.file l.initial.lost (drop l.session-index l.session-items) l.lost l.selves × (l.own ≡ Own l.file)
