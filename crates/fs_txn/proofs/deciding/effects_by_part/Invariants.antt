use Rattle.std.proofs.Common.{◌≡◌, map, take}
use Rattle.fs_field.specs.declared.used.Part.{Part}
use Rattle.fs_txn.specs.Deciding.{effects_on}
use Rattle.fs_txn.proofs.deciding.effects_by_part.Given as goal

abbrev pub invariant-loop-part : goal.invariant-loop-part
invariant-loop-part l = l.told ≡ map (λ (p : Part). effects_on l.effects p.file) (take l.part-index l.parts)
