use Rattle.std.proofs.Common.{◌≡◌, ◌++◌, ℕ, drop, map}
use Rattle.fs_modes.specs.declared.modes.Modes.{Modes}
use Rattle.fs_field.specs.declared.effect.Effect.TheVariants.{RemoveHandle}
use Rattle.fs_record.specs.ValueOf.{own_of}
use Rattle.fs_record.proofs.op_effects.reap.Given as goal

abbrev pub invariant-loop-x : goal.invariant-loop-x
invariant-loop-x l = l.told ++ map (λ (o : ℕ × Modes). RemoveHandle l.file l.by o.0) (own_of l.by (drop l.x-index l.handles)) ≡ map (λ (o : ℕ × Modes). RemoveHandle l.file l.by o.0) (own_of l.by l.handles)
