-- What a delete or a rename does in a space.
use Rattle.std.specs.Prelude.{ℕ, List, [], Option, Some, None}
use Rattle.fs_ident.specs.declared.actor.Session.{Session}
use Rattle.fs_field.specs.declared.effect.Effect.{Effect}
use Rattle.fs_model.specs.Namespace.{NodeMap}
use Rattle.fs_model.specs.Step.{step}
use Rattle.fs_model.specs.declared.op.Op.{Op}
use Rattle.fs_model.specs.declared.reply.Reply.{Reply}
use Rattle.fs_record.specs.LedEffects.{led_effects, named_file}

-- the effects on the file that has the name, if one has it
abbrev pub effects_on : Op → Option (List ℕ) → Reply → List Effect
effects_on o None r = []
effects_on o (Some file) r = led_effects o file r

-- the effects of the session's operation, on the file that goes or moves, by the reply that it gets
abbrev pub led_effects_in : NodeMap → Session → Op → List Effect
led_effects_in m by o = effects_on o (named_file m o) (step m by o).reply
