-- What a client's script asks for, its node can ask.
use Rattle.std.proofs.Common.{true, ℕ, List, [], ◌∷◌}
use Rattle.std.specs.List.{AllByRecursion}
use Rattle.fs_node.specs.Scripts.{AreAskable}
use Rattle.fs_schedule.specs.Script.{FitsScript, served}
use Rattle.fs_schedule.specs.declared.script.Script.{Script}
use Rattle.fs_schedule.specs.declared.script.Script.TheVariants as script

pub askable : (servers : ℕ) (lines : List Script) → AllByRecursion (FitsScript true (served servers)) lines → AreAskable lines
askable servers [] f = tt
askable servers (script.Op o ∷ lines) f = (f.0.0, askable servers lines f.1)
askable servers (script.Recall field ∷ lines) f = absurd f.0
askable servers (script.Move prefix to ∷ lines) f = absurd f.0
