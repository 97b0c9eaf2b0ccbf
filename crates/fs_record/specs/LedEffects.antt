-- The effects of a delete or a rename that got a reply.
use Rattle.std.specs.Prelude.{ℕ, Bool, true, false, ◌&&◌, not, List, [], ◌∷◌, Option, Some, None}
use Rattle.std.specs.FinMap.{get}
use Rattle.fs_ident.specs.Ident.{same}
use Rattle.fs_field.specs.declared.effect.Effect.{Effect}
use Rattle.fs_field.specs.declared.effect.Effect.TheVariants.{SetChild, SetParent, RemoveNode}
use Rattle.fs_model.specs.declared.op.Op.{Op}
use Rattle.fs_model.specs.declared.op.Op.TheVariants as op
use Rattle.fs_model.specs.declared.reply.Reply.{Reply}
use Rattle.fs_model.specs.declared.reply.Reply.TheVariants as reply
use Rattle.fs_model.specs.Namespace.{NodeMap}
use Rattle.fs_model.specs.Sound.{child_of}

-- the new name stands for the file, the old one for none, and the file stands in its new place
abbrev pub move_effects : List ℕ → List ℕ → List ℕ → List ℕ → List ℕ → List Effect
move_effects file sdir sname ddir dname = SetChild ddir dname (Some file) ∷ SetChild sdir sname None ∷ SetParent file ddir dname ∷ []

-- the name stands for none, and the file lives no longer
abbrev pub removal_effects : List ℕ → List ℕ → List ℕ → List Effect
removal_effects file dir name = SetChild dir name None ∷ RemoveNode file ∷ []

-- the effects of the operation on this file, where it is a rename or a delete that got the reply
abbrev pub led_effects : Op → List ℕ → Reply → List Effect
led_effects (op.Rename sdir sname ddir dname) file reply.Renamed = move_effects file sdir sname ddir dname
led_effects (op.Delete dir name) file reply.Deleted = removal_effects file dir name
led_effects o file r = []

-- a rename, but to the place that the file has; or a delete
abbrev pub moves_or_removes : Op → Bool
moves_or_removes (op.Rename sdir sname ddir dname) = not (same sdir ddir && same sname dname)
moves_or_removes (op.Delete dir name) = true
moves_or_removes o = false

-- the file that a rename moves, or a delete removes
abbrev pub named_file : NodeMap → Op → Option (List ℕ)
named_file m (op.Rename sdir sname ddir dname) = child_of (get m sdir) sname
named_file m (op.Delete dir name) = child_of (get m dir) name
named_file m o = None
