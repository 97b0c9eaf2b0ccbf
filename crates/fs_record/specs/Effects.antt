-- The effects of an operation that got a reply.
use Rattle.std.specs.Prelude.{ℕ, Bool, true, false, List, [], ◌∷◌, map, Some}
use Rattle.std.specs.FinMap.{get}
use Rattle.fs_ident.specs.declared.actor.Session.{Session}
use Rattle.fs_field.specs.declared.effect.Effect.{Effect}
use Rattle.fs_field.specs.declared.effect.Effect.TheVariants.{SetChild, NewNode, AddHandle, RemoveHandle, SetInfo}
use Rattle.fs_record.specs.Records.{RecordMap, node_of}
use Rattle.fs_record.specs.ValueOf.{handles_of, own_of}
use Rattle.fs_model.specs.declared.op.Op.{Op}
use Rattle.fs_model.specs.declared.op.Op.TheVariants as op
use Rattle.fs_model.specs.declared.reply.Reply.{Reply}
use Rattle.fs_model.specs.declared.reply.Reply.TheVariants as reply

-- it and its reply tell its effects: it is neither a rename, nor a delete, nor a reap
abbrev pub tells_its_effects : Op → Bool
tells_its_effects (op.Rename sdir sname ddir dname) = false
tells_its_effects (op.Delete dir name) = false
tells_its_effects (op.Reap file session) = false
tells_its_effects o = true

-- the effects of the session's operation that got the reply, where they tell them
abbrev pub effects_of : Session → Op → Reply → List Effect
effects_of by (op.Create dir name kind (Some id)) reply.Made = SetChild dir name (Some id) ∷ NewNode id kind dir name ∷ []
effects_of by (op.OpenFile file h modes) reply.Opened = AddHandle file by h modes ∷ []
effects_of by (op.Close file h) reply.Closed = RemoveHandle file by h ∷ []
effects_of by (op.Set file h size stamp) reply.Set = SetInfo file size stamp ∷ []
effects_of by o r = []

-- the effects of a reap: each of the session's handles on the file is taken away
abbrev pub reap_effects : RecordMap → List ℕ → Session → List Effect
reap_effects m file by = map (λ h. RemoveHandle file by h.0) (own_of by (handles_of (node_of (get m file))))
