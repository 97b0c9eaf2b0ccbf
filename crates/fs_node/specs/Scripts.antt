-- The lines of scripts, as a node takes them.
use Rattle.std.specs.Prelude.{◌≡◌, true, List, Option, Some, None}
use Rattle.std.specs.List.{AllByRecursion}
use Rattle.fs_model.specs.Asking.{may_ask}
use Rattle.fs_model.specs.declared.op.Op.{Op as TheOp}
use Rattle.fs_schedule.specs.declared.script.Script.{Script}
use Rattle.fs_schedule.specs.declared.script.Script.TheVariants.{Op, Recall, Move}
use Rattle.fs_server.specs.declared.event.ServerEvent.{ServerEvent}
use Rattle.fs_server.specs.declared.event.ServerEvent.TheVariants as event

-- the operation that the line asks for, if it is there
abbrev pub asked_by : Option Script → Option TheOp
asked_by (Some (Op o)) = Some o
asked_by line = None

-- the server's event that the line is, if it is there
abbrev pub event_by : Option Script → Option ServerEvent
event_by (Some (Recall field)) = Some (event.Recall field)
event_by (Some (Move prefix to)) = Some (event.Move prefix to)
event_by line = None

-- a client can be asked for it
abbrev pub CanBeAsked : TheOp → Type 0
CanBeAsked o = may_ask o ≡ true

abbrev pub IsAskable : Script → Type 0
IsAskable (Op o) = CanBeAsked o
IsAskable line = Unit {0}

abbrev pub AreAskable : List Script → Type 0
AreAskable script = AllByRecursion IsAskable script
