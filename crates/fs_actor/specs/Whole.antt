-- The message that bytes are, all of them.
use Rattle.std.specs.Prelude.{ℕ, List, [], ◌∷◌, Option, Some, None, Result, Ok, Err}
use Rattle.fs_wire.specs.declared.fault.Fault.{Fault}
use Rattle.fs_msg.specs.Reading.{message_at}
use Rattle.fs_msg.specs.declared.msg.Msg.{Msg}

-- the message, if no bytes are behind it
abbrev pub if_alone : Msg → List ℕ → Option Msg
if_alone m [] = Some m
if_alone m (b ∷ rest) = None

abbrev pub if_all : Result (Msg × List ℕ) Fault → Option Msg
if_all (Ok x) = if_alone x.0 x.1
if_all (Err f) = None

-- the message that all of the bytes are, if they are one
abbrev pub whole_message : List ℕ → Option Msg
whole_message bytes = if_all (message_at bytes)
