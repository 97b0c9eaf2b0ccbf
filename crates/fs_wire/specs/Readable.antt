-- Which values are read again from their bytes, beyond what their types say.
use Rattle.std.specs.Prelude.{ℕ, Bool, true, ◌&&◌, ◌^◌, Option, Some, None, nat_le}
use Rattle.std.specs.List.{list_all}
use Rattle.fs_ident.specs.declared.actor.Session.{Session}
use Rattle.fs_ident.specs.declared.limits.TheConstants.{SESSIONS}
use Rattle.fs_modes.specs.Modes.{has_access}
use Rattle.fs_field.specs.declared.value.Value.{Value}
use Rattle.fs_field.specs.declared.value.Value.TheVariants as value_
use Rattle.fs_field.specs.declared.row.Row.{Row}
use Rattle.fs_field.specs.declared.effect.Effect.{Effect}
use Rattle.fs_field.specs.declared.effect.Effect.TheVariants as effect_
use Rattle.fs_model.specs.declared.node.Handle.{Handle}
use Rattle.fs_model.specs.declared.node.Node.{Node}
use Rattle.fs_model.specs.declared.op.Op.{Op}
use Rattle.fs_model.specs.declared.op.Op.TheVariants as op_

-- there is nothing, or something that passes
abbrev pub option_all : {A : Type 0} → (A → Bool) → Option A → Bool
option_all test None = true
option_all test (Some x) = test x

-- both parts pass
abbrev pub pair_all : {A B : Type 0} → (A → Bool) → (B → Bool) → A × B → Bool
pair_all first second p = first p.0 && second p.1

-- the session's number is from 1 to the greatest
abbrev pub is_readable_session : Session → Bool
is_readable_session s = nat_le 1 s.0 && nat_le s.0 SESSIONS

-- an open has an access, and a reap is of a session that there may be
abbrev pub is_readable_op : Op → Bool
is_readable_op (op_.OpenFile file h m) = has_access m
is_readable_op (op_.Reap file s) = is_readable_session s
is_readable_op o = true

-- each handle has an access
abbrev pub is_readable_value : Value → Bool
is_readable_value (value_.Own handles) = list_all (λ h. has_access h.1) handles
is_readable_value v = true

-- the next number of a directory is from 1 to 2^32
abbrev pub is_readable_next : ℕ → Bool
is_readable_next n = nat_le 1 n && nat_le n (2 ^ 32)

-- its session is one that there may be
abbrev pub is_readable_row : Row → Bool
is_readable_row r = is_readable_session r.session

-- its session is one that there may be, and where a handle begins it has an access
abbrev pub is_readable_effect : Effect → Bool
is_readable_effect (effect_.AddHandle file s h m) = is_readable_session s && has_access m
is_readable_effect (effect_.RemoveHandle file s h) = is_readable_session s
is_readable_effect e = true

-- its session is one that there may be, and it has an access
abbrev pub is_readable_handle : Handle → Bool
is_readable_handle h = is_readable_session h.session && has_access h.modes

-- its handles are readable
abbrev pub is_readable_node : Node → Bool
is_readable_node n = list_all is_readable_handle n.handles
