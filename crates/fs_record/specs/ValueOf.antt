-- The value of a field in records, as one session sees it.
use Rattle.std.specs.Prelude.{ℕ, Bool, true, false, not, ◌&&◌, ◌==◌, nat_lt, List, [], ◌∷◌, Option, Some, None, if◌then◌else◌}
use Rattle.std.specs.List.{list_any, list_all}
use Rattle.std.specs.FinMap.{get}
use Rattle.fs_ident.specs.declared.actor.Session.{Session}
use Rattle.fs_modes.specs.declared.modes.Mode.{Mode}
use Rattle.fs_modes.specs.declared.modes.Modes.{Modes}
use Rattle.fs_modes.specs.Modes.{has, or, none}
use Rattle.fs_field.specs.declared.field.Field.{Field}
use Rattle.fs_field.specs.declared.field.Field.TheVariants.{Life, Child, Names, Info, Own, SelfW, Other}
use Rattle.fs_field.specs.declared.value.Value.{Value}
use Rattle.fs_field.specs.declared.value.Value.TheVariants as value
use Rattle.fs_field.specs.Field.{file_of}
use Rattle.fs_field.specs.After.{Handles, info_value}
use Rattle.fs_field.specs.Conflict.{Selves}
use Rattle.fs_model.specs.declared.node.Handle.{Handle}
use Rattle.fs_model.specs.declared.node.Node.{Node}
use Rattle.fs_model.specs.Children.{names_of}
use Rattle.fs_model.specs.Sound.{kind_of, child_of}
use Rattle.fs_model.specs.Step.{children_of}
use Rattle.fs_record.specs.Records.{RecordMap, node_of}

-- size and stamp; without a node both are 0
abbrev pub info_of : Option Node → ℕ × ℕ
info_of None = (0, 0)
info_of (Some n) = (n.size, n.stamp)

-- the handles of all sessions
abbrev pub handles_of : Option Node → List Handle
handles_of None = []
handles_of (Some n) = n.handles

-- the session's handles and the modes of each
abbrev pub own_of : Session → List Handle → Handles
own_of s [] = []
own_of s (x ∷ xs) = if x.session.0 == s.0 then (x.h, x.modes) ∷ own_of s xs else own_of s xs

-- some other session has the mode
abbrev pub others_have : Session → Mode → List Handle → Bool
others_have s m handles = list_any (λ x. not (x.session.0 == s.0) && has x.modes m) handles

-- the value that the node, or its absence, gives the field
abbrev pub value_at : Session → Field → Option Node → Value
value_at s (Life f) o = value.Life (kind_of o)
value_at s (Child d name) o = value.Child (child_of o name)
value_at s (Names d) o = value.Names (names_of (children_of o))
value_at s (Info f) o = info_value (info_of o)
value_at s (Own f) o = value.Own (own_of s (handles_of o))
value_at s (SelfW f m) o = value.SelfW
value_at s (Other f m) o = value.Other (others_have s m (handles_of o))

-- the value of the field in the records
abbrev pub value_of : RecordMap → Session → Field → Value
value_of m s field = value_at s field (node_of (get m (file_of field)))

-- the session with the modes so far, with those of its further handles, and then the sessions behind it
abbrev pub selves_from : Session → Modes → List Handle → List (Session × Modes)
selves_from s modes [] = (s, modes) ∷ []
selves_from s modes (x ∷ xs) =
    if x.session.0 == s.0 then selves_from s (or modes x.modes) xs
    else (s, modes) ∷ selves_from x.session x.modes xs

-- the sessions with handles, each once with what its handles have together
abbrev pub selves_of : List Handle → List (Session × Modes)
selves_of [] = []
selves_of (x ∷ xs) = selves_from x.session x.modes xs

-- the sessions with handles on the file, each once with what its handles have together
abbrev pub selves_in : RecordMap → Selves
selves_in m file = selves_of (handles_of (node_of (get m file)))

-- ## What the sessions with handles have

-- the session has a handle
abbrev pub has_handle : Session → List Handle → Bool
has_handle s handles = list_any (λ x. x.session.0 == s.0) handles

-- what the session's handles have together
abbrev pub modes_of : Session → List Handle → Modes
modes_of s [] = none
modes_of s (x ∷ xs) = if x.session.0 == s.0 then or x.modes (modes_of s xs) else modes_of s xs

-- what the list tells of the session
abbrev pub modes_told_of : Session → List (Session × Modes) → Option Modes
modes_told_of s [] = None
modes_told_of s (e ∷ es) = if e.0.0 == s.0 then Some e.1 else modes_told_of s es

-- the sessions rise
abbrev pub is_by_session : List (Session × Modes) → Bool
is_by_session [] = true
is_by_session (e ∷ es) = list_all (λ f. nat_lt e.0.0 f.0.0) es && is_by_session es

abbrev pub is_other : Field → Bool
is_other (Other f m) = true
is_other field = false
