-- The handles of a file: opens, strictly in order of session and number.
use Rattle.std.specs.Prelude.{ℕ, Bool, true, not, ◌&&◌, ◌||◌, ◌==◌, nat_lt, List, [], ◌∷◌, Option, Some, None, if◌then◌else◌, filter}
use Rattle.std.specs.List.{list_any}
use Rattle.fs_ident.specs.Ordered.{put_before}
use Rattle.fs_ident.specs.declared.actor.Session.{Session}
use Rattle.fs_modes.specs.declared.modes.Modes.{Modes}
use Rattle.fs_modes.specs.Modes.{conflicts}
use Rattle.fs_model.specs.declared.node.Handle.{Handle}

-- the session's handle of that number
abbrev pub is_at : Session → ℕ → Handle → Bool
is_at session h x = (x.session.0 == session.0) && (x.h == h)

-- by session, and then by number
abbrev pub comes_before : Handle → Handle → Bool
comes_before a b = nat_lt a.session.0 b.session.0 || ((a.session.0 == b.session.0) && nat_lt a.h b.h)

abbrev pub is_before_all : Handle → List Handle → Bool
is_before_all x [] = true
is_before_all x (y ∷ ys) = comes_before x y && is_before_all x ys

abbrev pub handles_are_in_order : List Handle → Bool
handles_are_in_order [] = true
handles_are_in_order (x ∷ xs) = is_before_all x xs && handles_are_in_order xs

-- the modes of the session's handle of that number
abbrev pub handle_at : List Handle → Session → ℕ → Option Modes
handle_at [] session h = None
handle_at (x ∷ xs) session h = if is_at session h x then Some x.modes else handle_at xs session h

-- with one more handle, before the first one that is greater
abbrev pub with_handle : List Handle → Handle → List Handle
with_handle handles new = put_before (comes_before new) new handles

-- without the session's handle of that number
abbrev pub without_handle : List Handle → Session → ℕ → List Handle
without_handle handles session h = filter (λ x. not (is_at session h x)) handles

-- without any handle of the session
abbrev pub without_session : List Handle → Session → List Handle
without_session handles session = filter (λ x. not (x.session.0 == session.0)) handles

-- some handle, of any session, conflicts with the modes
abbrev pub any_conflicts : List Handle → Modes → Bool
any_conflicts handles modes = list_any (λ x. conflicts x.modes modes) handles

-- some handle denies others to delete or to move the file
abbrev pub any_denies_delete : List Handle → Bool
any_denies_delete handles = list_any (λ x. x.modes.deny_d) handles
