-- A sound space: one tree of directories and files, and no conflicting opens.
use Rattle.std.specs.Prelude.{◌≡◌, ◌≢◌, ℕ, Bool, true, false, IsTrue, not, ◌&&◌, List, [], ◌∷◌, Option, Some, None, ◌↔◌, IsSome, IfSome}
use Rattle.std.specs.FinMap.{get}
use Rattle.fs_ident.specs.declared.actor.Session.{Session}
use Rattle.fs_ident.specs.declared.kind.Kind.{Kind}
use Rattle.fs_ident.specs.declared.kind.Kind.TheVariants.{File, Dir}
use Rattle.fs_modes.specs.Modes.{has_access, conflicts}
use Rattle.fs_modes.specs.declared.modes.Modes.{Modes}
use Rattle.fs_model.specs.declared.node.Handle.{Handle}
use Rattle.fs_model.specs.declared.node.Node.{Node}
use Rattle.fs_model.specs.declared.op.Op.{Op}
use Rattle.fs_model.specs.declared.op.Op.TheVariants as op
use Rattle.fs_model.specs.declared.reply.Reply.{Reply}
use Rattle.fs_model.specs.declared.reply.Reply.TheVariants as reply
use Rattle.fs_model.specs.Namespace.{NodeMap, IsInOrder}
use Rattle.fs_model.specs.Children.{child_at}
use Rattle.fs_model.specs.Handles.{any_conflicts, handle_at}
use Rattle.fs_model.specs.Ancestors.{ancestors_within, is_among}
use Rattle.fs_model.specs.Step.{step}

-- ## What a node is in the tree

-- a file or a directory, if it is there
abbrev pub kind_of : Option Node → Option Kind
kind_of None = None
kind_of (Some n) = Some n.kind

-- the directory that it is in, and its name there
abbrev pub parent_of : Option Node → Option (List ℕ × List ℕ)
parent_of None = None
parent_of (Some n) = n.parent

-- its child of that name
abbrev pub child_of : Option Node → List ℕ → Option (List ℕ)
child_of None name = None
child_of (Some n) name = child_at n.children name

-- the chain of the file's parents ends at the root
abbrev pub ReachesRoot : NodeMap → List ℕ → Type 0
ReachesRoot m file = (k : ℕ) × IsTrue (is_among [] (file ∷ ancestors_within k m file))

-- the space is one tree
pub record IsTree (m : NodeMap) : Type 0 where
  -- the root is a directory
  pub root : kind_of (get m []) ≡ Some Dir
  -- the root has no parent
  pub unplaced : parent_of (get m []) ≡ None
  -- every other node has a parent
  pub placed : (file : List ℕ) → IsSome (get m file) → file ≢ [] → IsSome (parent_of (get m file))
  -- every parent is a directory
  pub in_directories : (file dir name : List ℕ) → parent_of (get m file) ≡ Some (dir, name) → kind_of (get m dir) ≡ Some Dir
  -- every chain of parents ends at the root
  pub rooted : (file : List ℕ) → IsSome (get m file) → ReachesRoot m file
  -- a directory has a child under a name exactly where the child's parent is that directory under that name
  pub agreeing : (dir name file : List ℕ) → (child_of (get m dir) name ≡ Some file) ↔ (parent_of (get m file) ≡ Some (dir, name))

-- ## What a node has

-- each handle has an access
abbrev pub all_have_access : List Handle → Bool
all_have_access [] = true
all_have_access (x ∷ xs) = has_access x.modes && all_have_access xs

-- no handle conflicts with a later one
abbrev pub none_conflict : List Handle → Bool
none_conflict [] = true
none_conflict (x ∷ xs) = not (any_conflicts xs x.modes) && none_conflict xs

-- the node by itself is sound
pub record IsSoundNode (n : Node) : Type 0 where
  -- files have no children
  pub childless : n.kind ≡ File → n.children ≡ []
  -- every handle has an access
  pub accessed : IsTrue (all_have_access n.handles)
  -- no two handles of one file conflict
  pub sharing : IsTrue (none_conflict n.handles)
  -- the lists are in order, so no two handles of one file have the same session and number
  pub in_order : IsInOrder n

-- the modes of the session's handle of that number
abbrev pub open_of : Option Node → Session × ℕ → Option Modes
open_of None at = None
open_of (Some n) at = handle_at n.handles at.0 at.1

-- two handles are of two sessions or of two numbers, and do not conflict
pub record AreApart (x y : Handle) : Type 0 where
  pub numbered : x.session.0 ≡ y.session.0 → x.h ≡ y.h → ⊥
  pub sharing : conflicts x.modes y.modes ≡ false

-- the space is one tree of sound nodes
pub record IsSound (m : NodeMap) : Type 0 where
  pub tree : IsTree m
  pub nodes : (file : List ℕ) → IfSome (get m file) IsSoundNode

-- ## Runs

-- an open asks for an access, as whatever a caller may ask does; nothing is asked of the other operations
abbrev pub AsksAccess : Op → Type 0
AsksAccess (op.OpenFile file h modes) = IsTrue (has_access modes)
AsksAccess _ = Unit {0}

-- the space after the operations, each by its session
abbrev pub space_after : NodeMap → List (Session × Op) → NodeMap
space_after m [] = m
space_after m (o ∷ os) = space_after (step m o.0 o.1).nodes os

-- each open of the list asks for an access
abbrev pub AllAskAccess : List (Session × Op) → Type 0
AllAskAccess [] = Unit {0}
AllAskAccess (o ∷ os) = AsksAccess o.1 × AllAskAccess os

-- the replies to operations that change the space; a file may also be renamed to the place that it has
abbrev pub is_change : Reply → Bool
is_change reply.Made = true
is_change reply.Opened = true
is_change reply.Closed = true
is_change reply.Set = true
is_change reply.Deleted = true
is_change reply.Renamed = true
is_change reply.Reaped = true
is_change _ = false
