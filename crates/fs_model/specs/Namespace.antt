-- The namespace: a finite map from identifiers to nodes.
use Rattle.std.specs.Prelude.{ℕ, IsTrue, List, [], Option, Some, None, IfSome}
use Rattle.std.specs.FinMap.{FinMap, get, insert, empty}
use Rattle.std.specs.Ordering.{nat_cmp}
use Rattle.std.specs.Cmp.Lexicographic.{slice_cmp}
use Rattle.fs_ident.specs.Ordered.{are_keys_in_order}
use Rattle.fs_ident.specs.declared.kind.Kind.{Kind}
use Rattle.fs_ident.specs.declared.kind.Kind.TheVariants.{Dir}
use Rattle.fs_model.specs.declared.node.Node.{Node}
use Rattle.fs_model.specs.Handles.{handles_are_in_order}

abbrev pub NodeMap : Type 0
NodeMap = FinMap (slice_cmp nat_cmp) Node

-- a new node, with nothing in it
abbrev pub fresh_node : Kind → Option (List ℕ × List ℕ) → Node
fresh_node kind parent = record { kind = kind; parent = parent; children = []; size = 0; stamp = 0; handles = [] }

abbrev pub root_node : Node
root_node = fresh_node Dir None

-- the root directory alone
abbrev pub first_space : NodeMap
first_space = insert empty [] root_node

-- the children are in order of name, and the handles in order of session and number
pub record IsInOrder (n : Node) : Type 0 where
  pub children : IsTrue (are_keys_in_order n.children)
  pub handles : IsTrue (handles_are_in_order n.handles)

-- each node of the space is in order
abbrev pub IsSpace : NodeMap → Type 0
IsSpace m = (id : List ℕ) → IfSome (get m id) IsInOrder

-- the space where the file, if it has a node, has it changed
abbrev pub with_change_at : (Node → Node) → NodeMap → List ℕ → Option Node → NodeMap
with_change_at f m id None = m
with_change_at f m id (Some n) = insert m id (f n)

abbrev pub with_change : (Node → Node) → NodeMap → List ℕ → NodeMap
with_change f m id = with_change_at f m id (get m id)
