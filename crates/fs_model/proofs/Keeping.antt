-- Each step leaves every node in order.
use Rattle.std.proofs.Common.{◌≡◌, ℕ, List, Bool, true, false, refl, sym, subst, cond}
use Rattle.std.specs.Prelude.{Option, Some, None, not, is_some, nat_eq, ◌==◌, ◌&&◌, Result, Ok, Err, IfOk, OnErr}
use Rattle.std.specs.Ordering.{nat_cmp, eq_by_cmp}
use Rattle.std.specs.Cmp.Lexicographic.{slice_cmp, nat_list_cmp_total, pointwise}
use Rattle.std.specs.FinMap.{get}
use Rattle.std.specs.FinMap.Entries.{is_sorted-put, is_sorted-where_key}
use Rattle.fs_ident.specs.declared.actor.Session.{Session}
use Rattle.fs_ident.specs.declared.kind.Kind.{Kind}
use Rattle.fs_ident.specs.declared.kind.Kind.TheVariants.{File, Dir}
use Rattle.fs_ident.proofs.Options.{not_some}
use Rattle.fs_ident.proofs.Booleans.{held, holds}
use Rattle.fs_modes.specs.declared.modes.Modes.{Modes}
use Rattle.fs_model.specs.declared.node.Node.{Node}
use Rattle.fs_model.specs.declared.op.Op.{Op}
use Rattle.fs_model.specs.declared.op.Op.TheVariants as op
use Rattle.fs_model.specs.Children.{child_at}
use Rattle.fs_model.specs.Handles.{is_at, handle_at, any_conflicts}
use Rattle.fs_model.specs.Ancestors.{is_on_chain}
use Rattle.fs_model.specs.Namespace.{NodeMap, IsSpace, IsInOrder, with_change, with_change_at, fresh_node}
use Rattle.fs_model.specs.Step.{Stepped, step, with_link, without_link, at_place, with_info, with_open, without_open, without_opens, create, create_in, create_as, with_new_node, is_child, open_file, close, set, set_by, delete, delete_in, delete_child, is_childless, is_unused, rename, rename_in, rename_to, rename_to_dir, rename_child, denies_delete, with_moved_node}
use Rattle.fs_model.proofs.HandleOrder.{with_handle_in_order, filter_in_order}
use Rattle.fs_model.proofs.Spaces.{in_order_at, IsSpace-insert, IsSpace-remove, IsSpace-with_change}

-- ## Changes of one node

pub fresh_in_order : (kind : Kind) (parent : Option (List ℕ × List ℕ)) → IsInOrder (fresh_node kind parent)
fresh_in_order kind parent = record { children = refl; handles = refl }

pub with_link_in_order : (name id : List ℕ) (n : Node) → IsInOrder n → IsInOrder (with_link name id n)
with_link_in_order name id n own = record {
  children = holds _ (is_sorted-put (slice_cmp nat_cmp) nat_list_cmp_total name id n.children (held _ own.children));
  handles = own.handles;
}

pub without_link_in_order : (name : List ℕ) (n : Node) → IsInOrder n → IsInOrder (without_link name n)
without_link_in_order name n own = record {
  children = holds _ (is_sorted-where_key (slice_cmp nat_cmp) (λ other. not (eq_by_cmp (slice_cmp nat_cmp) name other)) n.children (held _ own.children));
  handles = own.handles;
}

pub at_place_in_order : (dir name : List ℕ) (n : Node) → IsInOrder n → IsInOrder (at_place dir name n)
at_place_in_order dir name n own = record { children = own.children; handles = own.handles }

pub with_info_in_order : (size stamp : ℕ) (n : Node) → IsInOrder n → IsInOrder (with_info size stamp n)
with_info_in_order size stamp n own = record { children = own.children; handles = own.handles }

pub with_open_in_order : (by : Session) (h : ℕ) (modes : Modes) (n : Node) → handle_at n.handles by h ≡ None → IsInOrder n → IsInOrder (with_open by h modes n)
with_open_in_order by h modes n free own = record { children = own.children; handles = with_handle_in_order (record { session = by; h = h; modes = modes }) n.handles free own.handles }

pub without_open_in_order : (by : Session) (h : ℕ) (n : Node) → IsInOrder n → IsInOrder (without_open by h n)
without_open_in_order by h n own = record { children = own.children; handles = filter_in_order (λ x. not (is_at by h x)) n.handles own.handles }

pub without_opens_in_order : (session : Session) (n : Node) → IsInOrder n → IsInOrder (without_opens session n)
without_opens_in_order session n own = record { children = own.children; handles = filter_in_order (λ x. not (x.session.0 == session.0)) n.handles own.handles }

-- ## Operations

kept_if : (b : Bool) (s t : Stepped) → (b ≡ true → IsSpace s.nodes) → (b ≡ false → IsSpace t.nodes) → IsSpace (cond b s t).nodes
kept_if true s t p q = p refl
kept_if false s t p q = q refl

with_new_node_kept : (m : NodeMap) (dir name : List ℕ) (kind : Kind) (id : List ℕ) → IsSpace m → IsSpace (with_new_node m dir name kind id)
with_new_node_kept m dir name kind id s =
    IsSpace-with_change (with_link name id) _ dir (with_link_in_order name id) (IsSpace-insert m id (fresh_node kind (Some (dir, name))) s (fresh_in_order kind (Some (dir, name))))

create_kept : (o : Option Node) (m : NodeMap) (dir name : List ℕ) (kind : Kind) (id : Option (List ℕ)) → IsSpace m → IsSpace (create o m dir name kind id).nodes
create_kept None m dir name kind id s = s
create_kept (Some d) m dir name kind id s = within d.kind
  where
    as_id : (id : Option (List ℕ)) → IsSpace (create_as m dir name kind id).nodes
    as_id None = s
    as_id (Some i) = kept_if (is_child dir i && not (is_some (get m i))) _ _ (λ e. with_new_node_kept m dir name kind i s) (λ e. s)

    within : (own : Kind) → IsSpace (create_in own m d dir name kind id).nodes
    within File = s
    within Dir = kept_if (is_some (child_at d.children name)) _ _ (λ e. s) (λ e. as_id id)

with_open_kept : (m : NodeMap) (by : Session) (file : List ℕ) (h : ℕ) (modes : Modes) (n : Node) → get m file ≡ Some n → handle_at n.handles by h ≡ None → IsSpace m → IsSpace (with_change (with_open by h modes) m file)
with_open_kept m by file h modes n e free s =
    subst (λ o. IsSpace (with_change_at (with_open by h modes) m file o)) (sym e) (IsSpace-insert m file (with_open by h modes n) s (with_open_in_order by h modes n free (in_order_at m s file n e)))

open_kept : (o : Option Node) (m : NodeMap) (by : Session) (file : List ℕ) (h : ℕ) (modes : Modes) → get m file ≡ o → IsSpace m → IsSpace (open_file o m by file h modes).nodes
open_kept None m by file h modes e s = s
open_kept (Some n) m by file h modes e s =
    kept_if (is_some (handle_at n.handles by h)) _ _ (λ _. s) (λ free.
    kept_if (any_conflicts n.handles modes) _ _ (λ _. s) (λ _. with_open_kept m by file h modes n e (not_some _ free) s))

close_kept : (o : Option Node) (m : NodeMap) (by : Session) (file : List ℕ) (h : ℕ) → IsSpace m → IsSpace (close o m by file h).nodes
close_kept None m by file h s = s
close_kept (Some n) m by file h s =
    kept_if (is_some (handle_at n.handles by h)) _ _ (λ _. IsSpace-with_change (without_open by h) m file (without_open_in_order by h) s) (λ _. s)

set_kept : (o : Option Node) (m : NodeMap) (by : Session) (file : List ℕ) (h size stamp : ℕ) → IsSpace m → IsSpace (set o m by file h size stamp).nodes
set_kept None m by file h size stamp s = s
set_kept (Some n) m by file h size stamp s = with_modes (handle_at n.handles by h)
  where
    with_modes : (o : Option Modes) → IsSpace (set_by o m file size stamp).nodes
    with_modes None = s
    with_modes (Some modes) = kept_if modes.acc_w _ _ (λ _. IsSpace-with_change (with_info size stamp) m file (with_info_in_order size stamp) s) (λ _. s)

delete_kept : (o : Option Node) (m : NodeMap) (dir name : List ℕ) → IsSpace m → IsSpace (delete o m dir name).nodes
delete_kept None m dir name s = s
delete_kept (Some d) m dir name s = within d.kind
  where
    of_child : (o : Option (List ℕ)) → IsSpace (delete_child m dir name o).nodes
    of_child None = s
    of_child (Some file) =
        kept_if (not (is_childless (get m file))) _ _ (λ _. s) (λ _.
        kept_if (not (is_unused (get m file))) _ _ (λ _. s) (λ _.
        IsSpace-remove (with_change (without_link name) m dir) file (IsSpace-with_change (without_link name) m dir (without_link_in_order name) s)))

    within : (own : Kind) → IsSpace (delete_in own m d dir name).nodes
    within File = s
    within Dir = of_child (child_at d.children name)

with_moved_node_kept : (m : NodeMap) (file sdir sname ddir dname : List ℕ) → IsSpace m → IsSpace (with_moved_node m file sdir sname ddir dname)
with_moved_node_kept m file sdir sname ddir dname s =
    IsSpace-with_change (at_place ddir dname) _ file (at_place_in_order ddir dname)
    (IsSpace-with_change (without_link sname) _ sdir (without_link_in_order sname)
    (IsSpace-with_change (with_link dname file) m ddir (with_link_in_order dname file) s))

rename_kept : (o : Option Node) (m : NodeMap) (sdir sname ddir dname : List ℕ) → IsSpace m → IsSpace (rename o m sdir sname ddir dname).nodes
rename_kept None m sdir sname ddir dname s = s
rename_kept (Some from) m sdir sname ddir dname s = within from.kind
  where
    of_child : (d : Node) (o : Option (List ℕ)) → IsSpace (rename_child m sdir sname d ddir dname o).nodes
    of_child d None = s
    of_child d (Some file) =
        kept_if (pointwise nat_eq sdir ddir && pointwise nat_eq sname dname) _ _ (λ _. s) (λ _.
        kept_if (is_some (child_at d.children dname)) _ _ (λ _. s) (λ _.
        kept_if (denies_delete (get m file)) _ _ (λ _. s) (λ _.
        kept_if (is_on_chain m file ddir) _ _ (λ _. s) (λ _. with_moved_node_kept m file sdir sname ddir dname s))))

    to_dir : (own : Kind) (d : Node) → IsSpace (rename_to_dir own m from sdir sname d ddir dname).nodes
    to_dir File d = s
    to_dir Dir d = of_child d (child_at from.children sname)

    to : (o : Option Node) → IsSpace (rename_to m from sdir sname o ddir dname).nodes
    to None = s
    to (Some d) = to_dir d.kind d

    within : (own : Kind) → IsSpace (rename_in own m from sdir sname ddir dname).nodes
    within File = s
    within Dir = to (get m ddir)

pub step_kept : (m : NodeMap) (by : Session) (o : Op) → IsSpace m → IsSpace (step m by o).nodes
step_kept m by (op.Lookup dir name) s = s
step_kept m by (op.List dir) s = s
step_kept m by (op.Kind file) s = s
step_kept m by (op.Info file) s = s
step_kept m by (op.Create dir name k id) s = create_kept (get m dir) m dir name k id s
step_kept m by (op.OpenFile file h modes) s = open_kept (get m file) m by file h modes refl s
step_kept m by (op.Close file h) s = close_kept (get m file) m by file h s
step_kept m by (op.Set file h size stamp) s = set_kept (get m file) m by file h size stamp s
step_kept m by (op.Delete dir name) s = delete_kept (get m dir) m dir name s
step_kept m by (op.Rename sdir sname ddir dname) s = rename_kept (get m sdir) m sdir sname ddir dname s
step_kept m by (op.Reap file session) s = IsSpace-with_change (without_opens session) m file (without_opens_in_order session) s

-- a space after a call that does one of two things
pub either_kept : {X E : Type 0} (r : Result X E) (old new told : NodeMap) → IfOk r (λ _. new ≡ told) → OnErr r (new ≡ old) → IsSpace old → IsSpace told → IsSpace new
either_kept (Ok x) old new told ok err s t = subst IsSpace (sym ok) t
either_kept (Err e) old new told ok err s t = subst IsSpace (sym err) s
