-- What is known of the way up stays true where no file is put elsewhere.
use Rattle.std.proofs.Common.{◌≡◌, ◌≢◌, ◌⊎◌, inl, inr, ◌∙◌, ℕ, List, Bool, true, false, refl, sym, ap, subst, cond}
use Rattle.std.specs.Prelude.{Option, Some, None, not, is_some, ◌&&◌, Result, Ok, Err, IfOk, OnOk, OnErr}
use Rattle.std.specs.FinMap.{get, insert, remove}
use Rattle.fs_ident.specs.declared.actor.Session.{Session}
use Rattle.fs_ident.specs.declared.kind.Kind.{Kind}
use Rattle.fs_ident.specs.declared.kind.Kind.TheVariants.{File, Dir}
use Rattle.fs_ident.proofs.Options.{absent_is}
use Rattle.fs_modes.specs.declared.modes.Modes.{Modes}
use Rattle.fs_model.specs.declared.node.Node.{Node}
use Rattle.fs_model.specs.declared.ways.Way.{Way}
use Rattle.fs_model.specs.Ancestors.{directory_of}
use Rattle.fs_model.specs.Children.{child_at}
use Rattle.fs_model.specs.Handles.{handle_at, any_conflicts}
use Rattle.fs_model.specs.Namespace.{NodeMap, with_change, fresh_node}
use Rattle.fs_model.specs.Step.{Stepped, with_link, without_link, at_place, with_info, with_open, without_open, without_opens, create, create_in, create_as, with_new_node, is_child, open_file, close, set, set_by}
use Rattle.fs_model.specs.Ways.{file_at, directory_from, AreTrue, StayBut, StaysTrueBut}
use Rattle.fs_model.proofs.SoundMaps.{view_kept, either, insert_other, remove_other, with_change_other}

-- no file is put elsewhere
abbrev pub Keeps : NodeMap → NodeMap → Type 0
Keeps m n = (k dir : List ℕ) → directory_of (get m k) ≡ Some dir → directory_of (get n k) ≡ Some dir

pub same_keeps : (m : NodeMap) → Keeps m m
same_keeps m k dir e = e

pub kept_true : (m n : NodeMap) (ways : List Way) → Keeps m n → AreTrue m ways → AreTrue n ways
kept_true m n ways keeps own at up e = let was = own at up e in record {
  listed = was.listed;
  leads = by (file_at ways up) (file_at ways at) was.listed was.leads;
}
  where
    by : (o p : Option (List ℕ)) → is_some o ≡ true → o ≡ directory_from m p → o ≡ directory_from n p
    by None p h l = absurd (cc)
    by (Some dir) None h l = l
    by (Some dir) (Some k) h l = sym (keeps k dir (sym l))

change_keeps : (f : Node → Node) (m : NodeMap) (id : List ℕ) → ((n : Node) → directory_of (Some (f n)) ≡ directory_of (Some n)) → Keeps m (with_change f m id)
change_keeps f m id h k dir e = view_kept directory_of f m id h k ∙ e

if_keeps : (b : Bool) (m : NodeMap) (s t : Stepped) → (b ≡ true → Keeps m s.nodes) → (b ≡ false → Keeps m t.nodes) → Keeps m (cond b s t).nodes
if_keeps true m s t p q = p refl
if_keeps false m s t p q = q refl

and_right : (a b : Bool) → (a && b) ≡ true → b ≡ true
and_right true b h = h
and_right false b h = absurd (cc)

new_keeps : (m : NodeMap) (dir name : List ℕ) (kind : Kind) (id : List ℕ) → get m id ≡ None → Keeps m (with_new_node m dir name kind id)
new_keeps m dir name kind id free k d e =
    change_keeps (with_link name id) (insert m id (fresh_node kind (Some (dir, name)))) dir (λ n. refl) k d (by (either k id))
  where
    by : (k ≡ id) ⊎ (k ≢ id) → directory_of (get (insert m id (fresh_node kind (Some (dir, name)))) k) ≡ Some d
    by (inl s) = let q : None ≡ Some d = sym (ap directory_of (ap (get m) s ∙ free)) ∙ e in absurd (cc q)
    by (inr s) = ap directory_of (insert_other m id _ k s) ∙ e

pub create_keeps : (o : Option Node) (m : NodeMap) (dir name : List ℕ) (kind : Kind) (id : Option (List ℕ)) → Keeps m (create o m dir name kind id).nodes
create_keeps None m dir name kind id = same_keeps m
create_keeps (Some d) m dir name kind id = within d.kind
  where
    as_id : (id : Option (List ℕ)) → Keeps m (create_as m dir name kind id).nodes
    as_id None = same_keeps m
    as_id (Some i) = if_keeps (is_child dir i && not (is_some (get m i))) m _ _ (λ e. new_keeps m dir name kind i (absent_is _ (and_right (is_child dir i) _ e))) (λ _. same_keeps m)

    within : (own : Kind) → Keeps m (create_in own m d dir name kind id).nodes
    within File = same_keeps m
    within Dir = if_keeps (is_some (child_at d.children name)) m _ _ (λ _. same_keeps m) (λ _. as_id id)

pub open_keeps : (o : Option Node) (m : NodeMap) (by : Session) (file : List ℕ) (h : ℕ) (modes : Modes) → Keeps m (open_file o m by file h modes).nodes
open_keeps None m by file h modes = same_keeps m
open_keeps (Some n) m by file h modes =
    if_keeps (is_some (handle_at n.handles by h)) m _ _ (λ _. same_keeps m) (λ _.
    if_keeps (any_conflicts n.handles modes) m _ _ (λ _. same_keeps m) (λ _. change_keeps (with_open by h modes) m file (λ n. refl)))

pub close_keeps : (o : Option Node) (m : NodeMap) (by : Session) (file : List ℕ) (h : ℕ) → Keeps m (close o m by file h).nodes
close_keeps None m by file h = same_keeps m
close_keeps (Some n) m by file h = if_keeps (is_some (handle_at n.handles by h)) m _ _ (λ _. change_keeps (without_open by h) m file (λ n. refl)) (λ _. same_keeps m)

pub set_keeps : (o : Option Node) (m : NodeMap) (by : Session) (file : List ℕ) (h size stamp : ℕ) → Keeps m (set o m by file h size stamp).nodes
set_keeps None m by file h size stamp = same_keeps m
set_keeps (Some n) m by file h size stamp = with_modes (handle_at n.handles by h)
  where
    with_modes : (o : Option Modes) → Keeps m (set_by o m file size stamp).nodes
    with_modes None = same_keeps m
    with_modes (Some modes) = if_keeps modes.acc_w m _ _ (λ _. change_keeps (with_info size stamp) m file (λ n. refl)) (λ _. same_keeps m)

pub reap_keeps : (m : NodeMap) (file : List ℕ) (session : Session) → Keeps m (with_change (without_opens session) m file)
reap_keeps m file session = change_keeps (without_opens session) m file (λ n. refl)

-- ## A file that is put elsewhere, or away

pub moved_true : (m l u n : NodeMap) (file sdir sname ddir dname dir name child : List ℕ) (ways vs : List Way) → l ≡ with_change (with_link dname child) m ddir → u ≡ with_change (without_link sname) l sdir → n ≡ with_change (at_place dir name) u file → StaysTrueBut file ways vs → AreTrue m ways → AreTrue n vs
moved_true m l u n file sdir sname ddir dname dir name child ways vs linked unlinked placed kept own = kept m n stay own
  where
    stay : StayBut file m n
    stay k other =
        ap (λ s. directory_of (get s k)) placed
        ∙ ap directory_of (with_change_other (at_place dir name) u file k other)
        ∙ ap (λ s. directory_of (get s k)) unlinked
        ∙ view_kept directory_of (without_link sname) l sdir (λ n. refl) k
        ∙ ap (λ s. directory_of (get s k)) linked
        ∙ view_kept directory_of (with_link dname child) m ddir (λ n. refl) k

pub unlinked_true : (m u : NodeMap) (dir name : List ℕ) (ways : List Way) → u ≡ with_change (without_link name) m dir → AreTrue m ways → AreTrue u ways
unlinked_true m u dir name ways e own = subst (λ s. AreTrue s ways) (sym e) (kept_true m _ ways (change_keeps (without_link name) m dir (λ n. refl)) own)

pub deleted_true : (m u n : NodeMap) (file dir name : List ℕ) (ways vs : List Way) → u ≡ with_change (without_link name) m dir → n ≡ remove u file → StaysTrueBut file ways vs → AreTrue m ways → AreTrue n vs
deleted_true m u n file dir name ways vs unlinked removed kept own = kept m n stay own
  where
    stay : StayBut file m n
    stay k other =
        ap (λ s. directory_of (get s k)) removed
        ∙ ap directory_of (remove_other u file k other)
        ∙ ap (λ s. directory_of (get s k)) unlinked
        ∙ view_kept directory_of (without_link name) m dir (λ n. refl) k

pub put_true : {X E : Type 0} (r : Result X E) (m n : NodeMap) (id : List ℕ) (node : Node) (ways vs : List Way) → OnOk r (n ≡ insert m id node) → OnErr r (n ≡ m) → StaysTrueBut id ways vs → AreTrue m ways → AreTrue n vs
put_true (Ok x) m n id node ways vs ok err kept own = kept m n (λ k other. ap (λ s. directory_of (get s k)) ok ∙ ap directory_of (insert_other m id node k other)) own
put_true (Err e) m n id node ways vs ok err kept own = kept m n (λ k other. ap (λ s. directory_of (get s k)) err) own

-- after a call that does something or nothing
pub either_true : {X E : Type 0} (r : Result X E) (m n told : NodeMap) (ways : List Way) → IfOk r (λ _. n ≡ told) → OnErr r (n ≡ m) → Keeps m told → AreTrue m ways → AreTrue n ways
either_true (Ok x) m n told ways ok err keeps own = subst (λ s. AreTrue s ways) (sym ok) (kept_true m told ways keeps own)
either_true (Err e) m n told ways ok err keeps own = subst (λ s. AreTrue s ways) (sym err) own

pub told_true : (m n told : NodeMap) (ways : List Way) → n ≡ told → Keeps m told → AreTrue m ways → AreTrue n ways
told_true m n told ways is keeps own = subst (λ s. AreTrue s ways) (sym is) (kept_true m told ways keeps own)
