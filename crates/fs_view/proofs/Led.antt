-- The replies that walks of deletes and renames come to in a space are the namespace's.
use Rattle.std.proofs.Common.{◌≡◌, ℕ, ◌&&◌, ◌||◌, ◌==◌, Bool, true, false, not, List, [], ◌∷◌, refl, ap, cond, sym, ◌∙◌}
use Rattle.std.specs.Prelude.{Option, Some, None, is_some, IfSome}
use Rattle.std.specs.List.{list_any}
use Rattle.std.specs.FinMap.{get}
use Rattle.std.specs.Cmp.Lexicographic.{bytes_decides}
use Rattle.fs_ident.specs.Ident.{same}
use Rattle.fs_ident.specs.declared.actor.Session.{Session}
use Rattle.fs_ident.specs.declared.kind.Kind.{Kind}
use Rattle.fs_ident.specs.declared.kind.Kind.TheVariants.{File, Dir}
use Rattle.fs_ident.proofs.Booleans.{first}
use Rattle.fs_modes.specs.Modes.{has_access}
use Rattle.fs_modes.specs.declared.modes.Mode.TheVariants.{AccR, AccW, AccD, DenyD}
use Rattle.fs_field.specs.After.{Handles}
use Rattle.fs_model.specs.declared.node.Handle.{Handle}
use Rattle.fs_model.specs.declared.node.Node.{Node}
use Rattle.fs_model.specs.declared.reply.Reply.{Reply}
use Rattle.fs_model.specs.declared.op.Op.TheVariants as op
use Rattle.fs_model.specs.declared.reply.Reply.TheVariants as reply
use Rattle.fs_model.specs.Namespace.{NodeMap}
use Rattle.fs_model.specs.Ancestors.{is_on_chain}
use Rattle.fs_model.specs.Children.{child_at, names_of}
use Rattle.fs_model.specs.Handles.{any_denies_delete}
use Rattle.fs_model.specs.Sound.{IsSound, IsSoundNode, kind_of, child_of, all_have_access}
use Rattle.fs_model.specs.Step.{Stepped, reply_alone, step, children_of, is_empty, is_childless, is_unused, delete, delete_in, delete_child, denies_delete, rename, rename_in, rename_to, rename_to_dir, rename_child, with_moved_node}
use Rattle.fs_record.specs.ValueOf.{handles_of, own_of, others_have}
use Rattle.fs_view.specs.Script.{Script, answer, unless, no_dir, no_dir_to, no_name, taken_name, not_empty, in_use, own_denies_delete, accesses, ask_others, ask_delete, ask_deleted, ask_empty, ask_unused, ask_movable, ask_moved, ask_moved_file, ask_new_place, ask_unless_there, ask_old_place, ask_other_dir, ask_rename}
use Rattle.fs_view.specs.Laws.{but_cycle}
use Rattle.fs_view.specs.Walk.{walk, known_in, always}
use Rattle.fs_view.proofs.Replies.{reply_along, others_is, along_if, step_if}

-- ## Deletes

own_before : (m : NodeMap) (s : Session) (go : Script) (own : Handles) (b : Bool) → reply_along m s go ≡ cond b (Some reply.InUse) (Some reply.Deleted) → reply_along m s (unless (in_use (Some own)) go) ≡ cond (not (is_empty own) || b) (Some reply.InUse) (Some reply.Deleted)
own_before m s go [] b h = h
own_before m s go (x ∷ xs) b h = refl

some_access : (a b c x y z own : Bool) → ((a || b) || c) ≡ true → (own || ((a || x) || ((b || y) || ((c || z) || false)))) ≡ true
some_access a b c x y z true h = refl
some_access true b c x y z false h = refl
some_access false true c true y z false h = refl
some_access false true c false y z false h = refl
some_access false false true true y z false h = refl
some_access false false true false true z false h = refl
some_access false false true false false z false h = refl
some_access false false false x y z false h = absurd (cc h)

-- where handles have an access, the session's own and the accesses of the others tell whether there are any
any_handle : (s : Session) (hs : List Handle) → all_have_access hs ≡ true → (not (is_empty (own_of s hs)) || list_any (λ md. others_have s md hs) accesses) ≡ not (is_empty hs)
any_handle s [] h = refl
any_handle s (x ∷ xs) h =
    elim (x.session.0 == s.0) as (λ b. (not (is_empty (cond b ((x.h, x.modes) ∷ own_of s xs) (own_of s xs))) || (((not b && x.modes.acc_r) || others_have s AccR xs) || (((not b && x.modes.acc_w) || others_have s AccW xs) || (((not b && x.modes.acc_d) || others_have s AccD xs) || false)))) ≡ true) [
      | true ↦ refl
      | false ↦ some_access x.modes.acc_r x.modes.acc_w x.modes.acc_d (others_have s AccR xs) (others_have s AccW xs) (others_have s AccD xs) (not (is_empty (own_of s xs))) (first (has_access x.modes) (all_have_access xs) h)
    ]

used : (o : Option Node) → not (is_empty (handles_of o)) ≡ not (is_unused o)
used None = refl
used (Some n) = refl

unused_is : (m : NodeMap) (s : Session) (file : List ℕ) → all_have_access (handles_of (get m file)) ≡ true → reply_along m s (ask_unused file) ≡ cond (not (is_unused (get m file))) (Some reply.InUse) (Some reply.Deleted)
unused_is m s file h =
    let hs : List Handle = handles_of (get m file) in
    own_before m s (ask_others reply.InUse accesses file false (answer reply.Deleted)) (own_of s hs) (list_any (λ md. others_have s md hs) accesses) (others_is m s reply.InUse accesses file false (answer reply.Deleted))
    ∙ ap (λ b. cond b (Some reply.InUse) (Some reply.Deleted)) (any_handle s hs h ∙ used (get m file))

names_before : (m : NodeMap) (s : Session) (go : Script) (children : List (List ℕ × List ℕ)) → reply_along m s (unless (not_empty (Some (names_of children))) go) ≡ cond (not (is_empty children)) (Some reply.NotEmpty) (reply_along m s go)
names_before m s go [] = refl
names_before m s go (x ∷ xs) = refl

childless : (o : Option Node) → not (is_empty (children_of o)) ≡ not (is_childless o)
childless None = refl
childless (Some n) = refl

file_is : (m : NodeMap) (s : Session) (dir name file : List ℕ) → all_have_access (handles_of (get m file)) ≡ true → reply_along m s (ask_empty file) ≡ Some (delete_child m dir name (Some file)).reply
file_is m s dir name file h =
    names_before m s (ask_unused file) (children_of (get m file))
    ∙ ap (λ b. cond b (Some reply.NotEmpty) (reply_along m s (ask_unused file))) (childless (get m file))
    ∙ ap (cond (not (is_childless (get m file))) (Some reply.NotEmpty)) (unused_is m s file h ∙ sym (step_if (not (is_unused (get m file))) _ _))
    ∙ sym (step_if (not (is_childless (get m file))) _ _)

accessed : (o : Option Node) → IfSome o IsSoundNode → all_have_access (handles_of o) ≡ true
accessed None h = refl
accessed (Some n) h = h.accessed

child_is : (m : NodeMap) (s : Session) (dir name : List ℕ) (c : Option (List ℕ)) → IsSound m → reply_along m s (ask_deleted (Some c)) ≡ Some (delete_child m dir name c).reply
child_is m s dir name None h = refl
child_is m s dir name (Some file) h = file_is m s dir name file (accessed (get m file) (h.nodes file))

delete_is : (m : NodeMap) (s : Session) (dir name : List ℕ) (o : Option Node) → get m dir ≡ o → IsSound m → reply_along m s (unless (no_dir (Some (kind_of o))) (ask_delete dir name)) ≡ Some (delete o m dir name).reply
delete_is m s dir name None e h = refl
delete_is m s dir name (Some n) e h =
    elim n.kind as (λ k. reply_along m s (unless (no_dir (Some (Some k))) (ask_delete dir name)) ≡ Some (delete_in k m n dir name).reply) [
      | File ↦ refl
      | Dir ↦ ap (λ (o : Option Node). reply_along m s (ask_deleted (Some (child_of o name)))) e ∙ child_is m s dir name (child_at n.children name) h
    ]

pub deletes : (m : NodeMap) (s : Session) (dir name : List ℕ) → IsSound m → (walk (known_in m s) always (op.Delete dir name)).reply ≡ Some (step m s (op.Delete dir name)).reply
deletes m s dir name h = delete_is m s dir name (get m dir) refl h

-- ## Renames

or_assoc : (a b c : Bool) → ((a || b) || (c || false)) ≡ (a || (b || (c || false)))
or_assoc true b c = refl
or_assoc false b c = refl

or_swap : (a b c : Bool) → (a || ((b || c) || false)) ≡ (b || (a || (c || false)))
or_swap true true c = refl
or_swap true false c = refl
or_swap false true c = refl
or_swap false false c = refl

-- a handle denies a move: one of the session's own, or one of another session
denied_by : (s : Session) (hs : List Handle) → (own_denies_delete (own_of s hs) || (others_have s DenyD hs || false)) ≡ any_denies_delete hs
denied_by s [] = refl
denied_by s (x ∷ xs) =
    elim (x.session.0 == s.0) as (λ b. (own_denies_delete (cond b ((x.h, x.modes) ∷ own_of s xs) (own_of s xs)) || (((not b && x.modes.deny_d) || others_have s DenyD xs) || false)) ≡ (x.modes.deny_d || (own_denies_delete (own_of s xs) || (others_have s DenyD xs || false)))) [
      | true ↦ or_assoc x.modes.deny_d (own_denies_delete (own_of s xs)) (others_have s DenyD xs)
      | false ↦ or_swap (own_denies_delete (own_of s xs)) x.modes.deny_d (others_have s DenyD xs)
    ]
    ∙ ap (λ b. x.modes.deny_d || b) (denied_by s xs)

denied_before : (m : NodeMap) (s : Session) (go : Script) (a b : Bool) → reply_along m s go ≡ cond b (Some reply.Sharing) (Some reply.Renamed) → reply_along m s (unless (cond a (Some reply.Sharing) None) go) ≡ cond (a || b) (Some reply.Sharing) (Some reply.Renamed)
denied_before m s go true b h = refl
denied_before m s go false b h = h

denies : (o : Option Node) → any_denies_delete (handles_of o) ≡ denies_delete o
denies None = refl
denies (Some n) = refl

movable_is : (m : NodeMap) (s : Session) (file : List ℕ) → reply_along m s (ask_movable file) ≡ cond (denies_delete (get m file)) (Some reply.Sharing) (Some reply.Renamed)
movable_is m s file =
    let hs : List Handle = handles_of (get m file) in
    denied_before m s (ask_others reply.Sharing (DenyD ∷ []) file false (answer reply.Renamed)) (own_denies_delete (own_of s hs)) (others_have s DenyD hs || false) (others_is m s reply.Sharing (DenyD ∷ []) file false (answer reply.Renamed))
    ∙ ap (λ b. cond b (Some reply.Sharing) (Some reply.Renamed)) (denied_by s hs ∙ denies (get m file))

-- whether the life of the file stands before makes no difference to the reply
once : (m : NodeMap) (s : Session) (sdir ddir file : List ℕ) → reply_along m s (ask_moved_file sdir ddir file) ≡ reply_along m s (ask_movable file)
once m s sdir ddir file = along_if m s (same file sdir || same file ddir) _ _ ∙ alike (same file sdir || same file ddir) (reply_along m s (ask_movable file))
  where
    alike : (b : Bool) (r : Option Reply) → cond b r r ≡ r
    alike true r = refl
    alike false r = refl

-- what the next reply is after a test
after_test : (m : NodeMap) (b : Bool) (r : Reply) (x : Option Reply) (t : Stepped) → but_cycle r ≡ r → x ≡ Some (but_cycle t.reply) → cond b (Some r) x ≡ Some (but_cycle (cond b (reply_alone m r) t).reply)
after_test m true r x t e h = ap Some (sym e)
after_test m false r x t e h = h

but_the_chain : (m : NodeMap) (b : Bool) (t : NodeMap) → Some reply.Renamed ≡ Some (but_cycle (cond b (reply_alone m reply.Cycle) (record { reply = reply.Renamed; nodes = t })).reply)
but_the_chain m true t = refl
but_the_chain m false t = refl

taken_before : (m : NodeMap) (s : Session) (go : Script) (c : Option (List ℕ)) → reply_along m s (unless (taken_name (Some c)) go) ≡ cond (is_some c) (Some reply.Exists) (reply_along m s go)
taken_before m s go None = refl
taken_before m s go (Some file) = refl

moved_is : (m : NodeMap) (s : Session) (sdir sname ddir dname file : List ℕ) (d : Node) → get m ddir ≡ Some d → reply_along m s (ask_unless_there sdir sname ddir dname (Some (Some file))) ≡ Some (but_cycle (rename_child m sdir sname d ddir dname (Some file)).reply)
moved_is m s sdir sname ddir dname file d e =
    along_if m s (same sdir ddir && same sname dname) (answer reply.Renamed) (ask_new_place sdir ddir dname (Some (Some file)))
    ∙ after_test m (same sdir ddir && same sname dname) reply.Renamed _ _ refl
    (taken_before m s (ask_moved sdir ddir (Some (Some file))) (child_of (get m ddir) dname)
    ∙ ap (λ (o : Option Node). cond (is_some (child_of o dname)) (Some reply.Exists) (reply_along m s (ask_moved sdir ddir (Some (Some file))))) e
    ∙ after_test m (is_some (child_at d.children dname)) reply.Exists _ _ refl
    (once m s sdir ddir file ∙ movable_is m s file
    ∙ after_test m (denies_delete (get m file)) reply.Sharing _ _ refl (but_the_chain m (is_on_chain m file ddir) (with_moved_node m file sdir sname ddir dname))))

named_is : (m : NodeMap) (s : Session) (sdir sname ddir dname : List ℕ) (d : Node) (c : Option (List ℕ)) → get m ddir ≡ Some d → reply_along m s (unless (no_name (Some c)) (ask_unless_there sdir sname ddir dname (Some c))) ≡ Some (but_cycle (rename_child m sdir sname d ddir dname c).reply)
named_is m s sdir sname ddir dname d None e = refl
named_is m s sdir sname ddir dname d (Some file) e = moved_is m s sdir sname ddir dname file d e

old_place_is : (m : NodeMap) (s : Session) (sdir sname ddir dname : List ℕ) (n d : Node) → get m sdir ≡ Some n → get m ddir ≡ Some d → reply_along m s (ask_old_place sdir sname ddir dname) ≡ Some (but_cycle (rename_child m sdir sname d ddir dname (child_at n.children sname)).reply)
old_place_is m s sdir sname ddir dname n d e f =
    ap (λ (o : Option Node). reply_along m s (unless (no_name (Some (child_of o sname))) (ask_unless_there sdir sname ddir dname (Some (child_of o sname))))) e
    ∙ named_is m s sdir sname ddir dname d (child_at n.children sname) f

to_is : (m : NodeMap) (s : Session) (sdir sname ddir dname : List ℕ) (n : Node) (o : Option Node) → get m sdir ≡ Some n → get m ddir ≡ o → reply_along m s (unless (no_dir_to (Some (kind_of o))) (ask_old_place sdir sname ddir dname)) ≡ Some (but_cycle (rename_to m n sdir sname o ddir dname).reply)
to_is m s sdir sname ddir dname n None e f = refl
to_is m s sdir sname ddir dname n (Some d) e f =
    elim d.kind as (λ k. reply_along m s (unless (no_dir_to (Some (Some k))) (ask_old_place sdir sname ddir dname)) ≡ Some (but_cycle (rename_to_dir k m n sdir sname d ddir dname).reply)) [
      | File ↦ refl
      | Dir ↦ old_place_is m s sdir sname ddir dname n d e f
    ]

-- within one directory, and from one to another
dirs_are : (m : NodeMap) (s : Session) (sdir sname ddir dname : List ℕ) (n : Node) (b : Bool) → get m sdir ≡ Some n → n.kind ≡ Dir → same sdir ddir ≡ b → reply_along m s (cond b (ask_old_place sdir sname ddir dname) (ask_other_dir sdir sname ddir dname)) ≡ Some (but_cycle (rename_to m n sdir sname (get m ddir) ddir dname).reply)
dirs_are m s sdir sname ddir dname n true e k t =
    let one : get m ddir ≡ Some n = ap (get m) (sym ((bytes_decides sdir ddir).0 t)) ∙ e in
    old_place_is m s sdir sname ddir dname n n e one
    ∙ ap (λ j. Some (but_cycle (rename_to_dir j m n sdir sname n ddir dname).reply)) (sym k)
    ∙ ap (λ (o : Option Node). Some (but_cycle (rename_to m n sdir sname o ddir dname).reply)) (sym one)
dirs_are m s sdir sname ddir dname n false e k t = to_is m s sdir sname ddir dname n (get m ddir) e refl

rename_kind : (m : NodeMap) (s : Session) (sdir sname ddir dname : List ℕ) (n : Node) (k : Kind) → get m sdir ≡ Some n → n.kind ≡ k → reply_along m s (unless (no_dir (Some (Some k))) (ask_rename sdir sname ddir dname)) ≡ Some (but_cycle (rename_in k m n sdir sname ddir dname).reply)
rename_kind m s sdir sname ddir dname n File e f = refl
rename_kind m s sdir sname ddir dname n Dir e f = dirs_are m s sdir sname ddir dname n (same sdir ddir) e f refl

rename_is : (m : NodeMap) (s : Session) (sdir sname ddir dname : List ℕ) (o : Option Node) → get m sdir ≡ o → reply_along m s (unless (no_dir (Some (kind_of o))) (ask_rename sdir sname ddir dname)) ≡ Some (but_cycle (rename o m sdir sname ddir dname).reply)
rename_is m s sdir sname ddir dname None e = refl
rename_is m s sdir sname ddir dname (Some n) e = rename_kind m s sdir sname ddir dname n n.kind e refl

pub renames : (m : NodeMap) (s : Session) (sdir sname ddir dname : List ℕ) → (walk (known_in m s) always (op.Rename sdir sname ddir dname)).reply ≡ Some (but_cycle (step m s (op.Rename sdir sname ddir dname)).reply)
renames m s sdir sname ddir dname = rename_is m s sdir sname ddir dname (get m sdir) refl
