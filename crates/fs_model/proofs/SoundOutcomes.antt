-- What one step can come to: a reply alone, or a change together with what was tested for it.
use Rattle.std.proofs.Common.{◌≡◌, ℕ, List, refl, Bool, true, false, cond, not, ◌&&◌, Option, Some, None, is_some, nat_eq}
use Rattle.std.proofs.lemmas.Bool.{and_parts, cond_both, not-true, not-false}
use Rattle.std.specs.FinMap.{get, remove}
use Rattle.std.specs.Cmp.Lexicographic.{pointwise}
use Rattle.fs_ident.specs.declared.actor.Session.{Session}
use Rattle.fs_ident.specs.declared.kind.Kind.{Kind}
use Rattle.fs_ident.specs.declared.kind.Kind.TheVariants.{File, Dir}
use Rattle.fs_ident.proofs.Options.{not_some}
use Rattle.fs_modes.specs.declared.modes.Modes.{Modes}
use Rattle.fs_model.specs.declared.node.Node.{Node}
use Rattle.fs_model.specs.declared.op.Op.{Op}
use Rattle.fs_model.specs.declared.op.Op.TheVariants as op
use Rattle.fs_model.specs.declared.reply.Reply.{Reply}
use Rattle.fs_model.specs.declared.reply.Reply.TheVariants as reply
use Rattle.fs_model.specs.Namespace.{NodeMap, with_change}
use Rattle.fs_model.specs.Children.{child_at}
use Rattle.fs_model.specs.Handles.{handle_at, any_conflicts}
use Rattle.fs_model.specs.Ancestors.{is_on_chain}
use Rattle.fs_model.specs.Step.{Stepped, reply_alone, step, with_new_node, with_moved_node, without_link, with_info, with_open, without_open, without_opens, child_reply, look_up_in, look_up, list_in, list, kind_reply, kind, info, is_child, create_as, create_in, create, open_file, close, set_by, set, is_childless, is_unused, delete_child, delete_in, delete, denies_delete, rename_child, rename_to_dir, rename_to, rename_in, rename}
use Rattle.fs_model.specs.Sound.{is_change}

-- of the modes of an open, what is asked holds
pub data Outcome (Asked : Modes → Type 0) (m : NodeMap) (by : Session) : Stepped → Type 0 where
  stays : (r : Reply) → is_change r ≡ false → Outcome Asked m by (reply_alone m r)
  same_place : Outcome Asked m by (reply_alone m reply.Renamed)
  makes : (dir name : List ℕ) (kind : Kind) (id : List ℕ) (d : Node) → get m dir ≡ Some d → d.kind ≡ Dir → child_at d.children name ≡ None → get m id ≡ None → Outcome Asked m by (record { reply = reply.Made; nodes = with_new_node m dir name kind id })
  opens : (file : List ℕ) (h : ℕ) (modes : Modes) (n : Node) → Asked modes → get m file ≡ Some n → handle_at n.handles by h ≡ None → any_conflicts n.handles modes ≡ false → Outcome Asked m by (record { reply = reply.Opened; nodes = with_change (with_open by h modes) m file })
  closes : (file : List ℕ) (h : ℕ) → Outcome Asked m by (record { reply = reply.Closed; nodes = with_change (without_open by h) m file })
  sets : (file : List ℕ) (size stamp : ℕ) → Outcome Asked m by (record { reply = reply.Set; nodes = with_change (with_info size stamp) m file })
  deletes : (dir name file : List ℕ) (d : Node) → get m dir ≡ Some d → child_at d.children name ≡ Some file → is_childless (get m file) ≡ true → Outcome Asked m by (record { reply = reply.Deleted; nodes = remove (with_change (without_link name) m dir) file })
  renames : (file sdir sname ddir dname : List ℕ) (s d : Node) → get m sdir ≡ Some s → child_at s.children sname ≡ Some file → get m ddir ≡ Some d → d.kind ≡ Dir → child_at d.children dname ≡ None → is_on_chain m file ddir ≡ false → Outcome Asked m by (record { reply = reply.Renamed; nodes = with_moved_node m file sdir sname ddir dname })
  reaps : (file : List ℕ) (session : Session) → Outcome Asked m by (record { reply = reply.Reaped; nodes = with_change (without_opens session) m file })

-- ## Reads

pub child_reply_reads : (o : Option (List ℕ)) → is_change (child_reply o) ≡ false
child_reply_reads None = refl
child_reply_reads (Some id) = refl

look_up_in_reads : (k : Kind) (n : Node) (name : List ℕ) → is_change (look_up_in k n name) ≡ false
look_up_in_reads File n name = refl
look_up_in_reads Dir n name = child_reply_reads (child_at n.children name)

pub look_up_reads : (o : Option Node) (name : List ℕ) → is_change (look_up o name) ≡ false
look_up_reads None name = refl
look_up_reads (Some n) name = look_up_in_reads n.kind n name

list_in_reads : (k : Kind) (n : Node) → is_change (list_in k n) ≡ false
list_in_reads File n = refl
list_in_reads Dir n = refl

pub list_reads : (o : Option Node) → is_change (list o) ≡ false
list_reads None = refl
list_reads (Some n) = list_in_reads n.kind n

kind_reply_reads : (k : Kind) → is_change (kind_reply k) ≡ false
kind_reply_reads File = refl
kind_reply_reads Dir = refl

pub kind_reads : (o : Option Node) → is_change (kind o) ≡ false
kind_reads None = refl
kind_reads (Some n) = kind_reply_reads n.kind

pub info_reads : (o : Option Node) → is_change (info o) ≡ false
info_reads None = refl
info_reads (Some n) = refl

-- of an open, what is asked of its modes
abbrev pub Asks : (Modes → Type 0) → Op → Type 0
Asks Asked (op.OpenFile file h modes) = Asked modes
Asks Asked _ = Unit {0}

module _ (Asked : Modes → Type 0) (m : NodeMap) (by : Session) where
  choose : (b : Bool) (s t : Stepped) → (b ≡ true → Outcome Asked m by s) → (b ≡ false → Outcome Asked m by t) → Outcome Asked m by (cond b s t)
  choose b s t p q = cond_both b s t (Outcome Asked m by) p q

  -- ## Create

  created_as : (dir name : List ℕ) (kind : Kind) (d : Node) → get m dir ≡ Some d → d.kind ≡ Dir → child_at d.children name ≡ None → (o : Option (List ℕ)) → Outcome Asked m by (create_as m dir name kind o)
  created_as dir name kind d e k u None = stays reply.BadId refl
  created_as dir name kind d e k u (Some id) = choose (is_child dir id && not (is_some (get m id))) _ _
      (λ t. makes dir name kind id d e k u (not_some _ (not-true _ (and_parts (is_child dir id) _ t).1)))
      (λ _. stays reply.BadId refl)

  created_in : (dir name : List ℕ) (kind : Kind) (d : Node) → get m dir ≡ Some d → (id : Option (List ℕ)) (own : Kind) → d.kind ≡ own → Outcome Asked m by (create_in own m d dir name kind id)
  created_in dir name kind d e id File k = stays reply.NotDir refl
  created_in dir name kind d e id Dir k = choose (is_some (child_at d.children name)) _ _
      (λ _. stays reply.Exists refl)
      (λ t. created_as dir name kind d e k (not_some _ t) id)

  created : (dir name : List ℕ) (kind : Kind) (id : Option (List ℕ)) (o : Option Node) → get m dir ≡ o → Outcome Asked m by (create o m dir name kind id)
  created dir name kind id None e = stays reply.Gone refl
  created dir name kind id (Some d) e = created_in dir name kind d e id d.kind refl

  -- ## Opens

  opened_file : (file : List ℕ) (h : ℕ) (modes : Modes) → Asked modes → (o : Option Node) → get m file ≡ o → Outcome Asked m by (open_file o m by file h modes)
  opened_file file h modes a None e = stays reply.Gone refl
  opened_file file h modes a (Some n) e = choose (is_some (handle_at n.handles by h)) _ _
      (λ _. stays reply.HandleUsed refl)
      (λ t. choose (any_conflicts n.handles modes) _ _
      (λ _. stays reply.Sharing refl)
      (λ f. opens file h modes n a e (not_some _ t) f))

  closed_file : (file : List ℕ) (h : ℕ) (o : Option Node) → Outcome Asked m by (close o m by file h)
  closed_file file h None = stays reply.NoHandle refl
  closed_file file h (Some n) = choose (is_some (handle_at n.handles by h)) _ _ (λ _. closes file h) (λ _. stays reply.NoHandle refl)

  set_by_handle : (file : List ℕ) (size stamp : ℕ) (o : Option Modes) → Outcome Asked m by (set_by o m file size stamp)
  set_by_handle file size stamp None = stays reply.NoHandle refl
  set_by_handle file size stamp (Some modes) = choose modes.acc_w _ _ (λ _. sets file size stamp) (λ _. stays reply.NoAccess refl)

  set_file : (file : List ℕ) (h size stamp : ℕ) (o : Option Node) → Outcome Asked m by (set o m by file h size stamp)
  set_file file h size stamp None = stays reply.NoHandle refl
  set_file file h size stamp (Some n) = set_by_handle file size stamp (handle_at n.handles by h)

  -- ## Delete

  deleted_child : (dir name : List ℕ) (d : Node) → get m dir ≡ Some d → (o : Option (List ℕ)) → child_at d.children name ≡ o → Outcome Asked m by (delete_child m dir name o)
  deleted_child dir name d e None c = stays reply.NoName refl
  deleted_child dir name d e (Some file) c = choose (not (is_childless (get m file))) _ _
      (λ _. stays reply.NotEmpty refl)
      (λ t. choose (not (is_unused (get m file))) _ _
      (λ _. stays reply.InUse refl)
      (λ _. deletes dir name file d e c (not-false _ t)))

  deleted_in : (dir name : List ℕ) (d : Node) → get m dir ≡ Some d → (own : Kind) → Outcome Asked m by (delete_in own m d dir name)
  deleted_in dir name d e File = stays reply.NotDir refl
  deleted_in dir name d e Dir = deleted_child dir name d e (child_at d.children name) refl

  deleted : (dir name : List ℕ) (o : Option Node) → get m dir ≡ o → Outcome Asked m by (delete o m dir name)
  deleted dir name None e = stays reply.Gone refl
  deleted dir name (Some d) e = deleted_in dir name d e d.kind

  -- ## Rename

  module _ (sdir sname ddir dname : List ℕ) where
    renamed_child : (s d : Node) → get m sdir ≡ Some s → get m ddir ≡ Some d → d.kind ≡ Dir → (o : Option (List ℕ)) → child_at s.children sname ≡ o → Outcome Asked m by (rename_child m sdir sname d ddir dname o)
    renamed_child s d e f k None c = stays reply.NoName refl
    renamed_child s d e f k (Some file) c = choose (pointwise nat_eq sdir ddir && pointwise nat_eq sname dname) _ _
        (λ _. same_place)
        (λ _. choose (is_some (child_at d.children dname)) _ _
        (λ _. stays reply.Exists refl)
        (λ u. choose (denies_delete (get m file)) _ _
        (λ _. stays reply.Sharing refl)
        (λ _. choose (is_on_chain m file ddir) _ _
        (λ _. stays reply.Cycle refl)
        (λ clear. renames file sdir sname ddir dname s d e c f k (not_some _ u) clear))))

    renamed_to_dir : (s d : Node) → get m sdir ≡ Some s → get m ddir ≡ Some d → (own : Kind) → d.kind ≡ own → Outcome Asked m by (rename_to_dir own m s sdir sname d ddir dname)
    renamed_to_dir s d e f File k = stays reply.NotDirTo refl
    renamed_to_dir s d e f Dir k = renamed_child s d e f k (child_at s.children sname) refl

    renamed_to : (s : Node) → get m sdir ≡ Some s → (o : Option Node) → get m ddir ≡ o → Outcome Asked m by (rename_to m s sdir sname o ddir dname)
    renamed_to s e None f = stays reply.GoneTo refl
    renamed_to s e (Some d) f = renamed_to_dir s d e f d.kind refl

    renamed_in : (s : Node) → get m sdir ≡ Some s → (own : Kind) → Outcome Asked m by (rename_in own m s sdir sname ddir dname)
    renamed_in s e File = stays reply.NotDir refl
    renamed_in s e Dir = renamed_to s e (get m ddir) refl

    renamed : (o : Option Node) → get m sdir ≡ o → Outcome Asked m by (rename o m sdir sname ddir dname)
    renamed None e = stays reply.Gone refl
    renamed (Some s) e = renamed_in s e s.kind

  pub outcome : (o : Op) → Asks Asked o → Outcome Asked m by (step m by o)
  outcome (op.Lookup dir name) a = stays _ (look_up_reads (get m dir) name)
  outcome (op.List dir) a = stays _ (list_reads (get m dir))
  outcome (op.Kind file) a = stays _ (kind_reads (get m file))
  outcome (op.Info file) a = stays _ (info_reads (get m file))
  outcome (op.Create dir name k id) a = created dir name k id (get m dir) refl
  outcome (op.OpenFile file h modes) a = opened_file file h modes a (get m file) refl
  outcome (op.Close file h) a = closed_file file h (get m file)
  outcome (op.Set file h size stamp) a = set_file file h size stamp (get m file)
  outcome (op.Delete dir name) a = deleted dir name (get m dir) refl
  outcome (op.Rename sdir sname ddir dname) a = renamed sdir sname ddir dname (get m sdir) refl
  outcome (op.Reap file session) a = reaps file session
