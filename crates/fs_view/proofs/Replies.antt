-- The reply that a walk comes to in a space is the namespace's.
use Rattle.std.proofs.Common.{◌≡◌, ℕ, ◌&&◌, ◌||◌, Bool, true, false, not, List, [], ◌∷◌, refl, ap, cond, sym, ◌∙◌, subst}
use Rattle.std.specs.Prelude.{Option, Some, None, is_some}
use Rattle.std.specs.List.{list_any}
use Rattle.std.specs.FinMap.{get}
use Rattle.std.proofs.Math.Bool.{or_assoc, and-false}
use Rattle.fs_ident.specs.declared.actor.Session.{Session}
use Rattle.fs_ident.specs.declared.kind.Kind.{Kind}
use Rattle.fs_ident.specs.declared.kind.Kind.TheVariants.{File, Dir}
use Rattle.fs_modes.specs.declared.modes.Mode.{Mode}
use Rattle.fs_modes.specs.declared.modes.Modes.{Modes}
use Rattle.fs_modes.specs.Modes.{opposing}
use Rattle.fs_model.specs.declared.node.Handle.{Handle}
use Rattle.fs_model.specs.declared.node.Node.{Node}
use Rattle.fs_model.specs.declared.op.Op.{Op}
use Rattle.fs_model.specs.declared.op.Op.TheVariants as op
use Rattle.fs_model.specs.declared.reply.Reply.{Reply}
use Rattle.fs_model.specs.declared.reply.Reply.TheVariants as reply
use Rattle.fs_model.specs.Namespace.{NodeMap, with_change}
use Rattle.fs_model.specs.Children.{child_at, names_of}
use Rattle.fs_model.specs.Handles.{handle_at, any_conflicts}
use Rattle.fs_model.specs.Sound.{kind_of, child_of}
use Rattle.fs_model.specs.Step.{Stepped, reply_alone, step, with_info, look_up, look_up_in, child_reply, list, list_in, kind, info, create, create_in, create_as, is_child, children_of, open_file, close, set, set_by}
use Rattle.fs_field.specs.After.{Handles}
use Rattle.fs_record.specs.Effects.{tells_its_effects}
use Rattle.fs_record.specs.ValueOf.{handles_of, own_of, others_have, info_of}
use Rattle.fs_view.specs.Told.{modes_under, own_conflicts, modes_listed}
use Rattle.fs_view.specs.Script.{Script, answer, unless, no_dir, no_file, taken_name, look_up_reply, kind_reply, made_reply, ask_child, ask_names, ask_info, ask_place, ask_own, ask_size, new_file, open_free, close_with, no_set, no_write, ask_others, ask_selves, modes_on, modes_off}
use Rattle.fs_view.specs.Walk.{walk_along, walk, known_in, always}
use Rattle.fs_view.specs.Laws.{IsNewWhereMade}
use Rattle.fs_view.proofs.Conflicting.{own_handle, split, others_conflict}

-- what a walk along a part of the table comes to in a space
abbrev pub reply_along : NodeMap → Session → Script → Option Reply
reply_along m s script = (walk_along (known_in m s) always script).reply

-- ## Reads

found_is : (c : Option (List ℕ)) → look_up_reply (Some c) ≡ child_reply c
found_is None = refl
found_is (Some file) = refl

look_up_is : (m : NodeMap) (s : Session) (dir name : List ℕ) (o : Option Node) → get m dir ≡ o → reply_along m s (unless (no_dir (Some (kind_of o))) (ask_child dir name)) ≡ Some (look_up o name)
look_up_is m s dir name None e = refl
look_up_is m s dir name (Some n) e =
    elim n.kind as (λ k. reply_along m s (unless (no_dir (Some (Some k))) (ask_child dir name)) ≡ Some (look_up_in k n name)) [
      | File ↦ refl
      | Dir ↦ ap (λ (o : Option Node). Some (look_up_reply (Some (child_of o name)))) e ∙ ap Some (found_is (child_at n.children name))
    ]

list_is : (m : NodeMap) (s : Session) (dir : List ℕ) (o : Option Node) → get m dir ≡ o → reply_along m s (unless (no_dir (Some (kind_of o))) (ask_names dir)) ≡ Some (list o)
list_is m s dir None e = refl
list_is m s dir (Some n) e =
    elim n.kind as (λ k. reply_along m s (unless (no_dir (Some (Some k))) (ask_names dir)) ≡ Some (list_in k n)) [
      | File ↦ refl
      | Dir ↦ ap (λ (o : Option Node). Some (reply.Names (names_of (children_of o)))) e
    ]

kind_is : (o : Option Node) → kind_reply (Some (kind_of o)) ≡ kind o
kind_is None = refl
kind_is (Some n) = elim n.kind as (λ k. kind_reply (Some (Some k)) ≡ Rattle.fs_model.specs.Step.kind_reply k) [ File ↦ refl | Dir ↦ refl ]

info_is : (m : NodeMap) (s : Session) (file : List ℕ) (o : Option Node) → get m file ≡ o → reply_along m s (unless (no_file (Some (kind_of o))) (ask_info file)) ≡ Some (info o)
info_is m s file None e = refl
info_is m s file (Some n) e = ap (λ (o : Option Node). Some (reply.Info (info_of o).0 (info_of o).1)) e

-- ## A new file

branch : (b c : Bool) (x y : Stepped) (r : Reply) → b ≡ c → (cond c x y).reply ≡ r → (cond b x y).reply ≡ r
branch b c x y r e h = ap (λ d. (cond d x y).reply) e ∙ h

made_by : (m : NodeMap) (s : Session) (dir name : List ℕ) (k : Kind) (id : List ℕ) (r : Reply) (o : Option Node) → get m id ≡ o → IsNewWhereMade m (op.Create dir name k (Some id)) r → Some (made_reply (Some (kind_of o))) ≡ Some r → (create_as m dir name k (Some id)).reply ≡ r
made_by m s dir name k id r None e new h =
    let q : reply.Made ≡ r = cc in
    let fit : (is_child dir id ≡ true) × (get m id ≡ None) = subst (λ x. IsNewWhereMade m (op.Create dir name k (Some id)) x) (sym q) new in
    branch (is_child dir id && not (is_some (get m id))) true _ _ r (ap (λ b. b && not (is_some (get m id))) fit.0 ∙ ap (λ (o : Option Node). not (is_some o)) fit.1) q
made_by m s dir name k id r (Some n) e new h =
    let q : reply.BadId ≡ r = cc in
    branch (is_child dir id && not (is_some (get m id))) false _ _ r (ap (λ (o : Option Node). is_child dir id && not (is_some o)) e ∙ and-false (is_child dir id)) q

made_as : (m : NodeMap) (s : Session) (dir name : List ℕ) (k : Kind) (id : Option (List ℕ)) (r : Reply) → IsNewWhereMade m (op.Create dir name k id) r → reply_along m s (new_file dir id) ≡ Some r → (create_as m dir name k id).reply ≡ r
made_as m s dir name k None r new h =
    let q : reply.Made ≡ r = cc in
    absurd (subst (λ x. IsNewWhereMade m (op.Create dir name k None) x) (sym q) new)
made_as m s dir name k (Some id) r new h = made_by m s dir name k id r (get m id) refl new h

place_is : (m : NodeMap) (s : Session) (dir name : List ℕ) (k : Kind) (id : Option (List ℕ)) (r : Reply) (c : Option (List ℕ)) → IsNewWhereMade m (op.Create dir name k id) r → reply_along m s (unless (taken_name (Some c)) (new_file dir id)) ≡ Some r → (cond (is_some c) (reply_alone m reply.Exists) (create_as m dir name k id)).reply ≡ r
place_is m s dir name k id r None new h = made_as m s dir name k id r new h
place_is m s dir name k id r (Some file) new h = let q : reply.Exists ≡ r = cc in q

create_is : (m : NodeMap) (s : Session) (dir name : List ℕ) (k : Kind) (id : Option (List ℕ)) (r : Reply) (o : Option Node) → get m dir ≡ o → IsNewWhereMade m (op.Create dir name k id) r → reply_along m s (unless (no_dir (Some (kind_of o))) (ask_place dir name id)) ≡ Some r → (create o m dir name k id).reply ≡ r
create_is m s dir name k id r None e new h = let q : reply.Gone ≡ r = cc in q
create_is m s dir name k id r (Some d) e new h =
    elim d.kind as (λ j. reply_along m s (unless (no_dir (Some (Some j))) (ask_place dir name id)) ≡ Some r → (create_in j m d dir name k id).reply ≡ r) [
      | File ↦ λ g. let q : reply.NotDir ≡ r = cc in q
      | Dir ↦ λ g. place_is m s dir name k id r (child_at d.children name) new (sym (ap (λ (o : Option Node). reply_along m s (unless (taken_name (Some (child_of o name))) (new_file dir id))) e) ∙ g)
    ] h

-- ## Opens

selves_is : (m : NodeMap) (s : Session) (ms : List Mode) (file : List ℕ) (r : Reply) → reply_along m s (ask_selves ms file r) ≡ Some r
selves_is m s [] file r = refl
selves_is m s (md ∷ ms) file r = selves_is m s ms file r

pub others_is : (m : NodeMap) (s : Session) (r : Reply) (ms : List Mode) (file : List ℕ) (told : Bool) (go : Script) → reply_along m s (ask_others r ms file told go) ≡ cond (told || list_any (λ md. others_have s md (handles_of (get m file))) ms) (Some r) (reply_along m s go)
others_is m s r [] file true go = refl
others_is m s r [] file false go = refl
others_is m s r (md ∷ ms) file told go =
    others_is m s r ms file (told || others_have s md (handles_of (get m file))) go
    ∙ ap (λ b. cond b (Some r) (reply_along m s go)) (or_assoc told (others_have s md (handles_of (get m file))) (list_any (λ md. others_have s md (handles_of (get m file))) ms))

free_is : (m : NodeMap) (s : Session) (own : Handles) (file : List ℕ) (modes : Modes) (c : Bool) → reply_along m s (open_free c own file modes) ≡ cond (c || list_any (λ md. others_have s md (handles_of (get m file))) (modes_listed (opposing modes))) (Some reply.Sharing) (Some reply.Opened)
free_is m s own file modes true = refl
free_is m s own file modes false =
    others_is m s reply.Sharing (modes_listed (opposing modes)) file false (ask_selves (modes_listed (modes_on own modes)) file reply.Opened)
    ∙ ap (cond (list_any (λ md. others_have s md (handles_of (get m file))) (modes_listed (opposing modes))) (Some reply.Sharing)) (selves_is m s (modes_listed (modes_on own modes)) file reply.Opened)

pub along_if : (m : NodeMap) (s : Session) (a : Bool) (x y : Script) → reply_along m s (cond a x y) ≡ cond a (reply_along m s x) (reply_along m s y)
along_if m s true x y = refl
along_if m s false x y = refl

pub step_if : (a : Bool) (x y : Stepped) → Some (cond a x y).reply ≡ cond a (Some x.reply) (Some y.reply)
step_if true x y = refl
step_if false x y = refl

-- a handle that conflicts, whoever has it
conflict_is : (s : Session) (hs : List Handle) (modes : Modes) → (own_conflicts (own_of s hs) modes || list_any (λ md. others_have s md hs) (modes_listed (opposing modes))) ≡ any_conflicts hs modes
conflict_is s hs modes = ap (λ b. own_conflicts (own_of s hs) modes || b) (others_conflict s modes hs) ∙ sym (split s modes hs)

open_is : (m : NodeMap) (s : Session) (file : List ℕ) (h : ℕ) (modes : Modes) (o : Option Node) → get m file ≡ o → reply_along m s (unless (no_file (Some (kind_of o))) (ask_own file h modes)) ≡ Some (open_file o m s file h modes).reply
open_is m s file h modes None e = refl
open_is m s file h modes (Some n) e =
    let hs : List Handle = handles_of (get m file) in
    let own : Handles = own_of s hs in
    along_if m s (is_some (modes_under own h)) (answer reply.HandleUsed) (open_free (own_conflicts own modes) own file modes)
    ∙ ap (cond (is_some (modes_under own h)) (Some reply.HandleUsed)) (free_is m s own file modes (own_conflicts own modes) ∙ ap (λ b. cond b (Some reply.Sharing) (Some reply.Opened)) (conflict_is s hs modes))
    ∙ ap (λ (w : Option Modes). cond (is_some w) (Some reply.HandleUsed) (cond (any_conflicts hs modes) (Some reply.Sharing) (Some reply.Opened))) (own_handle s h hs)
    ∙ ap (λ (o : Option Node). cond (is_some (handle_at (handles_of o) s h)) (Some reply.HandleUsed) (cond (any_conflicts (handles_of o) modes) (Some reply.Sharing) (Some reply.Opened))) e
    ∙ sym (step_if (is_some (handle_at n.handles s h)) _ _ ∙ ap (cond (is_some (handle_at n.handles s h)) (Some reply.HandleUsed)) (step_if (any_conflicts n.handles modes) _ _))

close_by : (m : NodeMap) (s : Session) (file : List ℕ) (h : ℕ) (o : Option Node) → cond (is_some (handle_at (handles_of o) s h)) (Some reply.Closed) (Some reply.NoHandle) ≡ Some (close o m s file h).reply
close_by m s file h None = refl
close_by m s file h (Some n) = sym (step_if (is_some (handle_at n.handles s h)) _ _)

close_is : (m : NodeMap) (s : Session) (file : List ℕ) (h : ℕ) → reply_along m s (close_with (Some (own_of s (handles_of (get m file)))) file h) ≡ Some (close (get m file) m s file h).reply
close_is m s file h =
    let hs : List Handle = handles_of (get m file) in
    let own : Handles = own_of s hs in
    along_if m s (is_some (modes_under own h)) (ask_selves (modes_listed (modes_off own h)) file reply.Closed) (answer reply.NoHandle)
    ∙ ap (λ (r : Option Reply). cond (is_some (modes_under own h)) r (Some reply.NoHandle)) (selves_is m s (modes_listed (modes_off own h)) file reply.Closed)
    ∙ ap (λ (w : Option Modes). cond (is_some w) (Some reply.Closed) (Some reply.NoHandle)) (own_handle s h hs)
    ∙ close_by m s file h (get m file)

write_by : (m : NodeMap) (s : Session) (file : List ℕ) (size stamp : ℕ) (modes : Modes) (b : Bool) → reply_along m s (unless (cond b None (Some reply.NoAccess)) (ask_size file)) ≡ Some (cond b (record { reply = reply.Set; nodes = with_change (with_info size stamp) m file }) (reply_alone m reply.NoAccess)).reply
write_by m s file size stamp modes true = refl
write_by m s file size stamp modes false = refl

set_by_is : (m : NodeMap) (s : Session) (file : List ℕ) (size stamp : ℕ) (w : Option Modes) → reply_along m s (unless (no_write w) (ask_size file)) ≡ Some (set_by w m file size stamp).reply
set_by_is m s file size stamp None = refl
set_by_is m s file size stamp (Some modes) = write_by m s file size stamp modes modes.acc_w

set_on : (m : NodeMap) (s : Session) (file : List ℕ) (h size stamp : ℕ) (o : Option Node) → Some (set_by (handle_at (handles_of o) s h) m file size stamp).reply ≡ Some (set o m s file h size stamp).reply
set_on m s file h size stamp None = refl
set_on m s file h size stamp (Some n) = refl

set_is : (m : NodeMap) (s : Session) (file : List ℕ) (h size stamp : ℕ) → reply_along m s (unless (no_set (Some (own_of s (handles_of (get m file)))) h) (ask_size file)) ≡ Some (set (get m file) m s file h size stamp).reply
set_is m s file h size stamp =
    ap (λ (w : Option Modes). reply_along m s (unless (no_write w) (ask_size file))) (own_handle s h (handles_of (get m file)))
    ∙ set_by_is m s file size stamp (handle_at (handles_of (get m file)) s h)
    ∙ set_on m s file h size stamp (get m file)

-- ## All of them

same_reply : (o : Option Reply) (a r : Reply) → o ≡ Some a → o ≡ Some r → a ≡ r
same_reply o a r p q = let e : Some a ≡ Some r = sym p ∙ q in let f : a ≡ r = cc in f

pub replies : (m : NodeMap) (s : Session) (o : Op) (r : Reply) → tells_its_effects o ≡ true → IsNewWhereMade m o r → (walk (known_in m s) always o).reply ≡ Some r → (step m s o).reply ≡ r
replies m s (op.Lookup dir name) r p new h = same_reply _ _ r (look_up_is m s dir name (get m dir) refl) h
replies m s (op.List dir) r p new h = same_reply _ _ r (list_is m s dir (get m dir) refl) h
replies m s (op.Kind file) r p new h = same_reply _ _ r (ap Some (kind_is (get m file))) h
replies m s (op.Info file) r p new h = same_reply _ _ r (info_is m s file (get m file) refl) h
replies m s (op.Create dir name k id) r p new h = create_is m s dir name k id r (get m dir) refl new h
replies m s (op.OpenFile file handle modes) r p new h = same_reply _ _ r (open_is m s file handle modes (get m file) refl) h
replies m s (op.Close file handle) r p new h = same_reply _ _ r (close_is m s file handle) h
replies m s (op.Set file handle size stamp) r p new h = same_reply _ _ r (set_is m s file handle size stamp) h
replies m s (op.Delete dir name) r p new h = absurd (cc)
replies m s (op.Rename sdir sname ddir dname) r p new h = absurd (cc)
replies m s (op.Reap file session) r p new h = absurd (cc)
