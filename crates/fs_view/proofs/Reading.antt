-- Operations have effects exactly where their reply is one of a change.
use Rattle.std.proofs.Common.{◌≡◌, ℕ, ◌&&◌, Bool, true, false, not, List, refl, ap, cond, sym, ◌∙◌}
use Rattle.std.specs.Prelude.{Option, Some, None, is_some}
use Rattle.std.specs.FinMap.{get}
use Rattle.fs_ident.specs.declared.actor.Session.{Session}
use Rattle.fs_ident.specs.declared.kind.Kind.{Kind}
use Rattle.fs_ident.specs.declared.kind.Kind.TheVariants.{File, Dir}
use Rattle.fs_modes.specs.declared.modes.Modes.{Modes}
use Rattle.fs_model.specs.declared.node.Node.{Node}
use Rattle.fs_model.specs.declared.op.Op.{Op}
use Rattle.fs_model.specs.declared.op.Op.TheVariants as op
use Rattle.fs_model.specs.declared.reply.Reply.{Reply}
use Rattle.fs_model.specs.Namespace.{NodeMap}
use Rattle.fs_model.specs.Children.{child_at}
use Rattle.fs_model.specs.Handles.{handle_at, any_conflicts}
use Rattle.fs_model.specs.Sound.{is_change}
use Rattle.fs_model.specs.Step.{Stepped, step, is_empty, is_child, look_up, look_up_in, child_reply, list, list_in, kind, kind_reply, info, create, create_in, open_file, close, set, set_by}
use Rattle.fs_model.proofs.SoundOutcomes.{child_reply_reads, look_up_reads, list_reads, kind_reads, info_reads}
use Rattle.fs_record.specs.Effects.{effects_of, tells_its_effects}

-- the outcome has effects exactly where it is a change
abbrev Tells : Session → Op → Stepped → Type 0
Tells by o s = is_empty (effects_of by o s.reply) ≡ not (is_change s.reply)

by_test : (by : Session) (o : Op) (b : Bool) (s t : Stepped) → Tells by o s → Tells by o t → Tells by o (cond b s t)
by_test by o true s t p q = p
by_test by o false s t p q = q

create_tells : (m : NodeMap) (by : Session) (dir name : List ℕ) (k : Kind) (id : Option (List ℕ)) (o : Option Node) → Tells by (op.Create dir name k id) (create o m dir name k id)
create_tells m by dir name k None None = refl
create_tells m by dir name k (Some id) None = refl
create_tells m by dir name k None (Some d) =
    elim d.kind as (λ j. Tells by (op.Create dir name k None) (create_in j m d dir name k None)) [
      | File ↦ refl
      | Dir ↦ by_test by (op.Create dir name k None) (is_some (child_at d.children name)) _ _ refl refl
    ]
create_tells m by dir name k (Some id) (Some d) =
    elim d.kind as (λ j. Tells by (op.Create dir name k (Some id)) (create_in j m d dir name k (Some id))) [
      | File ↦ refl
      | Dir ↦ by_test by (op.Create dir name k (Some id)) (is_some (child_at d.children name)) _ _ refl (by_test by (op.Create dir name k (Some id)) (is_child dir id && not (is_some (get m id))) _ _ refl refl)
    ]

open_tells : (m : NodeMap) (by : Session) (file : List ℕ) (h : ℕ) (modes : Modes) (o : Option Node) → Tells by (op.OpenFile file h modes) (open_file o m by file h modes)
open_tells m by file h modes None = refl
open_tells m by file h modes (Some n) = by_test by (op.OpenFile file h modes) (is_some (handle_at n.handles by h)) _ _ refl (by_test by (op.OpenFile file h modes) (any_conflicts n.handles modes) _ _ refl refl)

close_tells : (m : NodeMap) (by : Session) (file : List ℕ) (h : ℕ) (o : Option Node) → Tells by (op.Close file h) (close o m by file h)
close_tells m by file h None = refl
close_tells m by file h (Some n) = by_test by (op.Close file h) (is_some (handle_at n.handles by h)) _ _ refl refl

set_by_tells : (m : NodeMap) (by : Session) (file : List ℕ) (h size stamp : ℕ) (o : Option Modes) → Tells by (op.Set file h size stamp) (set_by o m file size stamp)
set_by_tells m by file h size stamp None = refl
set_by_tells m by file h size stamp (Some modes) = by_test by (op.Set file h size stamp) modes.acc_w _ _ refl refl

set_tells : (m : NodeMap) (by : Session) (file : List ℕ) (h size stamp : ℕ) (o : Option Node) → Tells by (op.Set file h size stamp) (set o m by file h size stamp)
set_tells m by file h size stamp None = refl
set_tells m by file h size stamp (Some n) = set_by_tells m by file h size stamp (handle_at n.handles by h)

tells : (m : NodeMap) (by : Session) (o : Op) → tells_its_effects o ≡ true → Tells by o (step m by o)
tells m by (op.Lookup dir name) p = ap not (sym (look_up_reads (get m dir) name))
tells m by (op.List dir) p = ap not (sym (list_reads (get m dir)))
tells m by (op.Kind file) p = ap not (sym (kind_reads (get m file)))
tells m by (op.Info file) p = ap not (sym (info_reads (get m file)))
tells m by (op.Create dir name k id) p = create_tells m by dir name k id (get m dir)
tells m by (op.OpenFile file h modes) p = open_tells m by file h modes (get m file)
tells m by (op.Close file h) p = close_tells m by file h (get m file)
tells m by (op.Set file h size stamp) p = set_tells m by file h size stamp (get m file)
tells m by (op.Delete dir name) p = absurd (cc)
tells m by (op.Rename sdir sname ddir dname) p = absurd (cc)
tells m by (op.Reap file session) p = absurd (cc)

pub none_read : (m : NodeMap) (by : Session) (o : Op) (r : Reply) → tells_its_effects o ≡ true → (step m by o).reply ≡ r → is_empty (effects_of by o r) ≡ not (is_change r)
none_read m by o r p e = ap (λ x. is_empty (effects_of by o x)) (sym e) ∙ (tells m by o p ∙ ap (λ x. not (is_change x)) e)
