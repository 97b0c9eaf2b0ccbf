-- What the effects of a delete or a rename leave of a file: its record, and the directory in which it stands. Every other file stays, and
-- so does one that moves within its directory.
use Rattle.std.proofs.Common.{◌≡◌, ◌∙◌, ℕ, true, List, [], ◌∷◌, refl, sym, ap, subst, inl, inr}
use Rattle.std.specs.Prelude.{Option, Some, None, is_some}
use Rattle.std.specs.FinMap.{get}
use Rattle.std.proofs.lemmas.Option.{none-some}
use Rattle.fs_ident.specs.Ident.{same}
use Rattle.fs_ident.specs.In.{In}
use Rattle.fs_ident.proofs.Same.{same_is}
use Rattle.fs_field.specs.After.{changed_file}
use Rattle.fs_field.specs.declared.effect.Effect.{Effect}
use Rattle.fs_field.specs.declared.effect.Effect.TheVariants.{SetChild, SetParent, NewNode, RemoveNode, AddHandle, RemoveHandle, SetInfo}
use Rattle.fs_model.specs.declared.node.Node.{Node}
use Rattle.fs_model.specs.declared.op.Op.{Op}
use Rattle.fs_model.specs.declared.op.Op.TheVariants as op
use Rattle.fs_record.specs.Applied.{node_change, records_after, records_after_all}
use Rattle.fs_record.specs.LedEffects.{led_effects}
use Rattle.fs_record.specs.Records.{RecordMap, node_of}
use Rattle.fs_record.specs.declared.record.Record.{Record}
use Rattle.fs_server.specs.PathSteps.{dir_here}
use Rattle.fs_txn.specs.Deciding.{reply_of}
use Rattle.fs_txn.specs.Parts.{source_of}
use Rattle.fs_serial.proofs.DecidedEffects.Underway.{either_file, node_beside, node_changed}
use Rattle.fs_serial.proofs.Paths.FilesStay.{LeavesFile, effect_leaves}
use Rattle.fs_serial.proofs.Paths.OnTheWay.{dir_in}

-- ## A file's record

-- the effect neither makes the file nor takes it away
abbrev pub LeavesRecord : List ℕ → Effect → Type 0
LeavesRecord f (RemoveNode file) = file ≡ f → ⊥
LeavesRecord f (NewNode file kind dir name) = file ≡ f → ⊥
LeavesRecord f e = Unit {0}

some_node : (o : Option Record) → is_some (node_of o) ≡ is_some o
some_node None = refl
some_node (Some r) = refl

some_left : (e : Effect) (o : Option Node) → LeavesRecord (changed_file e) e → is_some (node_change e o) ≡ is_some o
some_left (SetChild d n z) None l = refl
some_left (SetChild d n z) (Some x) l = refl
some_left (SetParent file dir name) None l = refl
some_left (SetParent file dir name) (Some x) l = refl
some_left (AddHandle file a b z) None l = refl
some_left (AddHandle file a b z) (Some x) l = refl
some_left (RemoveHandle file a b) None l = refl
some_left (RemoveHandle file a b) (Some x) l = refl
some_left (SetInfo file a b) None l = refl
some_left (SetInfo file a b) (Some x) l = refl
some_left (RemoveNode file) o l = absurd (l refl)
some_left (NewNode file kind dir name) o l = absurd (l refl)

record_left : (m : RecordMap) (f : List ℕ) (e : Effect) → LeavesRecord f e → is_some (get (records_after m e) f) ≡ is_some (get m f)
record_left m f e l = elim (either_file f (changed_file e)) as (λ _. is_some (get (records_after m e) f) ≡ is_some (get m f)) [
  | inl s ↦ subst (λ (x : List ℕ). LeavesRecord x e → is_some (get (records_after m e) x) ≡ is_some (get m x)) (sym s)
      (λ q. sym (some_node (get (records_after m e) (changed_file e))) ∙ ap is_some (node_changed m e)
      ∙ some_left e (node_of (get m (changed_file e))) q ∙ some_node (get m (changed_file e))) l
  | inr other ↦ ap (λ (o : Option Record). is_some o) (node_beside m e f other)
]

pub records_left : (m : RecordMap) (f : List ℕ) (es : List Effect) → ((e : Effect) → In e es → LeavesRecord f e)
    → is_some (get (records_after_all m es) f) ≡ is_some (get m f)
records_left m f [] l = refl
records_left m f (e ∷ es) l = records_left (records_after m e) f es (λ x i. l x (inr i)) ∙ record_left m f e (l e (inl refl))

-- ## Of a delete or a rename

-- it changes what a directory lists, or is on the file
abbrev pub IsOfMove : List ℕ → Effect → Type 0
IsOfMove file (SetChild dir name to) = Unit {0}
IsOfMove file (SetParent f dir name) = f ≡ file
IsOfMove file (RemoveNode f) = f ≡ file
IsOfMove file e = ⊥

pub led_effect : (o : Op) (file : List ℕ) (e : Effect) → In e (led_effects o file (reply_of o)) → IsOfMove file e
led_effect (op.Delete dir name) file e (inl q) = subst (IsOfMove file) (sym q) tt
led_effect (op.Delete dir name) file e (inr (inl q)) = subst (IsOfMove file) (sym q) refl
led_effect (op.Delete dir name) file e (inr (inr z)) = absurd z
led_effect (op.Rename sdir sname ddir dname) file e (inl q) = subst (IsOfMove file) (sym q) tt
led_effect (op.Rename sdir sname ddir dname) file e (inr (inl q)) = subst (IsOfMove file) (sym q) tt
led_effect (op.Rename sdir sname ddir dname) file e (inr (inr (inl q))) = subst (IsOfMove file) (sym q) refl
led_effect (op.Rename sdir sname ddir dname) file e (inr (inr (inr z))) = absurd z
led_effect o file e i = absurd i

pub move_leaves_record : (file f : List ℕ) → (file ≡ f → ⊥) → (e : Effect) → IsOfMove file e → LeavesRecord f e
move_leaves_record file f off (SetChild dir name to) m = tt
move_leaves_record file f off (SetParent g dir name) m = tt
move_leaves_record file f off (RemoveNode g) m = λ q. off (sym m ∙ q)
move_leaves_record file f off (NewNode g kind dir name) m = absurd m
move_leaves_record file f off (AddHandle g a b z) m = absurd m
move_leaves_record file f off (RemoveHandle g a b) m = absurd m
move_leaves_record file f off (SetInfo g a b) m = absurd m

pub move_leaves_file : (file f : List ℕ) → (file ≡ f → ⊥) → (e : Effect) → IsOfMove file e → LeavesFile f e
move_leaves_file file f off (SetChild dir name to) m = tt
move_leaves_file file f off (SetParent g dir name) m = λ q. off (sym m ∙ q)
move_leaves_file file f off (RemoveNode g) m = λ q. off (sym m ∙ q)
move_leaves_file file f off (NewNode g kind dir name) m = absurd m
move_leaves_file file f off (AddHandle g a b z) m = absurd m
move_leaves_file file f off (RemoveHandle g a b) m = absurd m
move_leaves_file file f off (SetInfo g a b) m = absurd m

-- ## Of a rename within one directory

abbrev pub IsWithin : Op → Type 0
IsWithin (op.Rename sdir sname ddir dname) = same sdir ddir ≡ true
IsWithin o = ⊥

-- the file stays, and keeps its directory
pub within_leaves_record : (o : Op) (file f : List ℕ) → IsWithin o → (e : Effect) → In e (led_effects o file (reply_of o))
    → LeavesRecord f e
within_leaves_record (op.Rename sdir sname ddir dname) file f w e (inl q) = subst (LeavesRecord f) (sym q) tt
within_leaves_record (op.Rename sdir sname ddir dname) file f w e (inr (inl q)) = subst (LeavesRecord f) (sym q) tt
within_leaves_record (op.Rename sdir sname ddir dname) file f w e (inr (inr (inl q))) = subst (LeavesRecord f) (sym q) tt
within_leaves_record (op.Rename sdir sname ddir dname) file f w e (inr (inr (inr z))) = absurd z
within_leaves_record o file f w e i = absurd w

put_same : (o : Option Node) (file dir name : List ℕ) → dir_in o ≡ Some dir → dir_in (node_change (SetParent file dir name) o) ≡ Some dir
put_same None file dir name e = absurd (none-some dir e)
put_same (Some x) file dir name e = refl

pub within_leaves_place : (m : RecordMap) (o : Op) (file : List ℕ) → IsWithin o → dir_here m file ≡ Some (source_of o)
    → dir_here (records_after_all m (led_effects o file (reply_of o))) file ≡ dir_here m file
within_leaves_place m (op.Rename sdir sname ddir dname) file w stands =
    let one : RecordMap = records_after m (SetChild ddir dname (Some file)) in
    let two : RecordMap = records_after one (SetChild sdir sname None) in
    let still : dir_here two file ≡ dir_here m file =
    (effect_leaves one file (SetChild sdir sname None) tt).dir ∙ (effect_leaves m file (SetChild ddir dname (Some file)) tt).dir in
    let is : sdir ≡ ddir = same_is sdir ddir w in
    ap dir_in (node_changed two (SetParent file ddir dname))
    ∙ put_same (node_of (get two file)) file ddir dname (still ∙ stands ∙ ap Some is) ∙ ap Some (sym is) ∙ sym stands
within_leaves_place m o file w stands = absurd w
