-- What others than the home of an operation are told.
use Rattle.std.proofs.Common.{◌≡◌, ℕ, true, false, List, refl, sym, ap, ◌∙◌, subst, inl, inr}
use Rattle.std.specs.Prelude.{Option, Some, None, slice_get}
use Rattle.fs_ident.specs.Ident.{same}
use Rattle.fs_ident.specs.In.{In}
use Rattle.fs_ident.proofs.Same.{same_is, same_self}
use Rattle.fs_field.specs.After.{changed_file}
use Rattle.fs_field.specs.declared.effect.Effect.{Effect}
use Rattle.fs_field.specs.declared.effect.Effect.TheVariants.{SetChild, SetParent, RemoveNode}
use Rattle.fs_field.specs.declared.path.PathAnswer.{PathAnswer}
use Rattle.fs_field.specs.declared.used.Part.{Part}
use Rattle.fs_model.specs.Asking.{home_of}
use Rattle.fs_model.specs.declared.op.Op.{Op}
use Rattle.fs_model.specs.declared.op.Op.TheVariants as op
use Rattle.fs_model.specs.declared.reply.Reply.{Reply}
use Rattle.fs_model.specs.declared.reply.Reply.TheVariants as reply
use Rattle.fs_record.specs.LedEffects.{led_effects, move_effects, removal_effects}
use Rattle.fs_txn.specs.Decided.{AreDecided, IsDecided}
use Rattle.fs_txn.specs.Deciding.{decision, told_effects}
use Rattle.fs_txn.specs.declared.leader.Leader.{Leader}
use Rattle.fs_txn.proofs.Parted.{told_are_on}

-- an effect that is on another file than the home is one of those that can be decided for others
abbrev IsHomeless : Op → Effect → Type 0
IsHomeless o e = same (changed_file e) (home_of o) ≡ false → IsDecided e

same_effect : (d e : Effect) → e ≡ d → IsDecided d → IsDecided e
same_effect d e q h = subst IsDecided (sym q) h

moved_is : (o : Op) (file sdir sname ddir dname : List ℕ) (e : Effect) → home_of o ≡ ddir → In e (move_effects file sdir sname ddir dname) → IsHomeless o e
moved_is o file sdir sname ddir dname e h (inl q) away =
    let wrong : true ≡ false = sym (same_self ddir) ∙ ap (λ d. same ddir d) (sym h) ∙ ap (λ (x : Effect). same (changed_file x) (home_of o)) (sym q) ∙ away in
    absurd (cc wrong)
moved_is o file sdir sname ddir dname e h (inr (inl q)) away = same_effect (SetChild sdir sname None) e q tt
moved_is o file sdir sname ddir dname e h (inr (inr (inl q))) away = same_effect (SetParent file ddir dname) e q tt
moved_is o file sdir sname ddir dname e h (inr (inr (inr i))) away = absurd i

removed_is : (file dir name : List ℕ) (e : Effect) → In e (removal_effects file dir name) → IsDecided e
removed_is file dir name e (inl q) = same_effect (SetChild dir name None) e q tt
removed_is file dir name e (inr (inl q)) = same_effect (RemoveNode file) e q tt
removed_is file dir name e (inr (inr i)) = absurd i

rename_is : (sdir sname ddir dname file : List ℕ) (r : Reply) (e : Effect) → In e (led_effects (op.Rename sdir sname ddir dname) file r) → IsHomeless (op.Rename sdir sname ddir dname) e
rename_is sdir sname ddir dname file reply.Gone e i = absurd i
rename_is sdir sname ddir dname file reply.NotDir e i = absurd i
rename_is sdir sname ddir dname file reply.GoneTo e i = absurd i
rename_is sdir sname ddir dname file reply.NotDirTo e i = absurd i
rename_is sdir sname ddir dname file reply.NoName e i = absurd i
rename_is sdir sname ddir dname file (reply.Found a) e i = absurd i
rename_is sdir sname ddir dname file (reply.Names a) e i = absurd i
rename_is sdir sname ddir dname file reply.IsFile e i = absurd i
rename_is sdir sname ddir dname file reply.IsDir e i = absurd i
rename_is sdir sname ddir dname file (reply.Info a b) e i = absurd i
rename_is sdir sname ddir dname file reply.Exists e i = absurd i
rename_is sdir sname ddir dname file reply.BadId e i = absurd i
rename_is sdir sname ddir dname file reply.Made e i = absurd i
rename_is sdir sname ddir dname file reply.HandleUsed e i = absurd i
rename_is sdir sname ddir dname file reply.Sharing e i = absurd i
rename_is sdir sname ddir dname file reply.Opened e i = absurd i
rename_is sdir sname ddir dname file reply.NoHandle e i = absurd i
rename_is sdir sname ddir dname file reply.Closed e i = absurd i
rename_is sdir sname ddir dname file reply.NoAccess e i = absurd i
rename_is sdir sname ddir dname file reply.Set e i = absurd i
rename_is sdir sname ddir dname file reply.NotEmpty e i = absurd i
rename_is sdir sname ddir dname file reply.InUse e i = absurd i
rename_is sdir sname ddir dname file reply.Deleted e i = absurd i
rename_is sdir sname ddir dname file reply.Cycle e i = absurd i
rename_is sdir sname ddir dname file reply.Renamed e i = moved_is (op.Rename sdir sname ddir dname) file sdir sname ddir dname e refl i
rename_is sdir sname ddir dname file reply.Reaped e i = absurd i

delete_is : (dir name file : List ℕ) (r : Reply) (e : Effect) → In e (led_effects (op.Delete dir name) file r) → IsDecided e
delete_is dir name file reply.Gone e i = absurd i
delete_is dir name file reply.NotDir e i = absurd i
delete_is dir name file reply.GoneTo e i = absurd i
delete_is dir name file reply.NotDirTo e i = absurd i
delete_is dir name file reply.NoName e i = absurd i
delete_is dir name file (reply.Found a) e i = absurd i
delete_is dir name file (reply.Names a) e i = absurd i
delete_is dir name file reply.IsFile e i = absurd i
delete_is dir name file reply.IsDir e i = absurd i
delete_is dir name file (reply.Info a b) e i = absurd i
delete_is dir name file reply.Exists e i = absurd i
delete_is dir name file reply.BadId e i = absurd i
delete_is dir name file reply.Made e i = absurd i
delete_is dir name file reply.HandleUsed e i = absurd i
delete_is dir name file reply.Sharing e i = absurd i
delete_is dir name file reply.Opened e i = absurd i
delete_is dir name file reply.NoHandle e i = absurd i
delete_is dir name file reply.Closed e i = absurd i
delete_is dir name file reply.NoAccess e i = absurd i
delete_is dir name file reply.Set e i = absurd i
delete_is dir name file reply.NotEmpty e i = absurd i
delete_is dir name file reply.InUse e i = absurd i
delete_is dir name file reply.Deleted e i = removed_is file dir name e i
delete_is dir name file reply.Cycle e i = absurd i
delete_is dir name file reply.Renamed e i = absurd i
delete_is dir name file reply.Reaped e i = absurd i

led_is : (o : Op) (file : List ℕ) (r : Reply) (e : Effect) → In e (led_effects o file r) → IsHomeless o e
led_is (op.Rename sdir sname ddir dname) file r e i = rename_is sdir sname ddir dname file r e i
led_is (op.Delete dir name) file r e i = λ away. delete_is dir name file r e i
led_is (op.Lookup dir name) file r e i = absurd i
led_is (op.List dir) file r e i = absurd i
led_is (op.Kind f) file r e i = absurd i
led_is (op.Info f) file r e i = absurd i
led_is (op.Create dir name k id) file r e i = absurd i
led_is (op.OpenFile f h modes) file r e i = absurd i
led_is (op.Close f h) file r e i = absurd i
led_is (op.Set f h size stamp) file r e i = absurd i
led_is (op.Reap f session) file r e i = absurd i

away : (e : Effect) (f home : List ℕ) → same (changed_file e) f ≡ true → same f home ≡ false → same (changed_file e) home ≡ false
away e f home h n = ap (λ g. same g home) (same_is (changed_file e) f h) ∙ n

pub others_are_decided : (l : Leader) (p : Option PathAnswer) (k : ℕ) (a : Part) → slice_get l.parts k ≡ Some a → same a.file (home_of l.op) ≡ false → AreDecided (told_effects (decision l p) k)
others_are_decided l p k a h n e i =
    let q = told_are_on l k a p h e i in
    led_is l.op l.file (q.0).0 e (q.0).1 (away e a.file (home_of l.op) q.1 n)
