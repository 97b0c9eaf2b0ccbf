-- What the parts make of records, one after another.
use Rattle.std.proofs.Common.{◌≡◌, ℕ, Bool, true, false, List, [], ◌∷◌, ◌++◌, refl, ap, ap₂, sym, ◌∙◌, subst}
use Rattle.std.specs.Prelude.{◌||◌, Option, Some, None}
use Rattle.std.specs.FinMap.{get}
use Rattle.std.specs.List.{flat_map, list_any}
use Rattle.fs_ident.specs.Ident.{same}
use Rattle.fs_ident.proofs.Same.{same_is, same_self}
use Rattle.fs_field.specs.declared.effect.Effect.{Effect}
use Rattle.fs_field.specs.declared.effect.Effect.TheVariants.{SetChild, SetParent, RemoveNode}
use Rattle.fs_field.specs.declared.used.Part.{Part}
use Rattle.fs_field.specs.declared.used.Use.{Use}
use Rattle.fs_model.specs.declared.op.Op.{Op}
use Rattle.fs_model.specs.declared.op.Op.TheVariants as op
use Rattle.fs_model.specs.declared.reply.Reply.{Reply}
use Rattle.fs_model.specs.declared.reply.Reply.TheVariants as reply
use Rattle.fs_record.specs.Applied.{record_change, records_after, records_after_all}
use Rattle.fs_record.specs.LedEffects.{led_effects, move_effects, removal_effects}
use Rattle.fs_record.specs.Records.{RecordMap}
use Rattle.fs_record.specs.declared.record.Record.{Record}
use Rattle.fs_txn.specs.Deciding.{effects_on}
use Rattle.fs_txn.specs.Parts.{led_files, parts_of, with_file}
use Rattle.fs_txn.specs.declared.mode.Mode2.{Mode2}
use Rattle.fs_txn.proofs.Parted.{turned}
use Rattle.fs_txn.proofs.Shared.{at_files, file_new, file_old, moved_shared, none_shared, of_three, of_two, removal_shared}
use Rattle.fs_txn.proofs.Swaps.{past_by}

-- ## A name and a place

both_here : (d name : List ℕ) (to : Option (List ℕ)) (file dir as_name : List ℕ) (o : Option Record)
    → record_change (SetParent file dir as_name) (record_change (SetChild d name to) o) ≡ record_change (SetChild d name to) (record_change (SetParent file dir as_name) o)
both_here d name to file dir as_name None = refl
both_here d name None file dir as_name (Some r) = refl
both_here d name (Some f) file dir as_name (Some r) = refl

-- a name that comes or goes and a file that gets its place go past each other, also where the file is the directory itself
pub name_and_place : (m : RecordMap) (d name : List ℕ) (to : Option (List ℕ)) (file dir as_name : List ℕ)
    → records_after (records_after m (SetChild d name to)) (SetParent file dir as_name) ≡ records_after (records_after m (SetParent file dir as_name)) (SetChild d name to)
name_and_place m d name to file dir as_name = past_by m (SetParent file dir as_name) (SetChild d name to) (λ q. both_here d name to file dir as_name (get m file))

-- ## All parts

-- the records to which each file's effects are applied, file by file, are those after all of them
abbrev Makes : RecordMap → List Effect → List (List ℕ) → Type 0
Makes m es files = records_after_all m (flat_map (effects_on es) files) ≡ records_after_all m es

none_made : (m : RecordMap) (files : List (List ℕ)) → Makes m [] files
none_made m files = ap (records_after_all m) (none_shared files)

-- a directory that loses its own name
removal_made : (m : RecordMap) (dir name : List ℕ) → Makes m (removal_effects dir dir name) (led_files (op.Delete dir name) dir)
removal_made m dir name =
    let here : list_any (λ g. same g dir) (dir ∷ []) ≡ true = ap (λ b. b || false) (same_self dir) in
    let files : led_files (op.Delete dir name) dir ≡ dir ∷ [] = ap (with_file dir) (file_old dir (dir ∷ []) here) ∙ file_old dir (dir ∷ []) here in
    ap (λ fs. records_after_all m (flat_map (effects_on (removal_effects dir dir name)) fs)) files
    ∙ ap (λ es. records_after_all m (es ++ [])) (of_two (SetChild dir name None) (RemoveNode dir) dir true true (same_self dir) (same_self dir))

-- a directory that gets its own name and loses one
within_made : (m : RecordMap) (dir sname dname : List ℕ) → Makes m (move_effects dir dir sname dir dname) (led_files (op.Rename dir sname dir dname) dir)
within_made m dir sname dname =
    let x : Effect = SetChild dir dname (Some dir) in
    let y : Effect = SetChild dir sname None in
    let z : Effect = SetParent dir dir dname in
    let here : list_any (λ g. same g dir) (dir ∷ []) ≡ true = ap (λ b. b || false) (same_self dir) in
    let files : led_files (op.Rename dir sname dir dname) dir ≡ dir ∷ [] = ap (with_file dir) (file_old dir (dir ∷ []) here) ∙ file_old dir (dir ∷ []) here in
    ap (λ fs. records_after_all m (flat_map (effects_on (move_effects dir dir sname dir dname)) fs)) files
    ∙ ap (λ es. records_after_all m (es ++ [])) (of_three x y z dir true true true (same_self dir) (same_self dir) (same_self dir))

-- a directory that gets its own name: its place is set before the other one loses it
into_itself_made : (m : RecordMap) (sdir sname ddir dname : List ℕ) → same ddir sdir ≡ false → Makes m (move_effects ddir sdir sname ddir dname) (led_files (op.Rename sdir sname ddir dname) ddir)
into_itself_made m sdir sname ddir dname d =
    let x : Effect = SetChild ddir dname (Some ddir) in
    let y : Effect = SetChild sdir sname None in
    let z : Effect = SetParent ddir ddir dname in
    let other : same sdir ddir ≡ false = turned ddir sdir d in
    let two : with_file sdir (ddir ∷ []) ≡ ddir ∷ sdir ∷ [] = file_new sdir (ddir ∷ []) (ap (λ b. b || false) d) in
    let files : led_files (op.Rename sdir sname ddir dname) ddir ≡ ddir ∷ sdir ∷ [] = ap (with_file ddir) two ∙ file_old ddir (ddir ∷ sdir ∷ []) (ap (λ b. b || (same sdir ddir || false)) (same_self ddir)) in
    ap (λ fs. records_after_all m (flat_map (effects_on (move_effects ddir sdir sname ddir dname)) fs)) files
    ∙ ap₂ (λ a b. records_after_all m (a ++ (b ++ []))) (of_three x y z ddir true false true (same_self ddir) other (same_self ddir)) (of_three x y z sdir false true false d (same_self sdir) d)
    ∙ sym (name_and_place (records_after m x) sdir sname None ddir ddir dname)

-- a directory that loses its own name to another
out_of_itself_made : (m : RecordMap) (sdir sname ddir dname : List ℕ) → same ddir sdir ≡ false → Makes m (move_effects sdir sdir sname ddir dname) (led_files (op.Rename sdir sname ddir dname) sdir)
out_of_itself_made m sdir sname ddir dname d =
    let x : Effect = SetChild ddir dname (Some sdir) in
    let y : Effect = SetChild sdir sname None in
    let z : Effect = SetParent sdir ddir dname in
    let other : same sdir ddir ≡ false = turned ddir sdir d in
    let two : with_file sdir (ddir ∷ []) ≡ ddir ∷ sdir ∷ [] = file_new sdir (ddir ∷ []) (ap (λ b. b || false) d) in
    let files : led_files (op.Rename sdir sname ddir dname) sdir ≡ ddir ∷ sdir ∷ [] = ap (with_file sdir) two ∙ file_old sdir (ddir ∷ sdir ∷ []) (ap₂ (λ a b. a || (b || false)) d (same_self sdir)) in
    ap (λ fs. records_after_all m (flat_map (effects_on (move_effects sdir sdir sname ddir dname)) fs)) files
    ∙ ap₂ (λ a b. records_after_all m (a ++ (b ++ []))) (of_three x y z ddir true false false (same_self ddir) other other) (of_three x y z sdir false true true d (same_self sdir) (same_self sdir))

moved_made : (m : RecordMap) (file sdir sname ddir dname : List ℕ) → Makes m (move_effects file sdir sname ddir dname) (led_files (op.Rename sdir sname ddir dname) file)
moved_made m file sdir sname ddir dname = by (same ddir sdir) (same file ddir) (same file sdir) refl refl refl
  where
    by : (a b c : Bool) → same ddir sdir ≡ a → same file ddir ≡ b → same file sdir ≡ c → Makes m (move_effects file sdir sname ddir dname) (led_files (op.Rename sdir sname ddir dname) file)
    by a false false d h s = ap (records_after_all m) (moved_shared file sdir sname ddir dname h s)
    by true true c d h s =
        subst (λ e. Makes m (move_effects file e sname ddir dname) (led_files (op.Rename e sname ddir dname) file)) (same_is ddir sdir d)
        (subst (λ e. Makes m (move_effects e ddir sname ddir dname) (led_files (op.Rename ddir sname ddir dname) e)) (sym (same_is file ddir h)) (within_made m ddir sname dname))
    by false true c d h s = subst (λ e. Makes m (move_effects e sdir sname ddir dname) (led_files (op.Rename sdir sname ddir dname) e)) (sym (same_is file ddir h)) (into_itself_made m sdir sname ddir dname d)
    by true false true d h s = let wrong : true ≡ false = sym s ∙ ap (same file) (sym (same_is ddir sdir d)) ∙ h in absurd (cc wrong)
    by false false true d h s = subst (λ e. Makes m (move_effects e sdir sname ddir dname) (led_files (op.Rename sdir sname ddir dname) e)) (sym (same_is file sdir s)) (out_of_itself_made m sdir sname ddir dname d)

removed_made : (m : RecordMap) (file dir name : List ℕ) → Makes m (removal_effects file dir name) (led_files (op.Delete dir name) file)
removed_made m file dir name = by (same file dir) refl
  where
    by : (b : Bool) → same file dir ≡ b → Makes m (removal_effects file dir name) (led_files (op.Delete dir name) file)
    by true h = subst (λ e. Makes m (removal_effects e dir name) (led_files (op.Delete dir name) e)) (sym (same_is file dir h)) (removal_made m dir name)
    by false h = ap (records_after_all m) (removal_shared file dir name h)

led_made : (m : RecordMap) (o : Op) (file : List ℕ) (r : Reply) → Makes m (led_effects o file r) (led_files o file)
led_made m (op.Rename sdir sname ddir dname) file reply.Renamed = moved_made m file sdir sname ddir dname
led_made m (op.Delete dir name) file reply.Deleted = removed_made m file dir name
led_made m o file r = none_made m (led_files o file)

-- the records to which all parts are applied, one after another, are those after the operation's effects
pub parts_make : (m : RecordMap) (o : Op) (file : List ℕ) (uses : List Use) (mode : Mode2) (r : Reply)
    → records_after_all m (flat_map (λ (a : Part). effects_on (led_effects o file r) a.file) (parts_of o file uses mode)) ≡ records_after_all m (led_effects o file r)
parts_make m o file uses mode r = ap (records_after_all m) (at_files (led_effects o file r) mode o file uses (led_files o file)) ∙ led_made m o file r
