-- What all parts are told together.
use Rattle.std.proofs.Common.{◌≡◌, ℕ, Bool, true, false, List, [], ◌∷◌, ◌++◌, refl, ap, ap₂, ◌∙◌, subst, cond, map}
use Rattle.std.specs.Prelude.{◌||◌, Some, None}
use Rattle.std.specs.List.{flat_map, list_any}
use Rattle.fs_ident.specs.Ident.{same}
use Rattle.fs_ident.proofs.Same.{same_is, same_self}
use Rattle.fs_field.specs.After.{changed_file}
use Rattle.fs_field.specs.declared.effect.Effect.{Effect}
use Rattle.fs_field.specs.declared.effect.Effect.TheVariants.{SetChild, SetParent, RemoveNode}
use Rattle.fs_field.specs.declared.used.Part.{Part}
use Rattle.fs_field.specs.declared.used.Use.{Use}
use Rattle.fs_model.specs.Asking.{home_of}
use Rattle.fs_model.specs.declared.op.Op.{Op}
use Rattle.fs_model.specs.declared.op.Op.TheVariants as op
use Rattle.fs_model.specs.declared.reply.Reply.{Reply}
use Rattle.fs_model.specs.declared.reply.Reply.TheVariants as reply
use Rattle.fs_record.specs.LedEffects.{led_effects, move_effects, removal_effects}
use Rattle.fs_txn.specs.Deciding.{effects_on}
use Rattle.fs_txn.specs.Parts.{led_files, part_at, parts_of, source_of, with_file}
use Rattle.fs_txn.specs.declared.mode.Mode2.{Mode2}
use Rattle.fs_txn.proofs.Parted.{turned}

-- ## Lists of files

pub file_old : (f : List ℕ) (fs : List (List ℕ)) → list_any (λ g. same g f) fs ≡ true → with_file f fs ≡ fs
file_old f fs h = ap (λ b. cond b fs (fs ++ f ∷ [])) h

pub file_new : (f : List ℕ) (fs : List (List ℕ)) → list_any (λ g. same g f) fs ≡ false → with_file f fs ≡ fs ++ f ∷ []
file_new f fs h = ap (λ b. cond b fs (fs ++ f ∷ [])) h

-- the home and the source are one, and the file is another
two_files : (home file : List ℕ) → same file home ≡ false → with_file file (with_file home (home ∷ [])) ≡ home ∷ file ∷ []
two_files home file h =
    ap (with_file file) (file_old home (home ∷ []) (ap (λ b. b || false) (same_self home)))
    ∙ file_new file (home ∷ []) (ap (λ b. b || false) (turned file home h))

-- all three differ
three_files : (home source file : List ℕ) → same home source ≡ false → same file home ≡ false → same file source ≡ false → with_file file (with_file source (home ∷ [])) ≡ home ∷ source ∷ file ∷ []
three_files home source file d h s =
    ap (with_file file) (file_new source (home ∷ []) (ap (λ b. b || false) d))
    ∙ file_new file (home ∷ source ∷ []) (ap₂ (λ a b. a || (b || false)) (turned file home h) (turned file source s))

-- ## What a file gets of two effects, or of three

pub of_two : (x y : Effect) (f : List ℕ) (a b : Bool) → same (changed_file x) f ≡ a → same (changed_file y) f ≡ b
    → effects_on (x ∷ y ∷ []) f ≡ cond a (x ∷ cond b (y ∷ []) []) (cond b (y ∷ []) [])
of_two x y f a b h k = ap₂ (λ p q. cond p (x ∷ cond q (y ∷ []) []) (cond q (y ∷ []) [])) h k

abbrev rest_of_three : Effect → Effect → Bool → Bool → List Effect
rest_of_three y z b c = cond b (y ∷ cond c (z ∷ []) []) (cond c (z ∷ []) [])

pub of_three : (x y z : Effect) (f : List ℕ) (a b c : Bool) → same (changed_file x) f ≡ a → same (changed_file y) f ≡ b → same (changed_file z) f ≡ c
    → effects_on (x ∷ y ∷ z ∷ []) f ≡ cond a (x ∷ rest_of_three y z b c) (rest_of_three y z b c)
of_three x y z f a b c h k l =
    ap (λ p. cond p (x ∷ effects_on (y ∷ z ∷ []) f) (effects_on (y ∷ z ∷ []) f)) h
    ∙ ap (λ es. cond a (x ∷ es) es) (of_two y z f b c k l)

-- ## All parts

-- what the files get, one after another, is all of it
abbrev Shares : List Effect → List (List ℕ) → Type 0
Shares es files = flat_map (effects_on es) files ≡ es

pub none_shared : (files : List (List ℕ)) → Shares [] files
none_shared [] = refl
none_shared (f ∷ fs) = none_shared fs

two_shared : (x y : Effect) (f g : List ℕ) → effects_on (x ∷ y ∷ []) f ≡ x ∷ [] → effects_on (x ∷ y ∷ []) g ≡ y ∷ [] → Shares (x ∷ y ∷ []) (f ∷ g ∷ [])
two_shared x y f g h k = ap₂ (λ a b. a ++ (b ++ [])) h k

pub removal_shared : (file dir name : List ℕ) → same file dir ≡ false → Shares (removal_effects file dir name) (led_files (op.Delete dir name) file)
removal_shared file dir name h =
    let x : Effect = SetChild dir name None in
    let y : Effect = RemoveNode file in
    ap (flat_map (effects_on (removal_effects file dir name))) (two_files dir file h)
    ∙ two_shared x y dir file (of_two x y dir true false (same_self dir) h) (of_two x y file false true (turned file dir h) (same_self file))

-- within one directory
moved_within : (file dir sname dname : List ℕ) → same file dir ≡ false → Shares (move_effects file dir sname dir dname) (led_files (op.Rename dir sname dir dname) file)
moved_within file dir sname dname h =
    let x : Effect = SetChild dir dname (Some file) in
    let y : Effect = SetChild dir sname None in
    let z : Effect = SetParent file dir dname in
    ap (flat_map (effects_on (move_effects file dir sname dir dname))) (two_files dir file h)
    ∙ ap₂ (λ a b. a ++ (b ++ [])) (of_three x y z dir true true false (same_self dir) (same_self dir) h) (of_three x y z file false false true (turned file dir h) (turned file dir h) (same_self file))

-- from one directory to another
moved_across : (file sdir sname ddir dname : List ℕ) → same ddir sdir ≡ false → same file ddir ≡ false → same file sdir ≡ false → Shares (move_effects file sdir sname ddir dname) (led_files (op.Rename sdir sname ddir dname) file)
moved_across file sdir sname ddir dname d h s =
    let x : Effect = SetChild ddir dname (Some file) in
    let y : Effect = SetChild sdir sname None in
    let z : Effect = SetParent file ddir dname in
    let es : List Effect = move_effects file sdir sname ddir dname in
    ap (flat_map (effects_on es)) (three_files ddir sdir file d h s)
    ∙ ap (λ a. a ++ (effects_on es sdir ++ (effects_on es file ++ []))) (of_three x y z ddir true false false (same_self ddir) (turned ddir sdir d) h)
    ∙ ap₂ (λ a b. (x ∷ []) ++ (a ++ (b ++ []))) (of_three x y z sdir false true false d (same_self sdir) s) (of_three x y z file false false true (turned file ddir h) (turned file sdir s) (same_self file))

pub moved_shared : (file sdir sname ddir dname : List ℕ) → same file ddir ≡ false → same file sdir ≡ false → Shares (move_effects file sdir sname ddir dname) (led_files (op.Rename sdir sname ddir dname) file)
moved_shared file sdir sname ddir dname h s = by (same ddir sdir) refl
  where
    by : (b : Bool) → same ddir sdir ≡ b → Shares (move_effects file sdir sname ddir dname) (led_files (op.Rename sdir sname ddir dname) file)
    by true d = subst (λ e. Shares (move_effects file e sname ddir dname) (led_files (op.Rename e sname ddir dname) file)) (same_is ddir sdir d) (moved_within file ddir sname dname h)
    by false d = moved_across file sdir sname ddir dname d h s

rename_shared : (sdir sname ddir dname file : List ℕ) (r : Reply) → same file ddir ≡ false → same file sdir ≡ false → Shares (led_effects (op.Rename sdir sname ddir dname) file r) (led_files (op.Rename sdir sname ddir dname) file)
rename_shared sdir sname ddir dname file reply.Gone h s = none_shared (led_files (op.Rename sdir sname ddir dname) file)
rename_shared sdir sname ddir dname file reply.NotDir h s = none_shared (led_files (op.Rename sdir sname ddir dname) file)
rename_shared sdir sname ddir dname file reply.GoneTo h s = none_shared (led_files (op.Rename sdir sname ddir dname) file)
rename_shared sdir sname ddir dname file reply.NotDirTo h s = none_shared (led_files (op.Rename sdir sname ddir dname) file)
rename_shared sdir sname ddir dname file reply.NoName h s = none_shared (led_files (op.Rename sdir sname ddir dname) file)
rename_shared sdir sname ddir dname file (reply.Found a) h s = none_shared (led_files (op.Rename sdir sname ddir dname) file)
rename_shared sdir sname ddir dname file (reply.Names a) h s = none_shared (led_files (op.Rename sdir sname ddir dname) file)
rename_shared sdir sname ddir dname file reply.IsFile h s = none_shared (led_files (op.Rename sdir sname ddir dname) file)
rename_shared sdir sname ddir dname file reply.IsDir h s = none_shared (led_files (op.Rename sdir sname ddir dname) file)
rename_shared sdir sname ddir dname file (reply.Info a b) h s = none_shared (led_files (op.Rename sdir sname ddir dname) file)
rename_shared sdir sname ddir dname file reply.Exists h s = none_shared (led_files (op.Rename sdir sname ddir dname) file)
rename_shared sdir sname ddir dname file reply.BadId h s = none_shared (led_files (op.Rename sdir sname ddir dname) file)
rename_shared sdir sname ddir dname file reply.Made h s = none_shared (led_files (op.Rename sdir sname ddir dname) file)
rename_shared sdir sname ddir dname file reply.HandleUsed h s = none_shared (led_files (op.Rename sdir sname ddir dname) file)
rename_shared sdir sname ddir dname file reply.Sharing h s = none_shared (led_files (op.Rename sdir sname ddir dname) file)
rename_shared sdir sname ddir dname file reply.Opened h s = none_shared (led_files (op.Rename sdir sname ddir dname) file)
rename_shared sdir sname ddir dname file reply.NoHandle h s = none_shared (led_files (op.Rename sdir sname ddir dname) file)
rename_shared sdir sname ddir dname file reply.Closed h s = none_shared (led_files (op.Rename sdir sname ddir dname) file)
rename_shared sdir sname ddir dname file reply.NoAccess h s = none_shared (led_files (op.Rename sdir sname ddir dname) file)
rename_shared sdir sname ddir dname file reply.Set h s = none_shared (led_files (op.Rename sdir sname ddir dname) file)
rename_shared sdir sname ddir dname file reply.NotEmpty h s = none_shared (led_files (op.Rename sdir sname ddir dname) file)
rename_shared sdir sname ddir dname file reply.InUse h s = none_shared (led_files (op.Rename sdir sname ddir dname) file)
rename_shared sdir sname ddir dname file reply.Deleted h s = none_shared (led_files (op.Rename sdir sname ddir dname) file)
rename_shared sdir sname ddir dname file reply.Cycle h s = none_shared (led_files (op.Rename sdir sname ddir dname) file)
rename_shared sdir sname ddir dname file reply.Renamed h s = moved_shared file sdir sname ddir dname h s
rename_shared sdir sname ddir dname file reply.Reaped h s = none_shared (led_files (op.Rename sdir sname ddir dname) file)

delete_shared : (dir name file : List ℕ) (r : Reply) → same file dir ≡ false → Shares (led_effects (op.Delete dir name) file r) (led_files (op.Delete dir name) file)
delete_shared dir name file reply.Gone h = none_shared (led_files (op.Delete dir name) file)
delete_shared dir name file reply.NotDir h = none_shared (led_files (op.Delete dir name) file)
delete_shared dir name file reply.GoneTo h = none_shared (led_files (op.Delete dir name) file)
delete_shared dir name file reply.NotDirTo h = none_shared (led_files (op.Delete dir name) file)
delete_shared dir name file reply.NoName h = none_shared (led_files (op.Delete dir name) file)
delete_shared dir name file (reply.Found a) h = none_shared (led_files (op.Delete dir name) file)
delete_shared dir name file (reply.Names a) h = none_shared (led_files (op.Delete dir name) file)
delete_shared dir name file reply.IsFile h = none_shared (led_files (op.Delete dir name) file)
delete_shared dir name file reply.IsDir h = none_shared (led_files (op.Delete dir name) file)
delete_shared dir name file (reply.Info a b) h = none_shared (led_files (op.Delete dir name) file)
delete_shared dir name file reply.Exists h = none_shared (led_files (op.Delete dir name) file)
delete_shared dir name file reply.BadId h = none_shared (led_files (op.Delete dir name) file)
delete_shared dir name file reply.Made h = none_shared (led_files (op.Delete dir name) file)
delete_shared dir name file reply.HandleUsed h = none_shared (led_files (op.Delete dir name) file)
delete_shared dir name file reply.Sharing h = none_shared (led_files (op.Delete dir name) file)
delete_shared dir name file reply.Opened h = none_shared (led_files (op.Delete dir name) file)
delete_shared dir name file reply.NoHandle h = none_shared (led_files (op.Delete dir name) file)
delete_shared dir name file reply.Closed h = none_shared (led_files (op.Delete dir name) file)
delete_shared dir name file reply.NoAccess h = none_shared (led_files (op.Delete dir name) file)
delete_shared dir name file reply.Set h = none_shared (led_files (op.Delete dir name) file)
delete_shared dir name file reply.NotEmpty h = none_shared (led_files (op.Delete dir name) file)
delete_shared dir name file reply.InUse h = none_shared (led_files (op.Delete dir name) file)
delete_shared dir name file reply.Deleted h = removal_shared file dir name h
delete_shared dir name file reply.Cycle h = none_shared (led_files (op.Delete dir name) file)
delete_shared dir name file reply.Renamed h = none_shared (led_files (op.Delete dir name) file)
delete_shared dir name file reply.Reaped h = none_shared (led_files (op.Delete dir name) file)

led_shared : (o : Op) (file : List ℕ) (r : Reply) → same file (home_of o) ≡ false → same file (source_of o) ≡ false → Shares (led_effects o file r) (led_files o file)
led_shared (op.Rename sdir sname ddir dname) file r h s = rename_shared sdir sname ddir dname file r h s
led_shared (op.Delete dir name) file r h s = delete_shared dir name file r h
led_shared (op.Lookup dir name) file r h s = none_shared (led_files (op.Lookup dir name) file)
led_shared (op.List dir) file r h s = none_shared (led_files (op.List dir) file)
led_shared (op.Kind f) file r h s = none_shared (led_files (op.Kind f) file)
led_shared (op.Info f) file r h s = none_shared (led_files (op.Info f) file)
led_shared (op.Create dir name k id) file r h s = none_shared (led_files (op.Create dir name k id) file)
led_shared (op.OpenFile f m modes) file r h s = none_shared (led_files (op.OpenFile f m modes) file)
led_shared (op.Close f m) file r h s = none_shared (led_files (op.Close f m) file)
led_shared (op.Set f m size stamp) file r h s = none_shared (led_files (op.Set f m size stamp) file)
led_shared (op.Reap f session) file r h s = none_shared (led_files (op.Reap f session) file)

pub at_files : (es : List Effect) (mode : Mode2) (o : Op) (file : List ℕ) (uses : List Use) (files : List (List ℕ)) → flat_map (λ (a : Part). effects_on es a.file) (map (part_at mode o file uses) files) ≡ flat_map (effects_on es) files
at_files es mode o file uses [] = refl
at_files es mode o file uses (f ∷ fs) = ap (λ rest. effects_on es f ++ rest) (at_files es mode o file uses fs)

pub parts_share : (o : Op) (file : List ℕ) (uses : List Use) (mode : Mode2) (r : Reply) → same file (home_of o) ≡ false → same file (source_of o) ≡ false
    → flat_map (λ (a : Part). effects_on (led_effects o file r) a.file) (parts_of o file uses mode) ≡ led_effects o file r
parts_share o file uses mode r h s = at_files (led_effects o file r) mode o file uses (led_files o file) ∙ led_shared o file r h s
