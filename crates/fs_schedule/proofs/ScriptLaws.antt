-- Laws of the lines of scripts: each tells one line at most, and a text is one script's or has one first fault.
use Rattle.std.proofs.Common.{◌≡◌, ℕ, ◌≤◌, ◌<◌, ◌+◌, ◌==◌, Bool, true, false, List, [], ◌∷◌, ◌++◌, length, refl, ap, arith, sym, ◌∙◌, subst, inl, inr}
use Rattle.std.specs.Prelude.{Result, Ok, Err, IfErr, IfOk, IsErrOf, codes}
use Rattle.std.specs.List.{AllByRecursion}
use Rattle.fs_ident.specs.Ident.{IsId}
use Rattle.fs_ident.specs.IdText.{id_text}
use Rattle.fs_field.specs.declared.field.Field.{Field}
use Rattle.fs_field.specs.declared.field.Field.TheVariants as field
use Rattle.fs_model.specs.declared.op.Op.{Op as Asked}
use Rattle.fs_model.specs.declared.op.Op.TheVariants as op
use Rattle.fs_schedule.specs.declared.error.Which.{Which}
use Rattle.fs_schedule.specs.declared.error.Which.TheVariants.{Bytes, Servers, Sessions, Events, Packets}
use Rattle.fs_schedule.specs.declared.error.ScheduleError.{ScheduleError}
use Rattle.fs_schedule.specs.declared.error.ScheduleError.TheVariants.{Limit}
use Rattle.fs_schedule.specs.declared.event.Head.{Head}
use Rattle.fs_schedule.specs.declared.limits.TheConstants.{BYTES, EVENTS}
use Rattle.fs_schedule.specs.declared.script.Script.{Script}
use Rattle.fs_schedule.specs.declared.script.Script.TheVariants.{Op, Recall, Move}
use Rattle.fs_schedule.specs.declared.unread.Unread.{Unread}
use Rattle.fs_schedule.specs.declared.unread.Unread.TheVariants.{Outside}
use Rattle.fs_schedule.specs.Faults.{LineFault, PassesLimit, IsOutside}
use Rattle.fs_schedule.specs.Lines.{lines_of}
use Rattle.fs_schedule.specs.Reading.{Reads, Tells}
use Rattle.fs_schedule.specs.Script.{AreScriptLines, FitsScript, HasScriptFault, IsScriptLine, IsScriptText, PassesAfter, ScriptFaultsAt, ScriptLineHas, script_lines, script_words, served}
use Rattle.fs_schedule.specs.Separated.{AreWords, FitsWord}
use Rattle.fs_schedule.specs.Spelling.{FitsField, FitsOp, IsServerIn, field_words, op_words, server_word}
use Rattle.fs_schedule.specs.Words.{Word, Bare, line_text}
use Rattle.fs_schedule.proofs.Asked.{bare_one}
use Rattle.fs_schedule.proofs.Cuts.{words_one}
use Rattle.fs_schedule.proofs.Operations.{distinct, fields_one, id_one, no_reap, op_one, server_one}
use Rattle.fs_schedule.proofs.Single.{behind, first_operand}
use Rattle.fs_schedule.proofs.Spelled.{fits_op, fits_by, fits_field, fits_id, fits_server, text_of}

-- ## A line's words are words

op_is_words : (o : Asked) (line : List ℕ) → FitsOp o → AllByRecursion FitsWord (op_words o) → line ≡ line_text (op_words o) → AreWords (op_words o) line
op_is_words (op.Lookup dir name) line f h e = (h.0, h.1, e)
op_is_words (op.List dir) line f h e = (h.0, h.1, e)
op_is_words (op.Kind file) line f h e = (h.0, h.1, e)
op_is_words (op.Info file) line f h e = (h.0, h.1, e)
op_is_words (op.Create dir name kind id) line f h e = (h.0, h.1, e)
op_is_words (op.OpenFile file n modes) line f h e = (h.0, h.1, e)
op_is_words (op.Close file n) line f h e = (h.0, h.1, e)
op_is_words (op.Set file n size stamp) line f h e = (h.0, h.1, e)
op_is_words (op.Delete dir name) line f h e = (h.0, h.1, e)
op_is_words (op.Rename sdir sname ddir dname) line f h e = (h.0, h.1, e)
op_is_words (op.Reap file session) line f h e = absurd (no_reap f.0)

are_words : (client : Bool) (head : Head) (s : Script) (line : List ℕ) → IsScriptLine client head s line → AreWords (script_words s) line
are_words true head (Op o) line h = op_is_words o line h.0 (fits_op o h.0) h.1
are_words true head (Recall f) line h = absurd h.0
are_words true head (Move prefix to) line h = absurd h.0
are_words false head (Op o) line h = absurd h.0
are_words false head (Recall f) line h = (fits_by (codes "recall") refl, fits_field f h.0, h.1)
are_words false head (Move prefix to) line h = (fits_by (codes "move") refl, (fits_id prefix h.0.0, (fits_server to (omega (arith, h.0.1.1)), tt)), h.1)

-- a line of no words is none
pub script_has_words : (client : Bool) (head : Head) (s : Script) (line : List ℕ) → ((ws : List Word) → AreWords ws line → ⊥) → IsScriptLine client head s line → ⊥
script_has_words client head s line none h = none (script_words s) (are_words client head s line h)

-- a line is what its words are
pub tells_script : (client : Bool) (head : Head) (r : Result Script Unread) (ws : List Word) (line : List ℕ) → AreWords ws line → Reads script_words (FitsScript client head) r ws → Tells (IsScriptLine client head) r line
tells_script client head (Ok s) ws line a h = (h.0, text_of ws line a ∙ ap line_text h.1)
tells_script client head (Err f) ws line a h = λ o s is. h o s is.0 (words_one ws (script_words s) line a (are_words client head s line is))

-- ## Words that are no line

pub no_op_line : (head : Head) (ws : List Word) → ((o : Asked) → FitsOp o → ws ≡ op_words o → ⊥) → (s : Script) → FitsScript true head s → ws ≡ script_words s → ⊥
no_op_line head ws none (Op o) f e = none o f e
no_op_line head ws none (Recall x) f e = f
no_op_line head ws none (Move prefix to) f e = f

pub no_recall_line : (head : Head) (ws : List Word) → ((f : Field) → FitsField f → ws ≡ field_words f → ⊥) → (s : Script) → FitsScript false head s → Bare (codes "recall") ∷ ws ≡ script_words s → ⊥
no_recall_line head ws none (Op o) f e = f
no_recall_line head ws none (Recall x) f e = none x f (behind _ _ _ _ e)
no_recall_line head ws none (Move prefix to) f e = distinct (codes "recall") _ _ _ e refl

third_word : (a b w c d v : Word) (ws vs : List Word) → a ∷ b ∷ w ∷ ws ≡ c ∷ d ∷ v ∷ vs → w ≡ v
third_word a b w c d v ws vs e = cc

pub no_prefix : (head : Head) (v u : Word) → ((id : List ℕ) → IsId id → v ≡ Bare (id_text id) → ⊥) → (s : Script) → FitsScript false head s → Bare (codes "move") ∷ v ∷ u ∷ [] ≡ script_words s → ⊥
no_prefix head v u none (Op o) f e = f
no_prefix head v u none (Recall x) f e = distinct (codes "move") _ _ _ e refl
no_prefix head v u none (Move prefix to) f e = none prefix f.0 (first_operand _ _ _ _ _ _ e)

pub no_destination : (head : Head) (v u : Word) → ((k : ℕ) → IsServerIn head k → u ≡ server_word k → ⊥) → (s : Script) → FitsScript false head s → Bare (codes "move") ∷ v ∷ u ∷ [] ≡ script_words s → ⊥
no_destination head v u none (Op o) f e = f
no_destination head v u none (Recall x) f e = distinct (codes "move") _ _ _ e refl
no_destination head v u none (Move prefix to) f e = none to f.1 (third_word _ _ _ _ _ _ _ _ e)

-- words whose first names no line
pub no_server_line : (head : Head) (w : Word) (ws : List Word) → (w ≡ Bare (codes "recall") → ⊥) → (w ≡ Bare (codes "move") → ⊥) → (s : Script) → FitsScript false head s → w ∷ ws ≡ script_words s → ⊥
no_server_line head w ws recall move (Op o) f e = f
no_server_line head w ws recall move (Recall x) f e = recall (cc)
no_server_line head w ws recall move (Move prefix to) f e = move (cc)

-- the first word is as it was read
pub reads_first : (head : Head) (r : Result Script Unread) (w v : Word) (ws : List Word) → w ≡ v → Reads script_words (FitsScript false head) r (v ∷ ws) → Reads script_words (FitsScript false head) r (w ∷ ws)
reads_first head r w v ws e h =
    let P : Word → Type 0 = λ x. Reads script_words (FitsScript false head) r (x ∷ ws) in
    subst P (sym e) h

-- ## One line after another

-- the lines of the script before those that are left
pub record IsScriptSoFar (client : Bool) (head : Head) (script : List Script) (left all : List (List ℕ)) : Type 0 where
  pub few : length script ≤ EVENTS
  pub forth : (ss : List Script) → AreScriptLines client head (length script) ss left → AreScriptLines client head 0 (script ++ ss) all
  pub fault : (f : LineFault) (at : ℕ) → ScriptFaultsAt f client head at (length script) left → ScriptFaultsAt f client head at 0 all

count_here : (client : Bool) (head : Head) (before n : ℕ) (line : List ℕ) (s : Script) (which : Which) → Events ≡ which → n ≡ before + 1 → length line ≤ BYTES → IsScriptLine client head s line → EVENTS ≤ before → (n ≡ before + 1) × ScriptLineHas (PassesLimit which) client head before line
count_here client head before n line s Bytes q m le h ge = absurd (cc)
count_here client head before n line s Servers q m le h ge = absurd (cc)
count_here client head before n line s Sessions q m le h ge = absurd (cc)
count_here client head before n line s Events q m le h ge = (m, (le, (s, h), ge))
count_here client head before n line s Packets q m le h ge = absurd (cc)

-- a line behind as many lines as a script has
pub script_is_over : (client : Bool) (head : Head) (s : Script) (before n : ℕ) (which : Which) (line : List ℕ) (r : Result Script ScheduleError) → IsScriptLine client head s line → length line ≤ BYTES → IfErr r (λ e. (EVENTS ≤ before) × (e ≡ Limit Events (before + 1))) → IsErrOf r (Limit which n) → (n ≡ before + 1) × ScriptLineHas (PassesLimit which) client head before line
script_is_over client head s before n which line (Ok e) is short over h = absurd (cc)
script_is_over client head s before n which line (Err f) is short over h =
    let e = over.1 in
    let q : Events ≡ which = cc in
    let m : before + 1 ≡ n = cc in
    count_here client head before n line s which q (sym m) short is over.0

-- ## One script, one fault

words_tell : (client : Bool) (head : Head) (s t : Script) → FitsScript client head s → FitsScript client head t → script_words s ≡ script_words t → s ≡ t
words_tell true head (Op o) (Op p) f g e = ap Op (op_one o p f g e)
words_tell true head (Op o) (Recall y) f g e = absurd g
words_tell true head (Op o) (Move q k) f g e = absurd g
words_tell true head (Recall x) t f g e = absurd f
words_tell true head (Move p j) t f g e = absurd f
words_tell false head (Op o) t f g e = absurd f
words_tell false head (Recall x) (Op p) f g e = absurd g
words_tell false head (Recall x) (Recall y) f g e = ap Recall (fields_one x y f g (behind _ _ _ _ e))
words_tell false head (Recall x) (Move q k) f g e = absurd (distinct (codes "recall") _ _ _ e refl)
words_tell false head (Move p j) (Op o) f g e = absurd g
words_tell false head (Move p j) (Recall y) f g e = absurd (distinct (codes "move") _ _ _ e refl)
words_tell false head (Move p j) (Move q k) f g e =
    let same : p ≡ q = id_one p q f.0 g.0 (bare_one _ _ (first_operand _ _ _ _ _ _ e)) in
    let to : j ≡ k = server_one j k f.1.1 g.1.1 (third_word _ _ _ _ _ _ _ _ e) in
    ap (λ (x : List ℕ). Move x j) same ∙ ap (λ (x : ℕ). Move q x) to

line_one : (client : Bool) (head : Head) (s t : Script) (line : List ℕ) → IsScriptLine client head s line → IsScriptLine client head t line → s ≡ t
line_one client head s t line h k = words_tell client head s t h.0 k.0 (words_one (script_words s) (script_words t) line (are_words client head s line h) (are_words client head t line k))

line_fault_one : (f g : LineFault) (client : Bool) (head : Head) (before : ℕ) (line : List ℕ) → ScriptLineHas f client head before line → ScriptLineHas g client head before line → f ≡ g
line_fault_one (PassesLimit Servers) g client head before line h k = absurd h
line_fault_one (PassesLimit Sessions) g client head before line h k = absurd h
line_fault_one (PassesLimit Packets) g client head before line h k = absurd h
line_fault_one (PassesLimit Bytes) (PassesLimit Servers) client head before line h k = absurd k
line_fault_one (PassesLimit Bytes) (PassesLimit Sessions) client head before line h k = absurd k
line_fault_one (PassesLimit Bytes) (PassesLimit Packets) client head before line h k = absurd k
line_fault_one (PassesLimit Bytes) (PassesLimit Bytes) client head before line h k = refl
line_fault_one (PassesLimit Bytes) (PassesLimit Events) client head before line h k = absurd (omega (arith, h, k.0))
line_fault_one (PassesLimit Bytes) IsOutside client head before line h k = absurd (omega (arith, h, k.0))
line_fault_one (PassesLimit Events) (PassesLimit Servers) client head before line h k = absurd k
line_fault_one (PassesLimit Events) (PassesLimit Sessions) client head before line h k = absurd k
line_fault_one (PassesLimit Events) (PassesLimit Packets) client head before line h k = absurd k
line_fault_one (PassesLimit Events) (PassesLimit Bytes) client head before line h k = absurd (omega (arith, k, h.0))
line_fault_one (PassesLimit Events) (PassesLimit Events) client head before line h k = refl
line_fault_one (PassesLimit Events) IsOutside client head before line h k = absurd (k.1 h.1.0 h.1.1)
line_fault_one IsOutside (PassesLimit Servers) client head before line h k = absurd k
line_fault_one IsOutside (PassesLimit Sessions) client head before line h k = absurd k
line_fault_one IsOutside (PassesLimit Packets) client head before line h k = absurd k
line_fault_one IsOutside (PassesLimit Bytes) client head before line h k = absurd (omega (arith, k, h.0))
line_fault_one IsOutside (PassesLimit Events) client head before line h k = absurd (h.1 k.1.0 k.1.1)
line_fault_one IsOutside IsOutside client head before line h k = refl

no_fault : (f : LineFault) (client : Bool) (head : Head) (before : ℕ) (s : Script) (line : List ℕ) → ScriptLineHas f client head before line → PassesAfter client head before s line → ⊥
no_fault (PassesLimit Bytes) client head before s line h p = omega (arith, h, p.short)
no_fault (PassesLimit Events) client head before s line h p = omega (arith, h.2, p.few)
no_fault (PassesLimit Servers) client head before s line h p = h
no_fault (PassesLimit Sessions) client head before s line h p = h
no_fault (PassesLimit Packets) client head before s line h p = h
no_fault IsOutside client head before s line h p = h.1 s p.script

faults_one : (f g : LineFault) (client : Bool) (head : Head) (m n before : ℕ) (lines : List (List ℕ)) → ScriptFaultsAt f client head m before lines → ScriptFaultsAt g client head n before lines → (f ≡ g) × (m ≡ n)
faults_one f g client head m n before [] h k = absurd h
faults_one f g client head m n before (line ∷ lines) (inl h) (inl k) = (line_fault_one f g client head before line h.1 k.1, h.0 ∙ sym k.0)
faults_one f g client head m n before (line ∷ lines) (inl h) (inr k) = absurd (no_fault f client head before k.0.0 line h.1 k.0.1)
faults_one f g client head m n before (line ∷ lines) (inr h) (inl k) = absurd (no_fault g client head before h.0.0 line k.1 h.0.1)
faults_one f g client head m n before (line ∷ lines) (inr h) (inr k) = faults_one f g client head m n (before + 1) lines h.1 k.1

lines_apart : (f : LineFault) (client : Bool) (head : Head) (at before : ℕ) (ss : List Script) (lines : List (List ℕ)) → AreScriptLines client head before ss lines → ScriptFaultsAt f client head at before lines → ⊥
lines_apart f client head at before [] [] h k = k
lines_apart f client head at before [] (line ∷ lines) h k = absurd (cc)
lines_apart f client head at before (s ∷ ss) [] h k = h
lines_apart f client head at before (s ∷ ss) (line ∷ lines) h (inl k) = no_fault f client head before s line k.1 h.0
lines_apart f client head at before (s ∷ ss) (line ∷ lines) h (inr k) = lines_apart f client head at (before + 1) ss lines h.1 k.1

scripts_one : (client : Bool) (head : Head) (before : ℕ) (ss ts : List Script) (lines : List (List ℕ)) → AreScriptLines client head before ss lines → AreScriptLines client head before ts lines → ss ≡ ts
scripts_one client head before [] [] lines h k = refl
scripts_one client head before [] (t ∷ ts) [] h k = absurd k
scripts_one client head before [] (t ∷ ts) (line ∷ lines) h k = absurd (cc)
scripts_one client head before (s ∷ ss) [] [] h k = absurd h
scripts_one client head before (s ∷ ss) [] (line ∷ lines) h k = absurd (cc)
scripts_one client head before (s ∷ ss) (t ∷ ts) [] h k = absurd h
scripts_one client head before (s ∷ ss) (t ∷ ts) (line ∷ lines) h k =
    let q : s ≡ t = line_one client head s t line h.0.script k.0.script in
    let r : ss ≡ ts = scripts_one client head (before + 1) ss ts lines h.1 k.1 in
    ap (λ (x : Script). x ∷ ss) q ∙ ap (λ (xs : List Script). t ∷ xs) r

pub lines_fit : (client : Bool) (head : Head) (before : ℕ) (ss : List Script) (lines : List (List ℕ)) → AreScriptLines client head before ss lines → AllByRecursion (FitsScript client head) ss
lines_fit client head before [] lines h = tt
lines_fit client head before (s ∷ ss) [] h = absurd h
lines_fit client head before (s ∷ ss) (line ∷ lines) h = (h.0.script.0, lines_fit client head (before + 1) ss lines h.1)

pub one_script : (client : Bool) (servers : ℕ) (s t : List Script) (bytes : List ℕ) → IsScriptText client servers s bytes → IsScriptText client servers t bytes → s ≡ t
one_script client servers s t bytes h k = scripts_one client (served servers) 0 s t (script_lines bytes) h k

pub one_script_fault : (client : Bool) (servers : ℕ) (f g : LineFault) (m n : ℕ) (bytes : List ℕ) → HasScriptFault client servers f m bytes → HasScriptFault client servers g n bytes → (f ≡ g) × (m ≡ n)
one_script_fault client servers f g m n bytes h k = faults_one f g client (served servers) m n 0 (script_lines bytes) h k

pub no_script : (client : Bool) (servers : ℕ) (s : List Script) (f : LineFault) (at : ℕ) (bytes : List ℕ) → HasScriptFault client servers f at bytes → IsScriptText client servers s bytes → ⊥
no_script client servers s f at bytes h k = lines_apart f client (served servers) at 0 s (script_lines bytes) k h

pub script_fits : (client : Bool) (servers : ℕ) (s : List Script) (bytes : List ℕ) → IsScriptText client servers s bytes → AllByRecursion (FitsScript client (served servers)) s
script_fits client servers s bytes h = lines_fit client (served servers) 0 s (script_lines bytes) h

-- a text with a byte has its lines
pub all_lines : (bytes : List ℕ) → (length bytes == 0) ≡ false → lines_of bytes ≡ script_lines bytes
all_lines [] e = absurd (cc)
all_lines (b ∷ bs) e = refl

-- what was read within the limits
pub script_passes : (client : Bool) (head : Head) (s : Script) (before : ℕ) (line : List ℕ) (r : Result Script ScheduleError) → IsScriptLine client head s line → length line ≤ BYTES → IfOk r (λ x. (x ≡ s) × (before < EVENTS)) → IfOk r (λ x. PassesAfter client head before x line)
script_passes client head s before line (Ok x) is short ok =
    let P : Script → Type 0 = λ t. PassesAfter client head before t line in
    subst P (sym ok.0) (record { short = short; script = is; few = ok.1 })
script_passes client head s before line (Err e) is short ok = tt

-- the lines of the text that was read are those of the script
pub whole_script : (client : Bool) (servers : ℕ) (bytes : List ℕ) (r : Result (List Script) ScheduleError) → (length bytes == 0) ≡ false → IfOk r (λ s. AreScriptLines client (served servers) 0 s (lines_of bytes)) → IfOk r (λ s. IsScriptText client servers s bytes)
whole_script client servers bytes (Ok s) e h =
    let P : List (List ℕ) → Type 0 = λ ls. AreScriptLines client (served servers) 0 s ls in
    subst P (all_lines bytes e) h
whole_script client servers bytes (Err f) e h = tt

pub whole_fits : (client : Bool) (servers : ℕ) (bytes : List ℕ) (r : Result (List Script) ScheduleError) → IfOk r (λ s. AreScriptLines client (served servers) 0 s (lines_of bytes)) → IfOk r (AllByRecursion (FitsScript client (served servers)))
whole_fits client servers bytes (Ok s) h = lines_fit client (served servers) 0 s (lines_of bytes) h
whole_fits client servers bytes (Err f) h = tt

pub whole_fault : (client : Bool) (servers : ℕ) (bytes : List ℕ) (f : LineFault) (at : ℕ) → (length bytes == 0) ≡ false → ScriptFaultsAt f client (served servers) at 0 (lines_of bytes) → HasScriptFault client servers f at bytes
whole_fault client servers bytes f at e h =
    let P : List (List ℕ) → Type 0 = λ ls. ScriptFaultsAt f client (served servers) at 0 ls in
    subst P (all_lines bytes e) h
