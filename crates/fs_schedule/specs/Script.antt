-- Which lines a node's script has, and what is wrong with any other.
use Rattle.std.specs.Prelude.{◌≡◌, ℕ, ◌+◌, ◌<◌, ◌≤◌, Bool, true, false, List, [], ◌∷◌, codes, length, ◌⊎◌}
use Rattle.fs_ident.specs.Ident.{IsId}
use Rattle.fs_ident.specs.IdText.{id_text}
use Rattle.fs_schedule.specs.declared.error.Which.TheVariants.{Bytes, Events}
use Rattle.fs_schedule.specs.declared.event.Head.{Head}
use Rattle.fs_schedule.specs.declared.event.Head.TheVariants.{Servers}
use Rattle.fs_schedule.specs.declared.limits.TheConstants.{BYTES, EVENTS}
use Rattle.fs_schedule.specs.declared.script.Script.{Script}
use Rattle.fs_schedule.specs.declared.script.Script.TheVariants.{Op, Recall, Move}
use Rattle.fs_schedule.specs.Faults.{LineFault, PassesLimit, IsOutside}
use Rattle.fs_schedule.specs.Lines.{lines_of}
use Rattle.fs_schedule.specs.Spelling.{FitsField, FitsOp, IsServerIn, field_words, op_words, server_word}
use Rattle.fs_schedule.specs.Words.{Word, Bare, line_text}

-- ## Lines

-- the form of so many servers, of which no times are asked
abbrev pub served : ℕ → Head
served servers = Servers servers 0 1

abbrev pub script_words : Script → List Word
script_words (Op o) = op_words o
script_words (Recall f) = Bare (codes "recall") ∷ field_words f
script_words (Move prefix to) = Bare (codes "move") ∷ Bare (id_text prefix) ∷ server_word to ∷ []

-- a client asks for the form's operations; a server recalls the rows on a field or gives what it manages to one of the form's servers
abbrev pub FitsScript : Bool → Head → Script → Type 0
FitsScript true head (Op o) = FitsOp o
FitsScript true head (Recall f) = ⊥
FitsScript true head (Move prefix to) = ⊥
FitsScript false head (Op o) = ⊥
FitsScript false head (Recall f) = FitsField f
FitsScript false head (Move prefix to) = IsId prefix × IsServerIn head to

-- the line is this one of a client's script, or of a server's
abbrev pub IsScriptLine : Bool → Head → Script → List ℕ → Type 0
IsScriptLine client head s line = FitsScript client head s × (line ≡ line_text (script_words s))

-- the line is none
abbrev pub IsNoScriptLine : Bool → Head → List ℕ → Type 0
IsNoScriptLine client head line = (s : Script) → IsScriptLine client head s line → ⊥

-- a line after so many lines passes, and is this one
pub record PassesAfter (client : Bool) (head : Head) (before : ℕ) (s : Script) (line : List ℕ) : Type 0 where
  pub short : length line ≤ BYTES
  pub script : IsScriptLine client head s line
  pub few : before < EVENTS

-- a line after so many lines has this fault; nothing else is counted in a script
abbrev pub ScriptLineHas : LineFault → Bool → Head → ℕ → List ℕ → Type 0
ScriptLineHas (PassesLimit Bytes) client head before line = BYTES < length line
ScriptLineHas IsOutside client head before line = (length line ≤ BYTES) × IsNoScriptLine client head line
ScriptLineHas (PassesLimit Events) client head before line =
    (length line ≤ BYTES) × ((s : Script) × IsScriptLine client head s line) × (EVENTS ≤ before)
ScriptLineHas (PassesLimit which) client head before line = ⊥

-- these lines after so many lines are those of the script
abbrev pub AreScriptLines : Bool → Head → ℕ → List Script → List (List ℕ) → Type 0
AreScriptLines client head before [] lines = lines ≡ []
AreScriptLines client head before (s ∷ ss) [] = ⊥
AreScriptLines client head before (s ∷ ss) (line ∷ lines) =
    PassesAfter client head before s line × AreScriptLines client head (before + 1) ss lines

-- of these lines after so many lines the one of number `at` is the first faulty one
abbrev pub ScriptFaultsAt : LineFault → Bool → Head → ℕ → ℕ → List (List ℕ) → Type 0
ScriptFaultsAt fault client head at before [] = ⊥
ScriptFaultsAt fault client head at before (line ∷ lines) =
    ((at ≡ before + 1) × ScriptLineHas fault client head before line)
    ⊎ (((s : Script) × PassesAfter client head before s line) × ScriptFaultsAt fault client head at (before + 1) lines)

-- ## Texts

-- the lines of a script: a text without a byte has none
abbrev pub script_lines : List ℕ → List (List ℕ)
script_lines [] = []
script_lines (b ∷ bs) = lines_of (b ∷ bs)

-- the text is the script's, within the limits
abbrev pub IsScriptText : Bool → ℕ → List Script → List ℕ → Type 0
IsScriptText client servers script bytes = AreScriptLines client (served servers) 0 script (script_lines bytes)

-- the line of number `at`, counted from 1, has this fault, and no line before it has one
abbrev pub HasScriptFault : Bool → ℕ → LineFault → ℕ → List ℕ → Type 0
HasScriptFault client servers fault at bytes = ScriptFaultsAt fault client (served servers) at 0 (script_lines bytes)
