-- Which lines a form has, and how they are spelled.
use Rattle.std.specs.Prelude.{◌≡◌, ◌≢◌, ℕ, ◌<◌, ◌≤◌, ◌^◌, Bool, true, false, List, [], ◌∷◌, ◌++◌, codes, Option, Some, None, IfSome, slice_index, nat_lt}
use Rattle.std.specs.Fmt.{decimal}
use Rattle.std.specs.Str.Parse.{IsNumeral, digits_value}
use Rattle.fs_ident.specs.Ident.{IsId}
use Rattle.fs_ident.specs.IdText.{id_text}
use Rattle.fs_ident.specs.Name.{IsName}
use Rattle.fs_ident.specs.Texts.{server_text}
use Rattle.fs_ident.specs.declared.actor.Session.{Session}
use Rattle.fs_ident.specs.declared.actor.Peer.{Peer}
use Rattle.fs_ident.specs.declared.actor.Peer.TheVariants.{Server, Client}
use Rattle.fs_ident.specs.declared.kind.Kind.{Kind}
use Rattle.fs_ident.specs.declared.kind.Kind.TheVariants.{File, Dir}
use Rattle.fs_ident.specs.declared.limits.TheConstants.{SESSIONS, LATEST}
use Rattle.fs_modes.specs.Letters.{acc_text, deny_text, mode_text}
use Rattle.fs_model.specs.Asking.{may_ask}
use Rattle.fs_model.specs.declared.op.Op.{Op}
use Rattle.fs_model.specs.declared.op.Op.TheVariants as op
use Rattle.fs_field.specs.declared.field.Field.{Field}
use Rattle.fs_field.specs.declared.field.Field.TheVariants as field
use Rattle.fs_msg.specs.declared.limits.TheConstants.{LONGEST, SERVERS}
use Rattle.fs_schedule.specs.declared.event.Head.{Head}
use Rattle.fs_schedule.specs.declared.event.Head.TheVariants.{Direct, Servers}
use Rattle.fs_schedule.specs.declared.event.What.{What}
use Rattle.fs_schedule.specs.declared.event.What.TheVariants.{Join, Do, Tell, Turn, Recall, Move}
use Rattle.fs_schedule.specs.declared.event.Event.{Event}
use Rattle.fs_schedule.specs.Words.{Word, Bare, Quoted, line_text}

-- ## Numbers with a limit

-- the digits of the number, without a leading zero, however great it is
pub record IsNumberOf (digits : List ℕ) (n : ℕ) : Type 0 where
  pub valid : IsNumeral 10 digits
  pub first : slice_index digits 0 ≢ 48
  pub value : digits_value 10 digits ≡ n

-- ## Forms

-- a form whose numbers are in their ranges, that of its servers within the limit
abbrev pub FitsHead : Head → Type 0
FitsHead Direct = Unit {0}
FitsHead (Servers servers skew term) = (1 ≤ servers) × (servers ≤ SERVERS) × (skew ≤ LONGEST) × (1 ≤ term) × (term ≤ LONGEST)

-- how many servers a form has
abbrev pub servers_in : Head → ℕ
servers_in Direct = 0
servers_in (Servers servers skew term) = servers

-- it has more servers than the limit
abbrev pub has_many : Head → Bool
has_many head = nat_lt SERVERS (servers_in head)

-- the form's times are in their ranges
abbrev pub FitsTimes : Head → Type 0
FitsTimes Direct = Unit {0}
FitsTimes (Servers servers skew term) = (skew ≤ LONGEST) × (1 ≤ term) × (term ≤ LONGEST)

-- where the form has servers, these are the digits of their number
abbrev pub IsCountOf : List ℕ → Head → Type 0
IsCountOf digits Direct = Unit {0}
IsCountOf digits (Servers servers skew term) = IsNumberOf digits servers

-- the words of a form; if it has servers, these are the digits of their number
abbrev pub head_words : List ℕ → Head → List Word
head_words digits Direct = Bare (codes "farsite") ∷ Bare (codes "1") ∷ Bare (codes "direct") ∷ []
head_words digits (Servers servers skew term) =
    Bare (codes "farsite") ∷ Bare (codes "1") ∷ Bare (codes "servers") ∷ Bare digits
    ∷ Bare (codes "skew") ∷ Bare (decimal skew) ∷ Bare (codes "term") ∷ Bare (decimal term) ∷ []

-- the words are those of the form, however many servers it has
pub record IsHeadSpelled (head : Head) (words : List Word) : Type 0 where
  pub digits : List ℕ
  pub count : IsCountOf digits head
  pub times : FitsTimes head
  pub spelled : words ≡ head_words digits head

-- the first line of a schedule of this form, however many servers it has
pub record IsHeadLine (head : Head) (line : List ℕ) : Type 0 where
  pub words : List Word
  pub form : IsHeadSpelled head words
  pub text : line ≡ line_text words

-- one of the form's servers; their numbers have eight bits
abbrev pub IsServerIn : Head → ℕ → Type 0
IsServerIn head k = (k < servers_in head) × (k < 2 ^ 8)

-- ## Operations

abbrev pub kind_text : Kind → List ℕ
kind_text File = codes "file"
kind_text Dir = codes "dir"

abbrev pub op_words : Op → List Word
op_words (op.Lookup dir name) = Bare (codes "lookup") ∷ Bare (id_text dir) ∷ Quoted name ∷ []
op_words (op.List dir) = Bare (codes "list") ∷ Bare (id_text dir) ∷ []
op_words (op.Kind file) = Bare (codes "kind") ∷ Bare (id_text file) ∷ []
op_words (op.Info file) = Bare (codes "info") ∷ Bare (id_text file) ∷ []
op_words (op.Create dir name kind id) = Bare (codes "create") ∷ Bare (id_text dir) ∷ Quoted name ∷ Bare (kind_text kind) ∷ []
op_words (op.OpenFile file h modes) =
    Bare (codes "open") ∷ Bare (id_text file) ∷ Bare (decimal h) ∷ Bare (acc_text modes) ∷ Bare (deny_text modes) ∷ []
op_words (op.Close file h) = Bare (codes "close") ∷ Bare (id_text file) ∷ Bare (decimal h) ∷ []
op_words (op.Set file h size stamp) =
    Bare (codes "set") ∷ Bare (id_text file) ∷ Bare (decimal h) ∷ Bare (decimal size) ∷ Bare (decimal stamp) ∷ []
op_words (op.Delete dir name) = Bare (codes "delete") ∷ Bare (id_text dir) ∷ Quoted name ∷ []
op_words (op.Rename sdir sname ddir dname) =
    Bare (codes "rename") ∷ Bare (id_text sdir) ∷ Quoted sname ∷ Bare (id_text ddir) ∷ Quoted dname ∷ []
op_words (op.Reap file session) = []

-- the parts of the operation are in their ranges
abbrev pub FitsParts : Op → Type 0
FitsParts (op.Lookup dir name) = IsId dir × IsName name
FitsParts (op.List dir) = IsId dir
FitsParts (op.Kind file) = IsId file
FitsParts (op.Info file) = IsId file
FitsParts (op.Create dir name kind id) = IsId dir × IsName name
FitsParts (op.OpenFile file h modes) = IsId file × (h < 2 ^ 32)
FitsParts (op.Close file h) = IsId file × (h < 2 ^ 32)
FitsParts (op.Set file h size stamp) = IsId file × (h < 2 ^ 32) × (size < 2 ^ 64) × (stamp < 2 ^ 64)
FitsParts (op.Delete dir name) = IsId dir × IsName name
FitsParts (op.Rename sdir sname ddir dname) = IsId sdir × IsName sname × IsId ddir × IsName dname
FitsParts (op.Reap file session) = IsId file

-- an operation that a schedule can ask for: each form has all that may be asked
abbrev pub FitsOp : Op → Type 0
FitsOp o = (may_ask o ≡ true) × FitsParts o

-- ## Fields

abbrev pub field_words : Field → List Word
field_words (field.Life file) = Bare (codes "life") ∷ Bare (id_text file) ∷ []
field_words (field.Child dir name) = Bare (codes "child") ∷ Bare (id_text dir) ∷ Quoted name ∷ []
field_words (field.Names dir) = Bare (codes "names") ∷ Bare (id_text dir) ∷ []
field_words (field.Info file) = Bare (codes "info") ∷ Bare (id_text file) ∷ []
field_words (field.Own file) = []
field_words (field.SelfW file mode) = Bare (codes "self") ∷ Bare (id_text file) ∷ Bare (mode_text mode) ∷ []
field_words (field.Other file mode) = Bare (codes "other") ∷ Bare (id_text file) ∷ Bare (mode_text mode) ∷ []

-- a field of the grammar, its parts in their ranges: that of a session's handles is not in it
abbrev pub FitsField : Field → Type 0
FitsField (field.Life file) = IsId file
FitsField (field.Child dir name) = IsId dir × IsName name
FitsField (field.Names dir) = IsId dir
FitsField (field.Info file) = IsId file
FitsField (field.Own file) = ⊥
FitsField (field.SelfW file mode) = IsId file
FitsField (field.Other file mode) = IsId file

-- ## Events

-- an event that the form has, its parts in their ranges; a session's number has a limit, and no range
abbrev pub FitsWhat : Head → What → Type 0
FitsWhat head (Join s) = Unit {0}
FitsWhat head (Do s o) = FitsOp o
FitsWhat head (Tell number) = (0 < servers_in head) × IfSome number (λ n. n < 2 ^ 64)
FitsWhat head (Turn (Client s)) = 0 < servers_in head
FitsWhat head (Turn (Server k)) = IsServerIn head k
FitsWhat head (Recall k f) = IsServerIn head k × FitsField f
FitsWhat head (Move at prefix to) = IsServerIn head at × IsId prefix × IsServerIn head to

-- the session that an event names, where it names one
abbrev pub session_in : What → Option Session
session_in (Join s) = Some s
session_in (Do s o) = Some s
session_in (Tell number) = None
session_in (Turn (Client s)) = Some s
session_in (Turn (Server k)) = None
session_in (Recall k f) = None
session_in (Move at prefix to) = None

-- the word of a client's session whose number has these digits
abbrev pub client_word : List ℕ → Word
client_word digits = Bare (codes "c" ++ digits)

abbrev pub server_word : ℕ → Word
server_word k = Bare (server_text k)

-- the word of an actor; if it is a client, these are the digits of its session's number
abbrev pub peer_word : List ℕ → Peer → Word
peer_word digits (Client s) = client_word digits
peer_word digits (Server k) = server_word k

-- the number of a packet, or the word for the least one that was never told
abbrev pub packet_word : Option ℕ → Word
packet_word (Some n) = Bare (decimal n)
packet_word None = Bare (codes "next")

-- the words of an event that names, if any, a session whose number has these digits
abbrev pub what_words : List ℕ → What → List Word
what_words digits (Join s) = Bare (codes "join") ∷ client_word digits ∷ []
what_words digits (Do s o) = Bare (codes "do") ∷ client_word digits ∷ op_words o
what_words digits (Tell number) = Bare (codes "tell") ∷ packet_word number ∷ []
what_words digits (Turn who) = Bare (codes "turn") ∷ peer_word digits who ∷ []
what_words digits (Recall k f) = Bare (codes "recall") ∷ server_word k ∷ field_words f
what_words digits (Move at prefix to) = Bare (codes "move") ∷ server_word at ∷ Bare (id_text prefix) ∷ server_word to ∷ []

-- the words are those of what happens, whatever the number of its session
pub record IsSpelled (head : Head) (w : What) (words : List Word) : Type 0 where
  pub digits : List ℕ
  pub session : IfSome (session_in w) (λ s. IsNumberOf digits s.0)
  pub fits : FitsWhat head w
  pub spelled : words ≡ what_words digits w

-- the line is the event's, whatever the number of its session
pub record IsLineOf (head : Head) (e : Event) (line : List ℕ) : Type 0 where
  pub reading : e.reading ≤ LATEST
  pub words : List Word
  pub what : IsSpelled head e.what words
  pub text : line ≡ line_text (Bare (decimal e.reading) ∷ words)

-- it names a session above the limit
abbrev pub names_late : What → Bool
names_late (Join s) = nat_lt SESSIONS s.0
names_late (Do s o) = nat_lt SESSIONS s.0
names_late (Tell number) = false
names_late (Turn (Client s)) = nat_lt SESSIONS s.0
names_late (Turn (Server k)) = false
names_late (Recall k f) = false
names_late (Move at prefix to) = false

-- ## What every event of a schedule is

pub record FitsEvent (head : Head) (e : Event) : Type 0 where
  pub reading : e.reading ≤ LATEST
  pub session : IfSome (session_in e.what) (λ s. (1 ≤ s.0) × (s.0 ≤ SESSIONS))
  pub what : FitsWhat head e.what
