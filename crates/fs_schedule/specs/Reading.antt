-- What readers answer.
use Rattle.std.specs.Prelude.{◌≡◌, ℕ, ◌≤◌, ◌+◌, ◌==◌, ◌&&◌, not, Bool, true, ◌∷◌, [], List, map, min, Result, Ok, Err, IsErrOf}
use Rattle.std.specs.Fmt.{decimal}
use Rattle.fs_ident.specs.declared.actor.Peer.{Peer}
use Rattle.fs_ident.specs.declared.actor.Peer.TheVariants.{Server, Client}
use Rattle.fs_ident.specs.declared.limits.TheConstants.{SESSIONS, LATEST}
use Rattle.fs_schedule.specs.declared.word.Word.{Word as Piece}
use Rattle.fs_schedule.specs.declared.word.Word.TheVariants as piece
use Rattle.fs_schedule.specs.declared.unread.Unread.{Unread}
use Rattle.fs_schedule.specs.declared.unread.Unread.TheVariants.{Outside}
use Rattle.fs_schedule.specs.declared.event.What.{What}
use Rattle.fs_schedule.specs.declared.event.What.TheVariants.{Join, Do, Tell, Turn, Recall, Move}
use Rattle.fs_schedule.specs.declared.event.Event.{Event}
use Rattle.fs_schedule.specs.declared.event.Head.{Head}
use Rattle.fs_schedule.specs.declared.event.Head.TheVariants.{Direct, Servers}
use Rattle.fs_msg.specs.declared.limits.TheConstants.{SERVERS}
use Rattle.fs_schedule.specs.Words.{Word, Bare, Quoted, line_text}
use Rattle.fs_schedule.specs.Spelling.{IsHeadSpelled, IsServerIn, IsNumberOf, client_word, server_word, IsSpelled}

-- the word that stands at a place of a line
abbrev pub word_of : Piece → Word
word_of (piece.Bare bytes) = Bare bytes.now
word_of (piece.Quoted name) = Quoted name.now

abbrev pub words_in : List Piece → List Word
words_in pieces = map word_of pieces

-- a reader's answer: the value in range that is spelled so, or that no value in range is
abbrev pub Reads : {X W : Type 0} → (X → W) → (X → Type 0) → Result X Unread → W → Type 0
Reads spelled Fits (Ok x) w = Fits x × (w ≡ spelled x)
Reads spelled Fits (Err e) w = e ≡ Outside → (x : _) → Fits x → w ≡ spelled x → ⊥

-- the same where the value does not tell its spelling
abbrev pub Tells : {X W : Type 0} → (X → W → Type 0) → Result X Unread → W → Type 0
Tells IsOf (Ok x) w = IsOf x w
Tells IsOf (Err e) w = e ≡ Outside → (x : _) → IsOf x w → ⊥

-- the same of a reader that takes no memory, and wants none
abbrev pub ReadsSurely : {X W : Type 0} → (X → W) → (X → Type 0) → Result X Unread → W → Type 0
ReadsSurely spelled Fits (Ok x) w = Fits x × (w ≡ spelled x)
ReadsSurely spelled Fits (Err e) w = (e ≡ Outside) × ((x : _) → Fits x → w ≡ spelled x → ⊥)

abbrev pub TellsSurely : {X W : Type 0} → (X → W → Type 0) → Result X Unread → W → Type 0
TellsSurely IsOf (Ok x) w = IsOf x w
TellsSurely IsOf (Err e) w = (e ≡ Outside) × ((x : _) → IsOf x w → ⊥)

-- what no value in range is spelled as is outside, also where memory is wanting
abbrev pub Refuses : {X W : Type 0} → (X → W) → (X → Type 0) → Result X Unread → W → Type 0
Refuses spelled Fits r w = ((x : _) → Fits x → w ≡ spelled x → ⊥) → IsErrOf r Outside

-- every value is in range
abbrev pub Always : {X : Type 0} → X → Type 0
Always x = Unit {0}

-- ## Numbers

-- no plus stands in front, and no zero but the only digit
abbrev pub begins_well : List ℕ → Bool
begins_well [] = true
begins_well (d ∷ []) = not (d == 43)
begins_well (d ∷ (e ∷ ds)) = not (d == 43) && not (d == 48)

-- ## Numbers with a limit, which are told up to it, and every greater one as one more

abbrev pub capped : ℕ → ℕ → ℕ
capped most n = min n (most + 1)

-- the digits are those of a number that is told as n
abbrev pub IsToldNumber : ℕ → ℕ → List ℕ → Type 0
IsToldNumber most n digits = (m : ℕ) × IsNumberOf digits m × (n ≡ capped most m)

-- ## Forms, by how many servers they have

abbrev pub capped_head : Head → Head
capped_head Direct = Direct
capped_head (Servers servers skew term) = Servers (capped SERVERS servers) skew term

-- the word is a number of servers that is told as n
abbrev pub IsToldCount : ℕ → Word → Type 0
IsToldCount n w = (digits : List ℕ) × (w ≡ Bare digits) × IsToldNumber SERVERS n digits

-- the words tell the form
abbrev pub IsToldHead : Head → List Word → Type 0
IsToldHead head words = (full : Head) × IsHeadSpelled full words × (head ≡ capped_head full)

-- the line tells the form
abbrev pub IsToldHeadLine : Head → List ℕ → Type 0
IsToldHeadLine head line = (words : List Word) × IsToldHead head words × (line ≡ line_text words)

-- ## Events, by the number of their session

abbrev pub capped_what : What → What
capped_what (Join s) = Join (record s { 0 = capped SESSIONS s.0 })
capped_what (Do s o) = Do (record s { 0 = capped SESSIONS s.0 }) o
capped_what (Tell number) = Tell number
capped_what (Turn (Client s)) = Turn (Client (record s { 0 = capped SESSIONS s.0 }))
capped_what (Turn (Server k)) = Turn (Server k)
capped_what (Recall k f) = Recall k f
capped_what (Move at prefix to) = Move at prefix to

-- the word is that of a session whose number is told as n
abbrev pub IsToldSession : ℕ → Word → Type 0
IsToldSession n w = (digits : List ℕ) × (w ≡ client_word digits) × IsToldNumber SESSIONS n digits

-- the word is that of such a session, or of a server of the form
abbrev pub IsToldPeer : Head → Peer → Word → Type 0
IsToldPeer head (Client s) w = IsToldSession s.0 w
IsToldPeer head (Server k) w = IsServerIn head k × (w ≡ server_word k)

-- the words tell what happens
abbrev pub IsToldWhat : Head → What → List Word → Type 0
IsToldWhat head w words = (full : What) × IsSpelled head full words × (w ≡ capped_what full)

-- the words tell the event
abbrev pub IsToldEvent : Head → Event → List Word → Type 0
IsToldEvent head e words =
    (e.reading ≤ LATEST) × ((rest : List Word) × (words ≡ Bare (decimal e.reading) ∷ rest) × IsToldWhat head e.what rest)

-- the line tells the event
abbrev pub IsToldLine : Head → Event → List ℕ → Type 0
IsToldLine head e line = (words : List Word) × IsToldEvent head e words × (line ≡ line_text words)
