-- Prefixes of messages, how far bytes are one, and where tags stand: apart from any way of reading.
use Rattle.std.specs.Prelude.{◌≡◌, ℕ, ◌<◌, ◌≤◌, true, false, List, ◌∷◌, ◌++◌, length, take, get_or}
use Rattle.fs_msg.specs.declared.msg.Msg.{Msg}
use Rattle.fs_msg.specs.Spelling.{message}
use Rattle.fs_msg.specs.Ranges.{FitsMessage}
use Rattle.fs_msg.specs.Tags.{tags_of}

-- the bytes are the spelling of a message, all of them
pub record IsMessage (bytes : List ℕ) : Type 0 where
  pub whole : Msg
  pub fits : FitsMessage whole
  pub spelled : bytes ≡ message whole

-- no prefix of the bytes is a message
abbrev pub BeginsWithNone : List ℕ → Type 0
BeginsWithNone bytes = (k : ℕ) → IsMessage (take k bytes) → ⊥

-- some message begins with the bytes, or is the bytes
pub record IsMessagePrefix (bytes : List ℕ) : Type 0 where
  pub whole : Msg
  pub fits : FitsMessage whole
  pub rest : List ℕ
  pub begins : message whole ≡ bytes ++ rest

-- some message begins with the bytes and goes on
pub record IsProperMessagePrefix (bytes : List ℕ) : Type 0 where
  pub whole : Msg
  pub fits : FitsMessage whole
  pub next : ℕ
  pub rest : List ℕ
  pub begins : message whole ≡ bytes ++ next ∷ rest

-- the prefix of so many bytes begins a message, and no longer one does
pub record IsLongestMessagePrefix (bytes : List ℕ) (at : ℕ) : Type 0 where
  pub within : at ≤ length bytes
  pub begins : IsMessagePrefix (take at bytes)
  pub longest : (k : ℕ) → k ≤ length bytes → IsMessagePrefix (take k bytes) → k ≤ at

-- some message begins with the bytes and has a tag next
pub record IsTagPlace (bytes : List ℕ) : Type 0 where
  pub whole : Msg
  pub fits : FitsMessage whole
  pub rest : List ℕ
  pub begins : message whole ≡ bytes ++ rest
  pub tag : get_or (tags_of whole) (length bytes) false ≡ true

-- the bytes are no beginning of a message, no prefix of them is one, and they go wrong at the place
pub record GoWrongAt (bytes : List ℕ) (at : ℕ) : Type 0 where
  pub inside : at < length bytes
  pub none : BeginsWithNone bytes
  pub longest : IsLongestMessagePrefix bytes at
