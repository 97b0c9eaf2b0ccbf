-- Where a part of a transaction stands: with its leader, on its way, or with the server that it asked.
use Rattle.std.specs.Prelude.{◌≡◌, ◌≢◌, ◌==◌, ◌&&◌, ℕ, Bool, true, false, List, [], ◌∷◌, Option, Some, None}
use Rattle.std.specs.List.{filter}
use Rattle.fs_ident.specs.declared.actor.Session.{Session}
use Rattle.fs_ident.specs.declared.actor.TxnNo.{TxnNo}
use Rattle.fs_field.specs.Table.{same_txn}
use Rattle.fs_field.specs.declared.effect.Effect.{Effect}
use Rattle.fs_field.specs.declared.used.Part.{Part}
use Rattle.fs_field.specs.declared.vote.Vote.{Vote}
use Rattle.fs_field.specs.declared.vote.Vote.TheVariants as vote

-- ## Names

-- which part of which transaction
pub record Key : Type 0 where
  pub txn : TxnNo
  pub part : ℕ

abbrev pub same_key : Key → Key → Bool
same_key a b = same_txn a.txn b.txn && (a.part == b.part)

-- what is asked of a server, and for which session
pub record Wanted : Type 0 where
  pub session : Session
  pub part : Part

-- ## Words

-- what a leader and the server of a part say to each other
pub data Word : Type 0 where
  Prepare : (wanted : Wanted) → Word
  Voted : (vote : Vote) → Word
  Decide : (effects : List Effect) → Word
  Done : Word

-- a word that is on its way
pub record Told : Type 0 where
  pub from : ℕ
  pub to : ℕ
  pub key : Key
  pub word : Word

abbrev pub is_of : Key → Told → Bool
is_of key m = same_key m.key key

-- the words of the part that are on their way
abbrev pub told_of : Key → List Told → List Told
told_of key telling = filter (is_of key) telling

abbrev pub is_between : ℕ → ℕ → Told → Bool
is_between from to m = (m.from == from) && (m.to == to)

-- the leader's word to a server, and the server's to the leader
abbrev pub word_to : Key → ℕ → Word → Told
word_to key at w = record { from = key.txn.server; to = at; key = key; word = w }

abbrev pub word_from : Key → ℕ → Word → Told
word_from key at w = record { from = at; to = key.txn.server; key = key; word = w }

-- ## A part, as its leader has it

pub data Stage : Type 0 where
  -- nobody is asked
  Unknown : Stage
  -- the server was asked, and its vote is awaited
  Asked : (at : ℕ) → Stage
  -- its vote is counted
  Counted : (at : ℕ) → (vote : Vote) → Stage
  -- it was told the decision, and its answer is awaited
  Awaited : (at : ℕ) → Stage

abbrev pub is_yes : Vote → Bool
is_yes vote.Yes = true
is_yes v = false

-- where the file is at another server, nobody is asked any more; every other vote is counted
abbrev pub stage_of : ℕ → Vote → Stage
stage_of at (vote.Moved prefix to) = Unknown
stage_of at v = Counted at v

-- ## A part, at other servers and on its way

-- exactly that server has the part ready
pub record IsAlone (prepared : ℕ → Option Wanted) (at : ℕ) (wanted : Wanted) : Type 0 where
  pub here : prepared at ≡ Some wanted
  pub others : (k : ℕ) → k ≢ at → prepared k ≡ None

abbrev pub IsNowhere : (ℕ → Option Wanted) → Type 0
IsNowhere prepared = (k : ℕ) → prepared k ≡ None

-- the vote is awaited: it was not asked for yet, or it was not Yes, or Yes
pub data IsAsking (key : Key) (at : ℕ) (wanted : Wanted) (prepared : ℕ → Option Wanted) (told : List Told) : Type 0 where
  coming : told ≡ word_to key at (Prepare wanted) ∷ [] → IsNowhere prepared → IsAsking key at wanted prepared told
  refused : (v : Vote) → is_yes v ≡ false → told ≡ word_from key at (Voted v) ∷ [] → IsNowhere prepared
      → IsAsking key at wanted prepared told
  granted : told ≡ word_from key at (Voted vote.Yes) ∷ [] → IsAlone prepared at wanted → IsAsking key at wanted prepared told

-- the decision is on its way, or its answer is
pub data IsEnding (key : Key) (at : ℕ) (wanted : Wanted) (prepared : ℕ → Option Wanted) (told : List Told) : Type 0 where
  decided : (effects : List Effect) → told ≡ word_to key at (Decide effects) ∷ [] → IsAlone prepared at wanted
      → IsEnding key at wanted prepared told
  done : told ≡ word_from key at Done ∷ [] → IsNowhere prepared → IsEnding key at wanted prepared told

-- the leader keeps no word of a part of its own
abbrev pub IsHeldAt : Bool → ℕ → Wanted → (ℕ → Option Wanted) → Type 0
IsHeldAt true at wanted prepared = IsNowhere prepared
IsHeldAt false at wanted prepared = IsAlone prepared at wanted

-- whoever said Yes has the part ready
abbrev pub IsVoted : Bool → Key → ℕ → Wanted → (ℕ → Option Wanted) → Type 0
IsVoted true key at wanted prepared = IsHeldAt (at == key.txn.server) at wanted prepared
IsVoted false key at wanted prepared = IsNowhere prepared

-- what stands with other servers and on its way, for what stands with the leader
abbrev pub IsStage : Key → Wanted → Stage → (ℕ → Option Wanted) → List Told → Type 0
IsStage key wanted Unknown prepared told = (told ≡ []) × IsNowhere prepared
IsStage key wanted (Asked at) prepared told = ((at == key.txn.server) ≡ false) × IsAsking key at wanted prepared told
IsStage key wanted (Counted at v) prepared told = (told ≡ []) × IsVoted (is_yes v) key at wanted prepared
IsStage key wanted (Awaited at) prepared told = ((at == key.txn.server) ≡ false) × IsEnding key at wanted prepared told

-- ## All servers

pub record Desks : Type 0 where
  -- the leaders' parts and their stages
  pub parts : Key → Wanted
  pub stages : Key → Stage
  -- what each server has ready for others
  pub prepared : ℕ → Key → Option Wanted
  -- the words on their way, between two servers in their order
  pub telling : List Told

abbrev pub StagesHold : Desks → Type 0
StagesHold d = (key : Key) → IsStage key (d.parts key) (d.stages key) (λ k. d.prepared k key) (told_of key d.telling)
