-- What a word of a transaction that is sent, or that comes, changes of where its part stands.
use Rattle.std.specs.Prelude.{◌≡◌, ◌==◌, ℕ, Bool, true, false, List, [], ◌∷◌, ◌++◌, Option, Some, None, if◌then◌else◌}
use Rattle.std.specs.List.{find}
use Rattle.fs_ident.specs.In.{In}
use Rattle.fs_field.specs.declared.effect.Effect.{Effect}
use Rattle.fs_field.specs.declared.vote.Vote.{Vote}
use Rattle.fs_field.specs.declared.vote.Vote.TheVariants as vote
use Rattle.fs_txn.specs.Stages.{Desks, Key, StagesHold, Told, Wanted, is_between, is_yes, same_key, stage_of, word_from, word_to}
use Rattle.fs_txn.specs.Stages.Stage.{Unknown, Asked, Counted, Awaited}
use Rattle.fs_txn.specs.Stages.Word.{Prepare, Voted, Decide, Done}

abbrev pub with_key : {X : Type 0} → Key → X → (Key → X) → Key → X
with_key key x f other = if same_key other key then x else f other

abbrev pub with_prepared : ℕ → Key → Option Wanted → (ℕ → Key → Option Wanted) → ℕ → Key → Option Wanted
with_prepared at key x f k = if k == at then with_key key x (f k) else f k

-- the list without the first that passes
abbrev pub without_first : {X : Type 0} → (X → Bool) → List X → List X
without_first is [] = []
without_first is (x ∷ xs) = if is x then xs else x ∷ without_first is xs

-- the first word between the two servers, as it comes
abbrev pub IsFirst : Told → List Told → Type 0
IsFirst m telling = find (is_between m.from m.to) telling ≡ Some m

abbrev pub taken : Told → List Told → List Told
taken m telling = without_first (is_between m.from m.to) telling

-- ## Steps

-- a leader asks another server for a part
abbrev pub after_ask : Key → ℕ → Wanted → Desks → Desks
after_ask key at wanted d = record d {
  parts = with_key key wanted d.parts;
  stages = with_key key (Asked at) d.stages;
  telling = d.telling ++ word_to key at (Prepare wanted) ∷ [];
}

-- it votes on a part of its own
abbrev pub after_own : Key → Wanted → Vote → Desks → Desks
after_own key wanted v d = record d {
  parts = with_key key wanted d.parts;
  stages = with_key key (stage_of key.txn.server v) d.stages;
}

-- a server is asked, and votes
abbrev pub after_prepare : Key → ℕ → Wanted → Vote → Desks → Desks
after_prepare key at wanted v d = record d {
  prepared = if is_yes v then with_prepared at key (Some wanted) d.prepared else d.prepared;
  telling = taken (word_to key at (Prepare wanted)) d.telling ++ word_from key at (Voted v) ∷ [];
}

-- a leader is told a vote
abbrev pub after_voted : Key → ℕ → Vote → Desks → Desks
after_voted key at v d = record d {
  stages = with_key key (stage_of at v) d.stages;
  telling = taken (word_from key at (Voted v)) d.telling;
}

-- it was told that the file is at another server, and asks there
abbrev pub after_seek : Key → ℕ → List ℕ → ℕ → Desks → Desks
after_seek key at prefix to d = after_ask key to (d.parts key) (after_voted key at (vote.Moved prefix to) d)

-- a leader has decided: a part elsewhere that voted Yes is told so
abbrev pub after_tell : Key → ℕ → List Effect → Desks → Desks
after_tell key at effects d = record d {
  stages = with_key key (Awaited at) d.stages;
  telling = d.telling ++ word_to key at (Decide effects) ∷ [];
}

-- any other part is over at once
abbrev pub after_drop : Key → Desks → Desks
after_drop key d = record d { stages = with_key key Unknown d.stages }

-- a server is told the decision
abbrev pub after_decide : Key → ℕ → List Effect → Desks → Desks
after_decide key at effects d = record d {
  prepared = with_prepared at key None d.prepared;
  telling = taken (word_to key at (Decide effects)) d.telling ++ word_from key at Done ∷ [];
}

-- a leader is told that it was done
abbrev pub after_done : Key → ℕ → Desks → Desks
after_done key at d = record d {
  stages = with_key key Unknown d.stages;
  telling = taken (word_from key at Done) d.telling;
}

-- ## Each keeps where all parts stand

abbrev pub AskKeeps : Type 0
AskKeeps = (d : Desks) (key : Key) (at : ℕ) (wanted : Wanted) → StagesHold d → d.stages key ≡ Unknown → (at == key.txn.server) ≡ false
    → StagesHold (after_ask key at wanted d)

abbrev pub OwnKeeps : Type 0
OwnKeeps = (d : Desks) (key : Key) (wanted : Wanted) (v : Vote) → StagesHold d → d.stages key ≡ Unknown
    → StagesHold (after_own key wanted v d)

abbrev pub PrepareKeeps : Type 0
PrepareKeeps = (d : Desks) (key : Key) (at : ℕ) (wanted : Wanted) (v : Vote) → StagesHold d
    → IsFirst (word_to key at (Prepare wanted)) d.telling → StagesHold (after_prepare key at wanted v d)

abbrev pub VotedKeeps : Type 0
VotedKeeps = (d : Desks) (key : Key) (at : ℕ) (v : Vote) → StagesHold d → IsFirst (word_from key at (Voted v)) d.telling
    → StagesHold (after_voted key at v d)

abbrev pub SeekKeeps : Type 0
SeekKeeps = (d : Desks) (key : Key) (at : ℕ) (prefix : List ℕ) (to : ℕ) → StagesHold d
    → IsFirst (word_from key at (Voted (vote.Moved prefix to))) d.telling → (to == key.txn.server) ≡ false
    → StagesHold (after_seek key at prefix to d)

abbrev pub TellKeeps : Type 0
TellKeeps = (d : Desks) (key : Key) (at : ℕ) (effects : List Effect) → StagesHold d → d.stages key ≡ Counted at vote.Yes
    → (at == key.txn.server) ≡ false → StagesHold (after_tell key at effects d)

abbrev pub DropKeeps : Type 0
DropKeeps = (d : Desks) (key : Key) (at : ℕ) (v : Vote) → StagesHold d → d.stages key ≡ Counted at v
    → (is_yes v ≡ true → (at == key.txn.server) ≡ true) → StagesHold (after_drop key d)

abbrev pub DecideKeeps : Type 0
DecideKeeps = (d : Desks) (key : Key) (at : ℕ) (effects : List Effect) → StagesHold d
    → IsFirst (word_to key at (Decide effects)) d.telling → StagesHold (after_decide key at effects d)

abbrev pub DoneKeeps : Type 0
DoneKeeps = (d : Desks) (key : Key) (at : ℕ) → StagesHold d → IsFirst (word_from key at Done) d.telling → StagesHold (after_done key at d)

-- whoever was told a decision has the leader's part ready
abbrev pub DecideFindsPart : Type 0
DecideFindsPart = (d : Desks) (key : Key) (at : ℕ) (effects : List Effect) → StagesHold d → In (word_to key at (Decide effects)) d.telling
    → d.prepared at key ≡ Some (d.parts key)
