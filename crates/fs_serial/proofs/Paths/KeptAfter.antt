-- All servers keep what they have to keep after a step of one of them, where that one does, and what is told then is kept.
use Rattle.std.proofs.Common.{◌≡◌, ◌∙◌, ◌⊎◌, ℕ, List, map, refl, sym, ap, subst, inl, inr}
use Rattle.std.specs.Prelude.{Some, slice_get, slice_set}
use Rattle.fs_ident.specs.In.{In}
use Rattle.fs_ident.specs.declared.actor.Session.{Session}
use Rattle.fs_ident.proofs.Standing.{In-got, In-mapped}
use Rattle.fs_field.specs.declared.effect.Effect.{Effect}
use Rattle.fs_client.specs.declared.led.Led.{Led}
use Rattle.fs_server.specs.declared.state.Server.{Server}
use Rattle.fs_txn.specs.Grants.{Decided}
use Rattle.fs_txn.specs.Stages.{Key, Told, word_to}
use Rattle.fs_txn.specs.Stages.Word.{Decide}
use Rattle.fs_txn.specs.declared.leading.Leading.{Leading}
use Rattle.fs_txn.specs.declared.ready.Ready.{Ready}
use Rattle.fs_serial.specs.Cluster.{Cluster}
use Rattle.fs_serial.specs.KeptFiles.{FilesKept, FreezesFor, IsKeptFor, KeepsFiles}
use Rattle.fs_serial.specs.Leading.{LedHolds}
use Rattle.fs_serial.specs.Runs.{records_in}
use Rattle.fs_serial.specs.Words.{decided_at, decided_in, desks_of, ended_in, key_of, led_in, telling_of}
use Rattle.fs_serial.proofs.Paths.KeptPlaces.{PlaceLeft, StaysMade, kept_then}
use Rattle.fs_serial.proofs.Transactions.AwaitedWords.{IsAwaitedBy, awaited_by}
use Rattle.fs_serial.proofs.Transactions.DecidedStill.{decided_told, told_is}
use Rattle.fs_serial.proofs.Transactions.Desks.{IsDecidingWord, deciding_word, each_after}
use Rattle.fs_serial.proofs.Transactions.Tables.{In_all}

-- ## What is told

-- the part is told these effects
abbrev pub IsTold : Cluster → Key → ℕ → List Effect → Type 0
IsTold c key at effects = In (word_to key at (Decide effects)) (telling_of c.in_flight)

-- the part that waits is told these
abbrev pub WaitsFor : Cluster → Ready → ℕ → List Effect → Type 0
WaitsFor c x at effects = IsTold c (key_of x.txn x.number) at effects

-- the effect is decided
abbrev pub HasDecided : Cluster → Effect → Type 0
HasDecided c e = (d : Decided) × (In d (decided_in c) × (d.effect ≡ e))

-- what is told is decided
pub told_decided : (c : Cluster) → LedHolds c → (key : Key) (at : ℕ) (effects : List Effect) → IsTold c key at effects → (e : Effect)
    → In e effects → HasDecided c e
told_decided c led key at effects told e i =
    let w : Told = word_to key at (Decide effects) in
    let its : IsDecidingWord (desks_of led.parts c) key w = deciding_word (desks_of led.parts c) key w refl led.stages told effects refl in
    let by : IsAwaitedBy key.part (ended_in c.servers key.txn) its.at =
    awaited_by key.part its.at (led_in c.servers key.txn) (ended_in c.servers key.txn) its.stage in
    let one : Effect → Decided = λ x. record { by = (by.ending).session; effect = x } in
    let all : decided_told c.servers w ≡ map one effects = ap (λ o. decided_at o effects) by.is in (
      one e,
      (
        subst (In (one e)) (sym (told_is c.servers c.in_flight))
            (In_all (decided_told c.servers) (one e) w (telling_of c.in_flight) told
            (subst (In (one e)) (sym all) (In-mapped one e effects i))),
        refl,
      ),
    )

-- ## A step of one server

-- each part that waits with a server, and is told then what was decided, keeps what it has to keep
abbrev pub TellsKept : Cluster → Cluster → Type 0
TellsKept c later =
    (z : Server) → In z c.servers → (x : Ready) → In x z.prepared → (at : ℕ) (effects : List Effect) → WaitsFor later x at effects
    → (e : Effect) → In e effects → IsKeptFor (records_in later) later.journal x.part e

-- the server after it
pub record KeepsAfter (k : ℕ) (s t : Server) (c later : Cluster) : Type 0 where
  pub servers : later.servers ≡ slice_set c.servers k t
  pub here : KeepsFiles t
  -- a part that waits then waited before, or is told nothing
  pub prepared : (x : Ready) → In x t.prepared
      → In x s.prepared ⊎ ((at : ℕ) (effects : List Effect) → WaitsFor later x at effects → ⊥)
  pub told : TellsKept c later
  pub clients : (y : Session) → (later.lines y).client.led ≡ (c.lines y).client.led
  pub modes : (l : Leading) → In l t.leading → (d : Led) → (c.lines l.leader.session).client.led ≡ Some d
      → FreezesFor d.kind l.leader.mode l.leader.op

pub kept_after : (k : ℕ) (s t : Server) (c later : Cluster) → slice_get c.servers k ≡ Some s → FilesKept c → KeepsAfter k s t c later
    → FilesKept later
kept_after k s t c later at f q = record {
  here = λ z i. each_after KeepsFiles c.servers k t f.here q.here z (subst (In z) q.servers i);
  told = λ z i x j place effects told e n.
      each_after (λ (y : Server). In x y.prepared → IsKeptFor (records_in later) later.journal x.part e) c.servers k t
      (λ y l m. q.told y l x m place effects told e n)
      (λ m. elim (q.prepared x m) as (λ _. IsKeptFor (records_in later) later.journal x.part e) [
        | inl was ↦ q.told s (In-got c.servers k s at) x was place effects told e n
        | inr none ↦ absurd (none place effects told)
      ])
      z (subst (In z) q.servers i) j;
  modes = λ z i l j d e.
      each_after (λ (y : Server). In l y.leading → FreezesFor d.kind l.leader.mode l.leader.op) c.servers k t
      (λ y m n. f.modes y m l n d (sym (q.clients l.leader.session) ∙ e))
      (λ n. q.modes l n d (sym (q.clients l.leader.session) ∙ e))
      z (subst (In z) q.servers i) j;
}

-- what is told still is kept, where its places are left
pub tells_still : (c later : Cluster) → FilesKept c → LedHolds later
    → ((key : Key) (at : ℕ) (effects : List Effect) → IsTold later key at effects → IsTold c key at effects)
    → ((d : Decided) → In d (decided_in later) → PlaceLeft (records_in c) (records_in later) d.effect)
    → StaysMade c.journal later.journal → TellsKept c later
tells_still c later f led words left stays z i x j at effects told e n =
    let d = told_decided later led (key_of x.txn x.number) at effects told e n in
    kept_then (records_in c) (records_in later) c.journal later.journal x.part e
    (subst (PlaceLeft (records_in c) (records_in later)) d.1.1 (left d.0 d.1.0)) stays
    (f.told z i x j at effects (words (key_of x.txn x.number) at effects told) e n)

-- the server's own tables stay
pub modes_still : (c : Cluster) (s t : Server) → In s c.servers → FilesKept c → t.leading ≡ s.leading → (l : Leading) → In l t.leading
    → (d : Led) → (c.lines l.leader.session).client.led ≡ Some d → FreezesFor d.kind l.leader.mode l.leader.op
modes_still c s t here f same l i = f.modes s here l (subst (In l) same i)
