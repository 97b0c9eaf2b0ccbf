-- A server keeps the files that it has to keep while parts say Yes there, and are decided.
use Rattle.std.proofs.Common.{◌≡◌, ◌∙◌, ◌⊎◌, ◌||◌, ℕ, Bool, true, false, not, List, [], ◌∷◌, map, cond, refl, sym, ap, subst, inl, inr}
use Rattle.std.specs.Prelude.{Option, Some, None}
use Rattle.std.specs.List.{flat_map}
use Rattle.fs_ident.specs.In.{In}
use Rattle.fs_ident.specs.declared.actor.TxnNo.{TxnNo}
use Rattle.fs_ident.proofs.Standing.{In-append, In-map, In-put_here}
use Rattle.fs_field.specs.Table.{same_txn}
use Rattle.fs_field.specs.declared.vote.Vote.{Vote}
use Rattle.fs_field.specs.declared.vote.Vote.TheVariants.{Yes, Ended, PathsOut, Moved}
use Rattle.fs_path.specs.Tables.{PathTables}
use Rattle.fs_server.specs.Counts.{paths_voted}
use Rattle.fs_server.specs.Follows.{paths_freed, paths_kept}
use Rattle.fs_server.specs.declared.state.Server.{Server}
use Rattle.fs_txn.specs.Leading.{said_by}
use Rattle.fs_txn.specs.Locks.{Agreed}
use Rattle.fs_txn.specs.Ready.{agreed_of, is_awaited}
use Rattle.fs_txn.specs.declared.ready.Ready.{Ready}
use Rattle.fs_txn.proofs.Keys.{kept_in}
use Rattle.fs_serial.specs.KeptFiles.{KeepsFiles}
use Rattle.fs_serial.specs.Words.{said_at}
use Rattle.fs_serial.proofs.Grants.Leased.{In-put_still}

-- ## Files that are kept

abbrev pub Frozen : Type 0
Frozen = List (List ℕ × TxnNo)

-- all that were kept still are
abbrev pub KeepsAll : PathTables → PathTables → Type 0
KeepsAll old new = (x : List ℕ × TxnNo) → In x old.frozen → In x new.frozen

pub kept_still : (txn : TxnNo) (file : Option (List ℕ)) (t : PathTables) → KeepsAll t (paths_kept txn file t)
kept_still txn None t x i = i
kept_still txn (Some file) t x i = In-put_still _ x (file, txn) t.frozen i

-- with one more
pub kept_there : (txn : TxnNo) (o : Option (List ℕ)) (file : List ℕ) (t : PathTables) → o ≡ Some file
    → In (file, txn) (paths_kept txn o t).frozen
kept_there txn None file t e = absurd (cc e)
kept_there txn (Some f) file t e =
    let same : f ≡ file = cc in
    subst (λ g. In (g, txn) (paths_kept txn (Some f) t).frozen) same (In-put_here _ (f, txn) t.frozen)

pub voted_still : (v : Vote) (txn : TxnNo) (file : Option (List ℕ)) (t : PathTables) → KeepsAll t (paths_voted v txn file t)
voted_still Yes txn file t = kept_still txn file t
voted_still (Ended lease until now) txn file t = λ x i. i
voted_still (PathsOut lease) txn file t = λ x i. i
voted_still (Moved prefix to) txn file t = λ x i. i

-- those of other transactions
pub freed_still : (txn : TxnNo) (t : PathTables) (file : List ℕ) (u : TxnNo) → same_txn u txn ≡ false → In (file, u) t.frozen
    → In (file, u) (paths_freed txn t).frozen
freed_still txn t file u off i = kept_in (λ (x : List ℕ × TxnNo). not (same_txn x.1 txn)) (file, u) t.frozen i (ap not off)

-- ## A server

-- the file that the part names is kept
abbrev pub IsKeptIn : PathTables → Agreed → Type 0
IsKeptIn t y = (file : List ℕ) → y.wanted.part.freeze ≡ Some file → In (file, y.key.txn) t.frozen

-- whatever says Yes then did so before, or is kept
pub keeps_more : (s t : Server) → KeepsFiles s → KeepsAll s.paths t.paths
    → ((y : Agreed) → In y (said_at t) → In y (said_at s) ⊎ IsKeptIn t.paths y) → KeepsFiles t
keeps_more s t h all said y file i freeze = elim (said y i) as (λ _. In (file, y.key.txn) t.paths.frozen) [
  | inl was ↦ all (file, y.key.txn) (h y file was freeze)
  | inr new ↦ new file freeze
]

-- the same say Yes, and the same is kept
pub keeps_alike : (s t : Server) → KeepsFiles s → said_at t ≡ said_at s → t.paths.frozen ≡ s.paths.frozen → KeepsFiles t
keeps_alike s t h said frozen =
    keeps_more s t h (λ x i. subst (In x) (sym frozen) i) (λ y i. inl (subst (In y) said i))

-- a transaction keeps nothing here any more, of which no part says Yes
pub keeps_freed : (s t : Server) (txn : TxnNo) → KeepsFiles s → t.paths ≡ paths_freed txn s.paths
    → ((y : Agreed) → In y (said_at t) → In y (said_at s) × (same_txn y.key.txn txn ≡ false)) → KeepsFiles t
keeps_freed s t txn h freed said y file i freeze =
    let q = said y i in
    subst (λ (p : PathTables). In (file, y.key.txn) p.frozen) (sym freed)
    (freed_still txn s.paths file y.key.txn q.1 (h y file q.0 freeze))

-- ## A part of another server's transaction is decided

-- none of these is of the transaction
none_of : (txn : TxnNo) (xs : List Ready) → is_awaited txn xs ≡ false → (x : Ready) → In x xs → same_txn x.txn txn ≡ false
none_of txn [] none x i = absurd i
none_of txn (z ∷ zs) none x i = by (same_txn z.txn txn) refl none (λ n j. none_of txn zs n x j) i
  where
    by : (b : Bool) → same_txn z.txn txn ≡ b → (b || is_awaited txn zs) ≡ false
        → (is_awaited txn zs ≡ false → In x zs → same_txn x.txn txn ≡ false) → In x (z ∷ zs) → same_txn x.txn txn ≡ false
    by true e n rest j = absurd (cc n)
    by false e n rest (inl q) = ap (λ (y : Ready). same_txn y.txn txn) q ∙ e
    by false e n rest (inr j) = rest n j

-- where no other part of it waits, and none is of the server's own transactions
pub keeps_left : (s t : Server) (txn : TxnNo) (b : Bool) → is_awaited txn t.prepared ≡ b → KeepsFiles s
    → t.paths ≡ cond b s.paths (paths_freed txn s.paths) → ((y : Agreed) → In y (said_at t) → In y (said_at s))
    → ((y : Agreed) → In y (flat_map (said_by t.me) t.leading) → same_txn y.key.txn txn ≡ false) → KeepsFiles t
keeps_left s t txn true waits h same said own =
    keeps_more s t h (λ x i. subst (λ (p : PathTables). In x p.frozen) (sym same) i) (λ y i. inl (said y i))
keeps_left s t txn false waits h same said own =
    keeps_freed s t txn h same (λ y i. (
      said y i,
      elim (In-append y (map agreed_of t.prepared) (flat_map (said_by t.me) t.leading) i) as (λ _. same_txn y.key.txn txn ≡ false) [
        | inl j ↦ let q = In-map agreed_of y t.prepared j in
            ap (λ (z : Agreed). same_txn z.key.txn txn) q.1.1 ∙ none_of txn t.prepared waits q.0 q.1.0
        | inr j ↦ own y j
      ],
    ))
