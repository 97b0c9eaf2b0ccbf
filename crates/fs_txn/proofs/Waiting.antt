-- Parts that wait for their decision, and what it does.
use Rattle.std.proofs.Common.{◌≡◌, ◌==◌, ◌&&◌, ℕ, Bool, true, false, not, List, [], ◌∷◌, ◌++◌, refl, sym, ap, ◌∙◌, cond, inl, inr, map, filter}
use Rattle.std.specs.Prelude.{◌||◌, Option, Some, None}
use Rattle.std.specs.List.{list_any}
use Rattle.fs_ident.specs.In.{In}
use Rattle.fs_ident.specs.declared.actor.TxnNo.{TxnNo}
use Rattle.fs_ident.proofs.Booleans.{joined}
use Rattle.fs_ident.proofs.Same.{itself}
use Rattle.fs_field.specs.Table.{same_txn}
use Rattle.fs_field.specs.declared.effect.Effect.{Effect}
use Rattle.fs_field.specs.declared.effect.Effect.TheVariants.{SetChild, SetParent, NewNode, RemoveNode, AddHandle, RemoveHandle, SetInfo}
use Rattle.fs_field.specs.declared.row.Row.{Row}
use Rattle.fs_record.specs.Applied.{is_undoable, records_after, records_after_all, takes_away}
use Rattle.fs_record.specs.Records.{RecordMap}
use Rattle.fs_txn.specs.Decided.{AreDecided}
use Rattle.fs_txn.specs.Locks.{rows_decided, rows_unlocked, waits_here, without_part}
use Rattle.fs_txn.specs.Ready.{agreed_of, is_awaited, is_part, is_prepared, records_decided, rows_left_by, without_prepared}
use Rattle.fs_txn.specs.Stages.{Key}
use Rattle.fs_txn.specs.declared.ready.Ready.{Ready}
use Rattle.fs_txn.proofs.Keys.{txn_itself}
use Rattle.fs_txn.proofs.Swaps.{past_by}
use Rattle.fs_txn.proofs.Whole.{name_and_place}

-- ## Which parts wait

or_true : (b : Bool) → (b || true) ≡ true
or_true true = refl
or_true false = refl

-- a part that is made ready waits
pub last_waits : (txn : TxnNo) (number : ℕ) (xs : List Ready) (x : Ready) → is_part txn number x ≡ true → is_prepared txn number (xs ++ x ∷ []) ≡ true
last_waits txn number [] x h = ap (λ b. b || false) h
last_waits txn number (y ∷ ys) x h = ap (λ b. is_part txn number y || b) (last_waits txn number ys x h) ∙ or_true (is_part txn number y)

pub part_itself : (x : Ready) → is_part x.txn x.number x ≡ true
part_itself x = joined _ _ (txn_itself x.txn) (itself x.number)

none_left : {X : Type 0} (test : X → Bool) (xs : List X) → list_any test (filter (λ x. not (test x)) xs) ≡ false
none_left test [] = refl
none_left test (x ∷ xs) = at (test x) refl (none_left test xs)
  where
    at : (b : Bool) → test x ≡ b → list_any test (filter (λ x. not (test x)) xs) ≡ false → list_any test (cond (not b) (x ∷ filter (λ x. not (test x)) xs) (filter (λ x. not (test x)) xs)) ≡ false
    at true t rest = rest
    at false t rest = ap (λ b. b || list_any test (filter (λ x. not (test x)) xs)) t ∙ rest

-- a part that was decided waits no more
pub decided_once : (txn : TxnNo) (number : ℕ) (xs : List Ready) → is_prepared txn number (without_prepared txn number xs) ≡ false
decided_once txn number xs = none_left (is_part txn number) xs

-- ## As the laws of locks speak of it

pub left_so : (txn : TxnNo) (number : ℕ) (xs : List Ready) → map agreed_of (without_prepared txn number xs) ≡ without_part (record { txn = txn; part = number }) (map agreed_of xs)
left_so txn number [] = refl
left_so txn number (x ∷ xs) = at (is_part txn number x) (left_so txn number xs)
  where
    at : (b : Bool) → map agreed_of (without_prepared txn number xs) ≡ without_part (record { txn = txn; part = number }) (map agreed_of xs)
        → map agreed_of (cond (not b) (x ∷ without_prepared txn number xs) (without_prepared txn number xs)) ≡ cond (not b) (agreed_of x ∷ without_part (record { txn = txn; part = number }) (map agreed_of xs)) (without_part (record { txn = txn; part = number }) (map agreed_of xs))
    at true rest = rest
    at false rest = ap (λ ys. agreed_of x ∷ ys) rest

awaited_so : (txn : TxnNo) (xs : List Ready) → is_awaited txn xs ≡ waits_here txn (map agreed_of xs)
awaited_so txn [] = refl
awaited_so txn (x ∷ xs) = ap (λ b. same_txn x.txn txn || b) (awaited_so txn xs)

-- the rows are left as those laws say
pub rows_so : (txn : TxnNo) (number : ℕ) (xs : List Ready) (rows : List Row) → rows_left_by txn (without_prepared txn number xs) rows ≡ rows_decided (record { txn = txn; part = number }) rows (map agreed_of xs)
rows_so txn number xs rows = ap (λ b. cond b rows (rows_unlocked txn rows)) (awaited_so txn (without_prepared txn number xs) ∙ ap (waits_here txn) (left_so txn number xs))

-- ## What is decided

abbrev GoesPastPlaces : Effect → Type 0
GoesPastPlaces e = (m : RecordMap) (file dir name : List ℕ) → records_after (records_after m e) (SetParent file dir name) ≡ records_after (records_after m (SetParent file dir name)) e

name_goes : (d n : List ℕ) → GoesPastPlaces (SetChild d n None)
name_goes d n m file dir name = name_and_place m d n None file dir name

file_goes : (f : List ℕ) → GoesPastPlaces (RemoveNode f)
file_goes f m file dir name = past_by m (SetParent file dir name) (RemoveNode f) (λ q. refl)

rest_decided : (e : Effect) (es : List Effect) → AreDecided (e ∷ es) → AreDecided es
rest_decided e es k d i = k d (inr i)

-- what is taken away goes behind what can be taken back
behind : (e : Effect) → GoesPastPlaces e → (m : RecordMap) (es : List Effect) → AreDecided es → records_after (records_after_all m (filter is_undoable es)) e ≡ records_after_all (records_after m e) (filter is_undoable es)
behind e past m [] k = refl
behind e past m (SetChild d n None ∷ es) k = behind e past m es (rest_decided (SetChild d n None) es k)
behind e past m (RemoveNode f ∷ es) k = behind e past m es (rest_decided (RemoveNode f) es k)
behind e past m (SetParent f d n ∷ es) k =
    behind e past (records_after m (SetParent f d n)) es (rest_decided (SetParent f d n) es k)
    ∙ ap (λ r. records_after_all r (filter is_undoable es)) (sym (past m f d n))
behind e past m (SetChild d n (Some f) ∷ es) k = absurd (k (SetChild d n (Some f)) (inl refl))
behind e past m (NewNode f x y z ∷ es) k = absurd (k (NewNode f x y z) (inl refl))
behind e past m (AddHandle f x y z ∷ es) k = absurd (k (AddHandle f x y z) (inl refl))
behind e past m (RemoveHandle f x y ∷ es) k = absurd (k (RemoveHandle f x y) (inl refl))
behind e past m (SetInfo f x y ∷ es) k = absurd (k (SetInfo f x y) (inl refl))

pub in_their_order : (m : RecordMap) (es : List Effect) → AreDecided es → records_decided es m ≡ records_after_all m es
in_their_order m [] k = refl
in_their_order m (SetParent f d n ∷ es) k = in_their_order (records_after m (SetParent f d n)) es (rest_decided (SetParent f d n) es k)
in_their_order m (SetChild d n None ∷ es) k =
    ap (λ r. records_after_all r (filter takes_away es)) (behind (SetChild d n None) (name_goes d n) m es (rest_decided (SetChild d n None) es k))
    ∙ in_their_order (records_after m (SetChild d n None)) es (rest_decided (SetChild d n None) es k)
in_their_order m (RemoveNode f ∷ es) k =
    ap (λ r. records_after_all r (filter takes_away es)) (behind (RemoveNode f) (file_goes f) m es (rest_decided (RemoveNode f) es k))
    ∙ in_their_order (records_after m (RemoveNode f)) es (rest_decided (RemoveNode f) es k)
in_their_order m (SetChild d n (Some f) ∷ es) k = absurd (k (SetChild d n (Some f)) (inl refl))
in_their_order m (NewNode f x y z ∷ es) k = absurd (k (NewNode f x y z) (inl refl))
in_their_order m (AddHandle f x y z ∷ es) k = absurd (k (AddHandle f x y z) (inl refl))
in_their_order m (RemoveHandle f x y ∷ es) k = absurd (k (RemoveHandle f x y) (inl refl))
in_their_order m (SetInfo f x y ∷ es) k = absurd (k (SetInfo f x y) (inl refl))
