-- What can be said of one server's table of path leases.
use Rattle.std.specs.Prelude.{◌≡◌, ◌⊎◌, ◌≤◌, ◌+◌, ℕ, true, false, Bool, not, List, [], ◌∷◌, ◌++◌, Option, Some, None, is_some, option_map}
use Rattle.std.specs.FinMap.{get}
use Rattle.std.specs.List.{filter, list_any}
use Rattle.fs_ident.specs.In.{In}
use Rattle.fs_ident.specs.declared.actor.PathNo.{PathNo}
use Rattle.fs_ident.specs.declared.actor.TxnNo.{TxnNo}
use Rattle.fs_field.specs.Table.{same_txn}
use Rattle.fs_field.specs.declared.path.PathAnswer.TheVariants.{Path}
use Rattle.fs_map.specs.Map.{Owners}
use Rattle.fs_model.specs.Sound.{parent_of}
use Rattle.fs_record.specs.Records.{RecordMap, node_of}
use Rattle.fs_path.specs.Leases.{PathLease, goes_into, goes_over, has_no, named_to_peer}
use Rattle.fs_path.specs.Numbers.{next_path}
use Rattle.fs_path.specs.Returns.{asked_back, held_after, is_needed, releases, without_no, without_txn}
use Rattle.fs_path.specs.Tables.{PathTables, first_in, frozen_for, is_leaving, lease_of, through, with_frozen, with_issued}
use Rattle.fs_path.specs.Walk.{path_of}
use Rattle.fs_path.specs.declared.having.Having.{Having}
use Rattle.fs_path.specs.declared.having.Having.TheVariants.{Held}

-- ## A path that is taken

-- the directory in which the record of the file says that it stands
abbrev pub dir_of : RecordMap → List ℕ → Option (List ℕ)
dir_of m file = option_map (λ place. place.0) (parent_of (node_of (get m file)))

-- the files stand in one another, from the first one down, and no transaction keeps any of them
abbrev pub IsRun : PathTables → RecordMap → List (List ℕ) → Type 0
IsRun t m [] = Unit {0}
IsRun t m (f ∷ []) = frozen_for f t.frozen ≡ None
IsRun t m (f ∷ g ∷ gs) = (frozen_for f t.frozen ≡ None) × ((dir_of m g ≡ Some f) × IsRun t m (g ∷ gs))

-- the files end with this one
abbrev pub EndsWith : List ℕ → List (List ℕ) → Type 0
EndsWith file [] = ⊥
EndsWith file (f ∷ []) = f ≡ file
EndsWith file (f ∷ g ∷ gs) = EndsWith file (g ∷ gs)

-- the path is this run alone, of which the first file has no parent; or it begins with the path of a lease for the first file,
-- which does not leave
abbrev pub BeginsAt : PathTables → RecordMap → List ℕ → List (List ℕ) → List (List ℕ) → Type 0
BeginsAt t m top below path =
    ((dir_of m top ≡ None) × (path ≡ top ∷ below))
    ⊎ ((l : PathLease) × (In (Held l) t.held × ((l.file ≡ top) × (path ≡ l.path ++ below))))

pub record IsTaken (t : PathTables) (m : RecordMap) (file : List ℕ) (path : List (List ℕ)) : Type 0 where
  pub top : List ℕ
  pub below : List (List ℕ)
  pub run : IsRun t m (top ∷ below)
  pub last : EndsWith file (top ∷ below)
  pub begins : BeginsAt t m top below path

abbrev pub TakenPathsBegin : Type 0
TakenPathsBegin =
    (t : PathTables) (m : RecordMap) (file : List ℕ) (path : List (List ℕ)) → path_of t m file ≡ Path path → IsTaken t m file path

-- the table without the leases that leave
abbrev pub without_leaving : PathTables → PathTables
without_leaving t = record t { held = filter (λ h. not (is_leaving h)) t.held }

abbrev pub LeavingIsUsedForNothing : Type 0
LeavingIsUsedForNothing = (t : PathTables) (m : RecordMap) (file : List ℕ) → path_of (without_leaving t) m file ≡ path_of t m file

-- ## A lease that goes back

-- it was asked back, and no path that was given out goes over its file
abbrev pub WhatGoesIsOnNoPath : Type 0
WhatGoesIsOnNoPath =
    (asked : Having → Bool) (issued : List PathLease) (held : List Having) (x : ℕ × PathNo) → In x (releases asked issued held)
    → (h : Having) × (In h held × ((asked h ≡ true) × ((is_needed issued h ≡ false) × (x ≡ named_to_peer (lease_of h)))))

-- one whose file such a path goes over stays
abbrev pub WhatIsNeededStays : Type 0
WhatIsNeededStays =
    (asked : Having → Bool) (issued : List PathLease) (held : List Having) (h : Having) → In h held → is_needed issued h ≡ true
    → In (asked_back asked h) (held_after asked issued held)

-- ## What stands in the way

-- where no number is told, no path that was given out goes over the file
abbrev pub NoneGoesThrough : Type 0
NoneGoesThrough =
    (file : List ℕ) (issued : List PathLease) → through file issued ≡ None → (l : PathLease) → In l issued → goes_over file l ≡ false

-- nor does any, given out or from another server, go over a file below the prefix that is the server's
abbrev pub NoneGoesInto : Type 0
NoneGoesInto =
    (owners : Owners) (me : ℕ) (prefix : List ℕ) (t : PathTables) → first_in owners me prefix t ≡ None
    → ((l : PathLease) → In l t.issued → goes_into owners me prefix l ≡ false)
    × ((h : Having) → In h t.held → goes_into owners me prefix (lease_of h) ≡ false)

-- ## Files that are kept

-- a file that a transaction keeps is frozen
abbrev pub FreezeFreezes : Type 0
FreezeFreezes =
    (file : List ℕ) (txn : TxnNo) (frozen : List (List ℕ × TxnNo)) → is_some (frozen_for file (with_frozen file txn frozen)) ≡ true

-- once a transaction is over it keeps none, and others keep theirs
abbrev pub ThawTakesItsOwn : Type 0
ThawTakesItsOwn =
    (txn : TxnNo) (frozen : List (List ℕ × TxnNo)) (x : List ℕ × TxnNo) → In x frozen
    → (same_txn x.1 txn ≡ false → In x (without_txn txn frozen)) × (same_txn x.1 txn ≡ true → In x (without_txn txn frozen) → ⊥)

-- ## Numbers

-- each lease given out has one of the server's first numbers
abbrev pub AreGiven : ℕ → ℕ → List PathLease → Type 0
AreGiven me given issued = (l : PathLease) → In l issued → (l.no.server ≡ me) × (l.no.count ≤ given)

-- no lease given out has the next number
abbrev pub NextIsNew : Type 0
NextIsNew =
    (me given : ℕ) (number : PathNo) (issued : List PathLease) → AreGiven me given issued → next_path me given ≡ Some number
    → list_any (has_no number) issued ≡ false

-- so it is with one lease more of that number, and after any is back
abbrev pub NumbersGoOn : Type 0
NumbersGoOn =
    (me given : ℕ) (l : PathLease) (issued : List PathLease) → AreGiven me given issued → next_path me given ≡ Some l.no
    → AreGiven me (given + 1) (with_issued l issued)

abbrev pub ReturnsKeepNumbers : Type 0
ReturnsKeepNumbers =
    (me given : ℕ) (number : PathNo) (issued : List PathLease) → AreGiven me given issued → AreGiven me given (without_no number issued)
