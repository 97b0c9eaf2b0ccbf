-- Leases by file, beside the list that has them in order of number.
use Rattle.std.specs.Prelude.{◌≡◌, ℕ, Bool, true, false, not, ◌&&◌, List, [], ◌∷◌, map, Option, Some, None, if◌then◌else◌}
use Rattle.std.specs.List.{filter, find, list_all, list_any}
use Rattle.fs_ident.specs.Ordered.{Keyed, put_before}
use Rattle.fs_ident.specs.declared.actor.PathNo.{PathNo}
use Rattle.fs_map.specs.Map.{Owners, begins, is_given}
use Rattle.fs_path.specs.ByFile.{FilesOf, listed_at}
use Rattle.fs_path.specs.Leases.{PathLease, goes_over, lesser_no, path_before, same_path_no}
use Rattle.fs_path.specs.Returns.{is_of, recalls}
use Rattle.fs_path.specs.Tables.{lease_of}
use Rattle.fs_path.specs.declared.having.Having.{Having}
use Rattle.fs_path.specs.declared.having.Having.TheVariants.{Held, Leaving}
use Rattle.fs_path.specs.declared.held_index.HeldIndex.{HeldIndex}
use Rattle.fs_path.specs.declared.index.FileIndex.{FileIndex}
pub use Rattle.fs_path.specs.ByFile.{ChangesAmong, ChangesAt, listed}

-- ## Numbers

-- each number is lesser than those behind it
abbrev pub are_rising : {X : Type 0} → (X → PathNo) → List X → Bool
are_rising key [] = true
are_rising key (x ∷ xs) = list_all (λ y. path_before (key x) (key y)) xs && are_rising key xs

-- the number of a lease that is given out, and of one that is named to its peer
abbrev pub no_of_issued : PathLease → PathNo
no_of_issued l = l.no

abbrev pub no_of_named : ℕ × PathNo → PathNo
no_of_named name = name.1

-- the item has the number
abbrev pub is_numbered : {X : Type 0} → (X → PathNo) → PathNo → X → Bool
is_numbered key number x = same_path_no (key x) number

-- ## By file

-- the leases of each file, named to their peers
abbrev pub ByFile : Type 0
ByFile = FilesOf (ℕ × PathNo)

abbrev pub named_at : ByFile → List ℕ → List (ℕ × PathNo)
named_at files file = listed_at files file

-- one name more, before the first with a greater number
abbrev pub with_named : ℕ × PathNo → List (ℕ × PathNo) → List (ℕ × PathNo)
with_named name names = put_before (λ n. path_before name.1 n.1) name names

-- all but those of the number
abbrev pub without_named : PathNo → List (ℕ × PathNo) → List (ℕ × PathNo)
without_named number names = filter (λ n. not (same_path_no n.1 number)) names

-- the name is more at the file, unless it was met
abbrev pub AddsUnmet : ℕ × PathNo → Bool → List ℕ → ByFile → ByFile → Type 0
AddsUnmet name true file old new = new ≡ old
AddsUnmet name false file old new = ChangesAt (with_named name) file old new

-- the numbers at each file rise
abbrev pub AreRisingAt : ByFile → Type 0
AreRisingAt files = (f : List ℕ) → are_rising no_of_named (named_at files f) ≡ true

-- the first number of some names
abbrev pub first_named : List (ℕ × PathNo) → Option PathNo
first_named [] = None
first_named (name ∷ names) = Some name.1

-- one of the names has another number
abbrev pub has_other : PathNo → List (ℕ × PathNo) → Bool
has_other number names = list_any (λ n. not (same_path_no n.1 number)) names

-- ## Beside the leases

-- at each file stand the leases given out whose path goes over it
abbrev pub AreOver : ByFile → List PathLease → Type 0
AreOver files issued = (f : List ℕ) → named_at files f ≡ recalls (goes_over f) issued

-- so it is while the index is whole, and their numbers rise
abbrev pub IsOver : FileIndex → List PathLease → Type 0
IsOver index issued = index.whole ≡ true → (are_rising no_of_issued issued ≡ true) × AreOver index.files issued

-- an index that is whole became so by one lease more, of a new number
abbrev pub IsNoted : Bool → ℕ × PathNo → List (List ℕ) → FileIndex → FileIndex → Type 0
IsNoted is_new name path old new =
    new.whole ≡ true → (is_new ≡ true) × ((old.whole ≡ true) × ChangesAmong (with_named name) path old.files new.files)

-- none of these has the number
abbrev pub IsNewAmong : {X : Type 0} → (X → PathNo) → PathNo → List X → Bool → Type 0
IsNewAmong key number xs is_new = is_new ≡ true → list_any (is_numbered key number) xs ≡ false

-- ## Beside the leases from other servers

abbrev pub no_of_held : Having → PathNo
no_of_held h = (lease_of h).no

-- the lease, as if its path were its own file alone
abbrev pub at_own : Having → PathLease
at_own h = record { no = (lease_of h).no; peer = (lease_of h).peer; file = (lease_of h).file; path = (lease_of h).file ∷ [] }

-- while the index is whole each of them stands in it, at its own file alone, and their numbers rise
abbrev pub IsOwn : FileIndex → List Having → Type 0
IsOwn index held = IsOver index (map at_own held)

-- and each of them at the files of its path
abbrev pub IsVia : FileIndex → List Having → Type 0
IsVia index held = IsOver index (map lease_of held)

abbrev pub IsHad : HeldIndex → List Having → Type 0
IsHad index held = IsOwn index.own held × IsVia index.via held

-- the lease of the number, where it may be used
abbrev pub if_used : Option Having → Option Having
if_used None = None
if_used (Some (Held l)) = Some (Held l)
if_used (Some (Leaving l)) = None

abbrev pub used_of : PathNo → List Having → Option Having
used_of number held = if_used (find (is_of number) held)

abbrev pub first_of : Option Having → Option Having → Option Having
first_of None other = other
first_of (Some h) other = Some h

-- the first of these names whose lease may be used
abbrev pub used_named : List (ℕ × PathNo) → List Having → Option Having
used_named [] held = None
used_named (name ∷ names) held = first_of (used_of name.1 held) (used_named names held)

-- ## Below a prefix

-- the first number of the file, where it is below the prefix and the server's
abbrev pub number_into : Owners → ℕ → List ℕ → List ℕ × List (ℕ × PathNo) → Option PathNo
number_into owners me prefix e = if is_given owners me prefix e.0 then first_named e.1 else None

-- the least of these files
abbrev pub least_into : Owners → ℕ → List ℕ → Keyed (List (ℕ × PathNo)) → Option PathNo
least_into owners me prefix [] = None
least_into owners me prefix (e ∷ es) = lesser_no (number_into owners me prefix e) (least_into owners me prefix es)

-- of files from the prefix on, in order: the first that does not begin with it ends them
abbrev pub least_from : Owners → ℕ → List ℕ → Keyed (List (ℕ × PathNo)) → Option PathNo
least_from owners me prefix [] = None
least_from owners me prefix (e ∷ es) =
    if begins prefix e.0 then lesser_no (number_into owners me prefix e) (least_from owners me prefix es) else None
