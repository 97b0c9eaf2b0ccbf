-- The leases below a prefix, by the files of an index.
use Rattle.std.specs.Prelude.{◌≡◌, ℕ, Bool, true, false, not, List, [], ◌∷◌, ◌++◌, map, take, drop, Option, Some, None, if◌then◌else◌}
use Rattle.std.specs.List.{filter, find, list_any}
use Rattle.fs_ident.specs.In.{In}
use Rattle.fs_ident.specs.Ordered.{Keyed}
use Rattle.fs_ident.specs.declared.actor.PathNo.{PathNo}
use Rattle.fs_map.specs.Map.{Owners, begins, is_given}
use Rattle.fs_path.specs.Index.{ByFile, IsOver, are_rising, is_numbered, named_at, no_of_issued, no_of_named}
use Rattle.fs_path.specs.Leases.{PathLease, goes_over}
use Rattle.fs_path.specs.Merged.{with_each}
use Rattle.fs_path.specs.Returns.{goes_back, held_after, is_needed, is_of, without_no}
use Rattle.fs_path.specs.Tables.{lease_of}
use Rattle.fs_path.specs.declared.having.Having.{Having}
use Rattle.fs_path.specs.declared.held_index.HeldIndex.{HeldIndex}

-- ## Names

-- the names at the file, where it is below the prefix and the server's
abbrev pub given_names : Owners → ℕ → List ℕ → List ℕ × List (ℕ × PathNo) → List (ℕ × PathNo)
given_names owners me prefix e = if is_given owners me prefix e.0 then e.1 else []

-- those at each of these files
abbrev pub names_there : Owners → ℕ → List ℕ → Keyed (List (ℕ × PathNo)) → List (ℕ × PathNo)
names_there owners me prefix [] = []
names_there owners me prefix (e ∷ es) = given_names owners me prefix e ++ names_there owners me prefix es

-- of files from the prefix on, in order: the first that does not begin with it ends them
abbrev pub names_from : Owners → ℕ → List ℕ → Keyed (List (ℕ × PathNo)) → List (ℕ × PathNo)
names_from owners me prefix [] = []
names_from owners me prefix (e ∷ es) =
    if begins prefix e.0 then given_names owners me prefix e ++ names_from owners me prefix es else []

-- in order of number, each once
abbrev pub names_into : Owners → ℕ → List ℕ → Keyed (List (ℕ × PathNo)) → List (ℕ × PathNo)
names_into owners me prefix es = with_each (names_there owners me prefix es) []

-- one of the names has the number
abbrev pub is_named : List (ℕ × PathNo) → PathNo → Bool
is_named names number = list_any (is_numbered no_of_named number) names

-- ## Leases that are found by their names

-- one was found, and no path that was given out needs it
abbrev pub is_free : List PathLease → Option Having → Bool
is_free issued None = false
is_free issued (Some h) = not (is_needed issued h)

-- one was found, and the path goes over its file
abbrev pub rests_on : Option Having → PathLease → Bool
rests_on None l = false
rests_on (Some h) l = goes_over (lease_of h).file l

-- the names at its file
abbrev pub names_under : ByFile → Option Having → List (ℕ × PathNo)
names_under files None = []
names_under files (Some h) = named_at files (lease_of h).file

-- these names, and those at the files of the leases of those
abbrev pub with_under : ByFile → List Having → List (ℕ × PathNo) → List (ℕ × PathNo) → List (ℕ × PathNo)
with_under files held [] names = names
with_under files held (n ∷ ns) names = with_under files held ns (with_each (names_under files (find (is_of n.1) held)) names)

-- ## Leases that go behind the others

-- those that are left, in order of number, and behind them those that go
pub record Parts : Type 0 where
  pub left : List Having
  pub gone : List Having

abbrev pub parts_at : ℕ → List Having → Parts
parts_at front held = record { left = take front held; gone = drop front held }

-- the lease of the number is leaving, or goes
abbrev pub parted : List PathLease → PathNo → Parts → Parts
parted issued number p = record {
  left = held_after (is_of number) issued p.left;
  gone = p.gone ++ filter (goes_back (is_of number) issued) p.left;
}

-- so does that of each of these names
abbrev pub parted_each : List PathLease → List (ℕ × PathNo) → Parts → Parts
parted_each issued [] p = p
parted_each issued (n ∷ ns) p = parted_each issued ns (parted issued n.1 p)

-- the leases but those of these numbers
abbrev pub without_those : List Having → List PathLease → List PathLease
without_those [] ls = ls
without_those (h ∷ hs) ls = without_those hs (without_no (lease_of h).no ls)

-- the lease, as if its path were its own file alone
abbrev pub with_own : PathLease → PathLease
with_own l = record { no = l.no; peer = l.peer; file = l.file; path = l.file ∷ [] }

-- while they are whole, each lease stands in the one index at its own file, and in the other at the files of its path
abbrev pub HasLeases : HeldIndex → List PathLease → Type 0
HasLeases index ls = IsOver index.own (map with_own ls) × IsOver index.via ls

-- their numbers rise, and these are some of them
abbrev pub AreSomeOf : List Having → List PathLease → Type 0
AreSomeOf hs ls = (are_rising no_of_issued ls ≡ true) × ((h : Having) → In h hs → In (lease_of h) ls)
