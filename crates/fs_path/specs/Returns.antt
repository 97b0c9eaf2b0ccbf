-- Leases that are asked back and go back: those from others go as soon as no path that was given out rests on them.
use Rattle.std.specs.Prelude.{◌≡◌, ℕ, Bool, false, not, ◌&&◌, ◌||◌, List, [], ◌∷◌, map, Option, Some, None, option_map, if◌then◌else◌}
use Rattle.std.specs.List.{filter, find, list_any}
use Rattle.fs_field.specs.Table.{same_txn}
use Rattle.fs_ident.specs.declared.actor.PathNo.{PathNo}
use Rattle.fs_ident.specs.declared.actor.TxnNo.{TxnNo}
use Rattle.fs_map.specs.Map.{Owners}
use Rattle.fs_path.specs.Leases.{PathLease, goes_into, goes_over, has_no, named_to_peer}
use Rattle.fs_path.specs.Tables.{PathTables, is_leaving, lease_of, leaving}
use Rattle.fs_path.specs.declared.having.Having.{Having}
use Rattle.fs_path.specs.declared.recalled.Recalled.{Recalled}
use Rattle.fs_path.specs.declared.recalled.Recalled.TheVariants.{Release, Down, Unheld}
use Rattle.fs_path.specs.declared.recalled.GiveBack.{GiveBack}

-- a path that was given out goes over the lease's file
abbrev pub is_needed : List PathLease → Having → Bool
is_needed issued h = list_any (goes_over (lease_of h).file) issued

-- the lease, which is leaving if it is asked back
abbrev pub asked_back : (Having → Bool) → Having → Having
asked_back asked h = if asked h then leaving h else h

-- it is asked back, and no path that was given out needs it
abbrev pub goes_back : (Having → Bool) → List PathLease → Having → Bool
goes_back asked issued h = asked h && not (is_needed issued h)

-- each one that is leaving is needed: so it is between two calls
abbrev pub AreNeeded : List PathLease → List Having → Type 0
AreNeeded issued held = list_any (goes_back is_leaving issued) held ≡ false

-- the leases that go back, as their servers are told
abbrev pub releases : (Having → Bool) → List PathLease → List Having → List (ℕ × PathNo)
releases asked issued held = map (λ h. named_to_peer (lease_of h)) (filter (goes_back asked issued) held)

-- the leases that are left
abbrev pub held_after : (Having → Bool) → List PathLease → List Having → List Having
held_after asked issued held = map (asked_back asked) (filter (λ h. not (goes_back asked issued h)) held)

-- the path goes over the file of a lease that is asked back
abbrev pub rests_on_asked : (Having → Bool) → List Having → PathLease → Bool
rests_on_asked asked held l = list_any (λ h. asked h && goes_over (lease_of h).file l) held

-- those given out that pass the test, as those who have them are told
abbrev pub recalls : (PathLease → Bool) → List PathLease → List (ℕ × PathNo)
recalls test issued = map named_to_peer (filter test issued)

-- ## A lease is asked back by its number

abbrev pub is_of : PathNo → Having → Bool
is_of number h = has_no number (lease_of h)

-- the server from which the lease of the number is had
abbrev pub held_from : PathNo → List Having → Option ℕ
held_from number held = option_map (λ h. (lease_of h).peer) (find (is_of number) held)

-- those who have paths that rest on it are told first; where there are none, its own server is
abbrev pub first_down : ℕ → List (ℕ × PathNo) → Recalled
first_down to [] = Release to
first_down to (x ∷ xs) = Down (x ∷ xs)

-- nothing is told of a lease that is not had
abbrev pub recalled_as : Option ℕ → List (ℕ × PathNo) → Recalled
recalled_as None down = Unheld
recalled_as (Some to) down = first_down to down

abbrev pub recalled : PathNo → PathTables → Recalled
recalled number t = recalled_as (held_from number t.held) (recalls (rests_on_asked (is_of number) t.held) t.issued)

abbrev pub after_recalled : PathNo → PathTables → PathTables
after_recalled number t = record t { held = held_after (is_of number) t.issued t.held }

-- ## One that was given out is back

abbrev pub without_no : PathNo → List PathLease → List PathLease
without_no number issued = filter (λ l. not (has_no number l)) issued

abbrev pub after_released : PathNo → PathTables → PathTables
after_released number t = record t {
  issued = without_no number t.issued;
  held = held_after is_leaving (without_no number t.issued) t.held;
}

-- ## All over a part of the files are asked back

abbrev pub is_into : Owners → ℕ → List ℕ → Having → Bool
is_into owners me prefix h = goes_into owners me prefix (lease_of h)

-- it goes over such a file, or over the file of one from another server that does
abbrev pub is_asked_in : Owners → ℕ → List ℕ → List Having → PathLease → Bool
is_asked_in owners me prefix held l = goes_into owners me prefix l || rests_on_asked (is_into owners me prefix) held l

abbrev pub give_back : Owners → ℕ → List ℕ → PathTables → GiveBack
give_back owners me prefix t = record {
  recalls = recalls (is_asked_in owners me prefix t.held) t.issued;
  releases = releases (is_into owners me prefix) t.issued t.held;
}

abbrev pub after_give_back : Owners → ℕ → List ℕ → PathTables → PathTables
after_give_back owners me prefix t = record t { held = held_after (is_into owners me prefix) t.issued t.held }

-- ## A transaction is over

-- it keeps no file any more
abbrev pub without_txn : TxnNo → List (List ℕ × TxnNo) → List (List ℕ × TxnNo)
without_txn txn frozen = filter (λ x. not (same_txn x.1 txn)) frozen
