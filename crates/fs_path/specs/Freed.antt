-- Leaving leases that go since nothing needs them any more, by their files.
use Rattle.std.specs.Prelude.{ℕ, Bool, false, not, ◌&&◌, List, map, Option, Some, None}
use Rattle.std.specs.List.{filter, find}
use Rattle.fs_ident.specs.Ident.{same}
use Rattle.fs_ident.specs.declared.actor.PathNo.{PathNo}
use Rattle.fs_path.specs.Leases.{PathLease, named_to_peer}
use Rattle.fs_path.specs.Returns.{goes_back, is_of}
use Rattle.fs_path.specs.Tables.{is_leaving, lease_of}
use Rattle.fs_path.specs.Walk.{is_among}
use Rattle.fs_path.specs.declared.having.Having.{Having}

-- ## Of a number, of a file

abbrev pub if_leaving : Option Having → Bool
if_leaving None = false
if_leaving (Some h) = is_leaving h

-- the lease of the number leaves
abbrev pub leaves : PathNo → List Having → Bool
leaves number held = if_leaving (find (is_of number) held)

-- the lease is the file's, and leaves
abbrev pub leaves_at : List ℕ → Having → Bool
leaves_at file h = same (lease_of h).file file && is_leaving h

-- ## Those of some files

-- it leaves, no path needs it, and its file is among these
abbrev pub is_freed : List PathLease → List (List ℕ) → Having → Bool
is_freed issued files h = goes_back is_leaving issued h && is_among (lease_of h).file files

abbrev pub without_freed : List PathLease → List (List ℕ) → List Having → List Having
without_freed issued files held = filter (λ h. not (is_freed issued files h)) held

-- as their servers are told
abbrev pub freed_names : List PathLease → List (List ℕ) → List Having → List (ℕ × PathNo)
freed_names issued files held = map (λ h. named_to_peer (lease_of h)) (filter (is_freed issued files) held)
