-- Path leases: who has the path of a file, over which files it goes.
use Rattle.std.specs.Prelude.{ℕ, Bool, ◌==◌, ◌&&◌, List, Option, None, Some, if◌then◌else◌}
use Rattle.std.specs.List.{list_any}
use Rattle.std.specs.Ordering.{nat_cmp, ordering_then, is_lt}
use Rattle.fs_ident.specs.Ident.{same}
use Rattle.fs_ident.specs.declared.actor.PathNo.{PathNo}
use Rattle.fs_map.specs.Map.{Owners, is_given}

-- a path lease: its number, the server at its other end, its file, and the files from the root down to it
pub record PathLease : Type 0 where
  pub no : PathNo
  pub peer : ℕ
  pub file : List ℕ
  pub path : List (List ℕ)

abbrev pub same_path_no : PathNo → PathNo → Bool
same_path_no a b = (a.server == b.server) && (a.count == b.count)

-- a number of one server comes before one of another, or the same: by server, then by count
abbrev pub comes_before : ℕ × ℕ → ℕ × ℕ → Bool
comes_before a b = is_lt (ordering_then (nat_cmp a.0 b.0) (nat_cmp a.1 b.1))

abbrev pub path_before : PathNo → PathNo → Bool
path_before a b = comes_before (a.server, a.count) (b.server, b.count)

-- the lease has the number
abbrev pub has_no : PathNo → PathLease → Bool
has_no number l = same_path_no l.no number

-- the path goes over the file, which may be its own
abbrev pub goes_over : List ℕ → PathLease → Bool
goes_over file l = list_any (λ f. same f file) l.path

-- it goes over a file below the prefix that is the server's
abbrev pub goes_into : Owners → ℕ → List ℕ → PathLease → Bool
goes_into owners me prefix l = list_any (λ f. is_given owners me prefix f) l.path

-- how the lease is named to the server at its other end: that server, and the number
abbrev pub named_to_peer : PathLease → ℕ × PathNo
named_to_peer l = (l.peer, l.no)

-- of two numbers, each of which may be wanting, the lesser
abbrev pub lesser_no : Option PathNo → Option PathNo → Option PathNo
lesser_no None b = b
lesser_no (Some a) None = Some a
lesser_no (Some a) (Some b) = if path_before b a then Some b else Some a
