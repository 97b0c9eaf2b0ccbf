-- The path of a file as its server knows it: upwards by parents while they are here, and from there on by a lease.
use Rattle.std.specs.Prelude.{ℕ, zero, suc, Bool, not, ◌&&◌, List, [], ◌∷◌, ◌++◌, length, Option, Some, None, is_some, if◌then◌else◌}
use Rattle.std.specs.FinMap.{get, keys}
use Rattle.std.specs.List.{find, list_any}
use Rattle.fs_ident.specs.Ident.{same}
use Rattle.fs_ident.specs.declared.actor.TxnNo.{TxnNo}
use Rattle.fs_field.specs.declared.path.PathAnswer.{PathAnswer}
use Rattle.fs_field.specs.declared.path.PathAnswer.TheVariants as answer
use Rattle.fs_model.specs.Sound.{parent_of}
use Rattle.fs_record.specs.Records.{RecordMap, node_of}
use Rattle.fs_path.specs.Tables.{PathTables, frozen_for, lease_of, serves}
use Rattle.fs_path.specs.declared.having.Having.{Having}
use Rattle.fs_path.specs.declared.rise.Rise.{Rise}
use Rattle.fs_path.specs.declared.rise.Rise.TheVariants.{Frozen, Ends, Topmost, On}

abbrev pub is_among : List ℕ → List (List ℕ) → Bool
is_among file files = list_any (λ f. same f file) files

-- the walk goes on to a directory that is here and was not met
abbrev pub rise_to : RecordMap → List (List ℕ) → Option (List ℕ × List ℕ) → Rise
rise_to m met None = Ends
rise_to m met (Some place) = if is_some (get m place.0) && not (is_among place.0 met) then On place.0 else Topmost place.0

abbrev pub rise_from : RecordMap → List (List ℕ) → List ℕ → Option TxnNo → Rise
rise_from m met file (Some txn) = Frozen txn
rise_from m met file None = rise_to m met (parent_of (node_of (get m file)))

-- what the walk finds at the last file that it met
abbrev pub rise : PathTables → RecordMap → List ℕ → List (List ℕ) → Rise
rise t m file below = rise_from m (file ∷ below) file (frozen_for file t.frozen)

-- from the topmost file here on the path is that of a lease which may be used; else it is to be asked for
abbrev pub at_top : Option Having → List ℕ → List ℕ → List (List ℕ) → PathAnswer
at_top None file parent below = answer.Wanted file parent
at_top (Some h) file parent below = answer.Path ((lease_of h).path ++ below)

-- the first lease that may be used for the file
abbrev pub used_for : List ℕ → List Having → Option Having
used_for file held = find (serves file) held

-- the answer at a file, above those that the walk met below it
abbrev pub answer_at : PathTables → List ℕ → List (List ℕ) → (List ℕ → PathAnswer) → Rise → PathAnswer
answer_at t file below above (Frozen txn) = answer.Frozen file txn
answer_at t file below above Ends = answer.Path (file ∷ below)
answer_at t file below above (Topmost parent) = at_top (used_for file t.held) file parent below
answer_at t file below above (On parent) = above parent

-- the same over so many files at most
abbrev pub path_from : ℕ → PathTables → RecordMap → List ℕ → List (List ℕ) → PathAnswer
path_from zero t m file below =
    answer_at t file below (λ parent. at_top (used_for file t.held) file parent below) (rise t m file below)
path_from (suc n) t m file below = answer_at t file below (λ parent. path_from n t m parent (file ∷ below)) (rise t m file below)

-- no file is met twice, so there are no more files on the way than records
abbrev pub path_of : PathTables → RecordMap → List ℕ → PathAnswer
path_of t m file = path_from (length (keys m)) t m file []
