-- Which files right below a directory rows are on, as the index tells.
use Rattle.std.specs.Prelude.{◌∷◌, ◌||◌, ℕ, Bool, List, [], Option, None, if◌then◌else◌}
use Rattle.std.specs.List.{list_any, cons_option}
use Rattle.std.specs.FinMap.{entries}
use Rattle.fs_ident.specs.Maps.{map_of}
use Rattle.fs_ident.specs.Ordered.{Keyed}
use Rattle.fs_ident.specs.declared.actor.LeaseNo.{LeaseNo}
use Rattle.fs_field.specs.declared.row.Row.{Row}
use Rattle.fs_field.specs.Table.{has_no, child_number}
use Rattle.fs_map.specs.Map.{begins}
use Rattle.fs_rows.specs.declared.index.OnFile.{OnFile}

-- a row has one of these numbers
abbrev pub any_has : List LeaseNo → List Row → Bool
any_has numbers rows = list_any (λ n. list_any (has_no n) rows) numbers

-- a row has one of the numbers under the names
abbrev pub any_named : Keyed (List LeaseNo) → List Row → Bool
any_named named rows = list_any (λ e. any_has e.1 rows) named

-- a row is on a field of the file
abbrev pub is_on : OnFile → List Row → Bool
is_on o rows = any_has o.life rows || (any_has o.names rows || (any_has o.info rows || (any_has o.own rows
    || any_named (entries (map_of o.children)) rows)))

-- the last number of the file, where it stands right below the directory and a row is on it
abbrev pub number_told : List ℕ → List Row → List ℕ × OnFile → Option ℕ
number_told dir rows e = if is_on e.1 rows then child_number dir e.0 else None

-- those of these files
abbrev pub numbers_below : List ℕ → List Row → Keyed OnFile → List ℕ
numbers_below dir rows [] = []
numbers_below dir rows (e ∷ es) = cons_option (number_told dir rows e) (numbers_below dir rows es)

-- of files from the directory on, in order: the first that does not begin with it ends them
abbrev pub numbers_from : List ℕ → List Row → Keyed OnFile → List ℕ
numbers_from dir rows [] = []
numbers_from dir rows (e ∷ es) = if begins dir e.0 then cons_option (number_told dir rows e) (numbers_from dir rows es) else []
