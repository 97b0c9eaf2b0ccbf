-- What goes from one server to another, when it may go, and when it fits where it comes.
use Rattle.std.specs.Prelude.{ℕ, Bool, ◌&&◌, ◌==◌, not, List, [], map, Option, Some, None, is_some, if◌then◌else◌}
use Rattle.std.specs.List.{list_all}
use Rattle.std.specs.FinMap.{get}
use Rattle.fs_ident.specs.Ident.{same}
use Rattle.fs_ident.specs.Ordered.{Keyed, are_keys_in_order}
use Rattle.fs_ident.specs.declared.actor.PathNo.{PathNo}
use Rattle.fs_ident.specs.declared.actor.Session.{Session}
use Rattle.fs_ident.specs.declared.actor.TxnNo.{TxnNo}
use Rattle.fs_field.specs.declared.row.Row.{Row}
use Rattle.fs_map.specs.Lists.{is_piece, owns_given, piece_of}
use Rattle.fs_map.specs.Map.{Owners, gives, longest, server_of}
use Rattle.fs_model.specs.Handles.{handles_are_in_order}
use Rattle.fs_model.specs.Step.{is_empty}
use Rattle.fs_modes.specs.declared.modes.Modes.{Modes}
use Rattle.fs_moderows.specs.Moving.{selves_listed}
use Rattle.fs_moderows.specs.Moving as on_modes
use Rattle.fs_record.specs.Moving.{are_distinct, records_given}
use Rattle.fs_record.specs.Records.{RecordMap}
use Rattle.fs_record.specs.ValueOf.{selves_of}
use Rattle.fs_record.specs.declared.parcel.Parcel.{Parcel}
use Rattle.fs_record.specs.declared.record.Record.{Record}
use Rattle.fs_rows.specs.Moving.{are_new, is_on_given, locked_in, rows_given}
use Rattle.fs_rows.specs.Moving as off_modes
use Rattle.fs_parcel.specs.Rows.{rows_off_modes, rows_on_modes}
use Rattle.fs_parcel.specs.declared.error.MoveError.{MoveError}
use Rattle.fs_parcel.specs.declared.error.MoveError.TheVariants as move

-- ## What goes

-- all that the server has below the prefix
abbrev pub parcel_of : RecordMap → List Row → Owners → ℕ → List ℕ → Parcel
parcel_of records rows map me prefix = record {
  prefix = prefix;
  piece = record { prefix = prefix; given = piece_of map me prefix };
  records = records_given prefix (piece_of map me prefix) records;
  rows = rows_given prefix (piece_of map me prefix) rows;
}

-- ## When it may go

-- another server manages the prefix
abbrev pub not_mine : Option (List ℕ × ℕ) → MoveError
not_mine None = move.NotMine [] 0
not_mine (Some e) = move.NotMine e.0 e.1

-- a path lease goes through it
abbrev pub paths_out : Option PathNo → Option MoveError
paths_out None = None
paths_out (Some number) = Some (move.Paths number)

-- a transaction keeps a row of it
abbrev pub busy_or : Option TxnNo → Option MoveError → Option MoveError
busy_or (Some txn) later = Some (move.Busy txn)
busy_or None later = later

-- why what the server has below the prefix does not go to that other, the first of these
abbrev pub move_refusal : RecordMap → List Row → Owners → ℕ → List ℕ → ℕ → Option PathNo → Option MoveError
move_refusal records rows map me prefix to through =
    if not (server_of map prefix == me) then Some (not_mine (longest map prefix)) else
    (if not (is_some (get records prefix)) then Some move.NoFile else
    (if to == me then Some move.Same else
    busy_or (locked_in prefix map me rows) (paths_out through)))

-- ## When it fits

abbrev pub selves_of_records : Keyed Record → List (List ℕ × List (Session × Modes))
selves_of_records records = map (λ e. (e.0, selves_of e.1.node.handles)) records

-- the record's children and handles are strictly sorted
abbrev pub is_in_order : Record → Bool
is_in_order r = are_keys_in_order r.node.children && handles_are_in_order r.node.handles

-- all that it says is of identifiers that it gives
abbrev pub is_of_given : Parcel → Bool
is_of_given p = list_all (λ e. gives p.prefix p.piece.given e.0) p.records && list_all (is_on_given p.prefix p.piece.given) p.rows

-- its piece is one of its prefix, its records are records in order, and no two are of one file
abbrev pub is_formed : Parcel → Bool
is_formed p = (same p.piece.prefix p.prefix && is_piece p.prefix p.piece.given)
    && (are_distinct p.records && list_all (λ e. is_in_order e.1) p.records)

-- nothing that it gives is here
abbrev pub is_elsewhere : RecordMap → Owners → ℕ → Parcel → Bool
is_elsewhere records map me p = not (owns_given map me p.prefix p.piece.given) && is_empty (records_given p.prefix p.piece.given records)

-- its rows have new numbers, and conflict neither with one another nor with a row here
abbrev pub rows_fit : List Row → Parcel → Bool
rows_fit rows p =
    are_new rows p.rows
    && (off_modes.fits (rows_off_modes rows) (rows_off_modes p.rows)
    && on_modes.fits (selves_listed (selves_of_records p.records)) (rows_on_modes rows) (rows_on_modes p.rows))

-- an honest server sends it
abbrev pub fits : RecordMap → List Row → Owners → ℕ → Parcel → Bool
fits records rows map me p = (is_formed p && is_of_given p) && (is_elsewhere records map me p && rows_fit rows p)
