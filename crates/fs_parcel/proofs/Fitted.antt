-- Whether rows fit, by the answers of both tables.
use Rattle.std.proofs.Common.{◌≡◌, true, false, ◌&&◌, List, ap, sym, ◌∙◌}
use Rattle.fs_field.specs.declared.row.Row.{Row}
use Rattle.fs_moderows.specs.Moving.{selves_listed}
use Rattle.fs_moderows.specs.Moving as on_modes
use Rattle.fs_record.specs.declared.parcel.Parcel.{Parcel}
use Rattle.fs_rows.specs.Moving.{are_new}
use Rattle.fs_rows.specs.Moving as off_modes
use Rattle.fs_parcel.specs.Parcel.{rows_fit, selves_of_records}
use Rattle.fs_parcel.specs.Rows.{in_one_list, rows_off_modes, rows_on_modes}
use Rattle.fs_parcel.proofs.Both.{AreBoth, plain_part, modes_part}

-- the answers of both tables are that of all rows
pub by_tables : (plain modes : List Row) (p : Parcel) → AreBoth plain modes → are_new (in_one_list plain modes) p.rows ≡ true
    → (off_modes.fits plain (rows_off_modes p.rows) && on_modes.fits (selves_listed (selves_of_records p.records)) modes (rows_on_modes p.rows)) ≡ rows_fit (in_one_list plain modes) p
by_tables plain modes p t n =
    ap (λ rows. off_modes.fits rows (rows_off_modes p.rows) && on_modes.fits (selves_listed (selves_of_records p.records)) modes (rows_on_modes p.rows)) (sym (plain_part plain modes t.0 t.1.0 t.1.1.ordered))
    ∙ ap (λ rows. off_modes.fits (rows_off_modes (in_one_list plain modes)) (rows_off_modes p.rows) && on_modes.fits (selves_listed (selves_of_records p.records)) rows (rows_on_modes p.rows)) (sym (modes_part plain modes t.0 t.1.0 t.1.1.ordered))
    ∙ ap (λ b. b && (off_modes.fits (rows_off_modes (in_one_list plain modes)) (rows_off_modes p.rows) && on_modes.fits (selves_listed (selves_of_records p.records)) (rows_on_modes (in_one_list plain modes)) (rows_on_modes p.rows))) (sym n)

-- where the numbers are not new they do not fit
pub not_new : (rows : List Row) (p : Parcel) → are_new rows p.rows ≡ false → false ≡ rows_fit rows p
not_new rows p n = sym (ap (λ b. b && (off_modes.fits (rows_off_modes rows) (rows_off_modes p.rows) && on_modes.fits (selves_listed (selves_of_records p.records)) (rows_on_modes rows) (rows_on_modes p.rows))) n)
