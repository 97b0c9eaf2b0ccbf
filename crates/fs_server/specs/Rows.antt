-- The rows of a server, which stand in two tables.
pub use Rattle.fs_parcel.specs.Rows.{AreRows, in_one_list, is_off_modes, is_shaped, rows_off_modes, rows_on_modes}
