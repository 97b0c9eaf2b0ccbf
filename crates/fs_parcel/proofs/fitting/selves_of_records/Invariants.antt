use Rattle.std.proofs.Common.{◌≡◌, ◌++◌, drop}
use Rattle.fs_parcel.specs.Parcel.{selves_of_records}
use Rattle.fs_parcel.proofs.fitting.selves_of_records.Given as goal

abbrev pub invariant-loop-id : goal.invariant-loop-id
invariant-loop-id l = l.told ++ selves_of_records (drop l.id-index l.records) ≡ selves_of_records l.records
