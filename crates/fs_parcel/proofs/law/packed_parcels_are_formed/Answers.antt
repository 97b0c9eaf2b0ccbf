use Rattle.fs_parcel.proofs.Parting.{parcel_formed, parcel_of_given}
use Rattle.fs_parcel.proofs.law.packed_parcels_are_formed.Goals as goal

pub returns : goal.returns
returns c = λ records rows map me prefix m mine s. (parcel_formed records map me prefix rows mine s, parcel_of_given records map me prefix rows)
