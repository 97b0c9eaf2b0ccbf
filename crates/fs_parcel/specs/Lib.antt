pub mod Rows
pub mod Parcel
-- cited by private calls alone
pub mod Merged
