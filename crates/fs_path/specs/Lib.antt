pub mod Leases
pub mod Tables
pub mod Returns
pub mod Walk
pub mod Numbers
pub mod Laws
-- cited by private calls alone
pub mod Asked
pub mod ByFile
pub mod Index
pub mod Kept
pub mod Into
pub mod Merged
pub mod Freed
