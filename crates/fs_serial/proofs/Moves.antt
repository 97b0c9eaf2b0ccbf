-- Files go from one server to another.
pub mod Parcels
pub mod Parted
pub mod GoingParts
pub mod Leaving
pub mod ComingParts
pub mod Arriving
pub mod ParcelFits
pub mod KeptPaths
pub mod PathsBetween
pub mod PathPeers
pub mod PathSteps
pub mod QuietSteps
pub mod Replaced
pub mod Unlocked
