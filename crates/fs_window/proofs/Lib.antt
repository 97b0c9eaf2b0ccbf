pub mod Actors
mod AsBefore
mod Between
pub mod ByActor
pub mod Carried
mod Changes
pub mod Lists
pub mod Narrow
pub mod OneStep
pub mod PacketSteps
pub mod PeerOrder
pub mod Places
pub mod ReadBack
pub mod Schedule
mod Settled
pub mod Slots
pub mod Undone
