pub mod Tables
pub mod Witnesses
pub mod Free
pub mod Promises
pub mod Reaps
pub mod Safe
pub mod Changes
pub mod Moves
pub mod FoundOnce
mod Apart
mod InOrder
mod Tied
mod Through
mod Bounded
