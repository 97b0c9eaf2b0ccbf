mod Steps
mod Rising
mod InOrder
mod ByFile
mod Over
mod Placing
mod Frozen
mod Own
mod Least
pub mod LeaseLaws
pub mod Meeting
mod Walking
mod Merges
mod PrefixWalks
mod GoingBehind
mod Needing
mod Freed
