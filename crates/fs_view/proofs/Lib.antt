pub mod Steps
pub mod Bases
pub mod Places
pub mod Changed
pub mod GoingBack
pub mod ModeItems
pub mod Walks
pub mod Conflicting
pub mod Replies
pub mod Led
pub mod Reading
pub mod Seeing
pub mod Unread
pub mod Unseen
pub mod LedValues
pub mod Pins
pub mod Lapsed
pub mod Counting
pub mod Order
pub mod Grants
pub mod Best
pub mod Offering
pub mod Agreeing
mod LedNeeds
mod ByField
mod Finding
mod Indexing
mod Ending
mod Found
