pub mod Parts
mod Ends
pub mod OneByOne
pub mod Answered
mod Own
mod Kept
mod Lending
mod Asking
mod Giving
mod Paired
mod Shipping
mod Moving
mod Losing
pub mod InOrder
pub mod Making
mod Effects
pub mod Leading
pub mod Following
mod Owned
mod Concluding
mod Counting
mod Goes
mod Returning
mod Gathering
mod Keeping
mod Freezing
mod LeaderLaws
pub mod Splitting
mod LeadingHere
pub mod OnPaths
mod Beginning
mod PathAsking
mod PathLaws
mod LeadersAsk
