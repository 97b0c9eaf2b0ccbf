pub mod Kept
pub mod Knowing
pub mod Granting
pub mod Bearing
pub mod Numbers
pub mod LiveSteps
pub mod Comes
pub mod Goes
pub mod InOrder
pub mod ByField
pub mod Tied
pub mod Seeking
pub mod Reading
mod ByNumber
mod Placing
mod Children
mod Picking
mod InOrderOf
mod Below
