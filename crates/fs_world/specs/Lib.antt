pub mod Packets
pub mod Direct
pub mod Term
pub mod Served
pub mod World
pub mod Within
pub mod Carried
pub mod Order
pub mod Coming
pub mod Safe
pub mod Refusals
pub mod Over
pub mod Parts
-- cited by private calls alone
pub mod Readable
pub mod Linked
pub mod Planned
pub mod Calls
