-- A lease or an identifier is given.
pub mod Leased
pub mod Granting
pub mod OneLease
pub mod GrantItem
pub mod RowKinds
pub mod Relocked
pub mod Promises
pub mod Asks
pub mod AskLoop
pub mod AskFits
pub mod Gift
pub mod GiftReserved
pub mod GiftedRecords
pub mod Claims
