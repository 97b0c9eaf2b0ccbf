-- Lists, counts and numbers of servers, for all other folders.
pub mod Journals
pub mod Counted
pub mod Counting
pub mod Times
pub mod SetAt
pub mod EachAt
pub mod ByPlace
pub mod Children
pub mod Listed
pub mod Servers
pub mod Traffic
pub mod Modes
