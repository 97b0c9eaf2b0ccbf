pub mod Whole
pub mod AsSent
pub mod Several
pub mod Spending
pub mod Took
