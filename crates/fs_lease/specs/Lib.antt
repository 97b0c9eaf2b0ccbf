pub mod Lease
pub mod Steps
