pub mod Asked
pub mod Runs
pub mod Done
pub mod Launched
pub mod Words
