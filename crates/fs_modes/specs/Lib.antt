pub mod Modes
pub mod Letters
