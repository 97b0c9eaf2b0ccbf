pub mod Namespace
pub mod Children
pub mod Handles
pub mod Ancestors
pub mod Ways
pub mod Step
pub mod Sound
pub mod Asking
