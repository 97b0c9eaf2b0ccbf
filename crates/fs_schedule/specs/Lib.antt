pub mod Words
pub mod Spelling
pub mod Lines
pub mod Skew
pub mod Faults
pub mod Script
pub mod Limits
pub mod Errors
pub mod Made
-- cited by private calls alone
pub mod Separated
pub mod Ahead
pub mod Operands
pub mod Reading
