pub mod Table
pub mod Answer
pub mod Kept
pub mod Moving
-- cited by private calls alone
pub mod Fixed
pub mod Index
pub mod Sought
