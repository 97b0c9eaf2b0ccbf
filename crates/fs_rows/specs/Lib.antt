pub mod Table
pub mod Answer
pub mod Live
pub mod Granted
pub mod Given
pub mod Moving
pub mod Bearing
pub mod Bounds
-- cited by private calls alone
pub mod Index
pub mod Sought
pub mod Picked
pub mod Borne
