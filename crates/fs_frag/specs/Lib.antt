pub mod Coming
pub mod Cut
pub mod Joined
pub mod Segment
