pub mod Actors
pub mod Askable
pub mod Bound
pub mod Endings
