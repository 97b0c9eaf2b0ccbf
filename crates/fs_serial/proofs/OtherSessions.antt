-- What a step for one session owes all others.
pub mod Relied
pub mod Together
pub mod ClientChanges
pub mod Older
pub mod Rising
pub mod Retimed
pub mod Fewer
pub mod Gone
