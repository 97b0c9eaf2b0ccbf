-- Which of several servers has what.
pub mod OnePlaces
pub mod HeldRows
pub mod HeldRecords
pub mod AtHome
pub mod AllHere
pub mod OtherPlaces
pub mod ClusterPlaces
pub mod PutRows
pub mod PutRecords
pub mod Joining
pub mod Unseen
pub mod Elsewhere
pub mod RelockedRows
pub mod AppliedRecords
