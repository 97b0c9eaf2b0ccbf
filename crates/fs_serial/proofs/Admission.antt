-- An entry is admitted or refused.
pub mod Rowed
pub mod Answered
pub mod Births
pub mod Admit
pub mod AdmitOthers
pub mod AdmitPromises
pub mod AdmitFresh
pub mod AdmitAll
pub mod ShipLoop
pub mod Admitted
pub mod Refusing
pub mod Ended
pub mod PendingRuns
