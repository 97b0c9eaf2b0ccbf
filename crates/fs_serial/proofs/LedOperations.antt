-- An operation that a server leads commits.
pub mod MovedItems
pub mod RemovedItems
pub mod MoveScripts
pub mod LeadSession
pub mod LedKept
pub mod Committed
pub mod Cycles
pub mod Committing
pub mod LedSteps
pub mod LeadSame
pub mod NoReplies
pub mod HearsLed
pub mod LedCycles
