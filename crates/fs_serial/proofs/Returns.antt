-- Leases are renewed, given back and lapse, and handles are reaped.
pub mod PairLoops
pub mod KeptPairs
pub mod Releases
pub mod LaterSteps
pub mod HandlesWithoutRows
pub mod Reaping
pub mod ServerTurn
pub mod Lapse
pub mod Lapsing
