pub mod Told
pub mod Script
pub mod Walk
pub mod ViewLease
pub mod View
pub mod Gone
pub mod Laws
pub mod LedLaws
pub mod LedEffects
-- cited by private calls alone
pub mod Change
pub mod Admit
pub mod Modes
pub mod Pins
pub mod Index
