pub mod Records
pub mod ValueOf
pub mod Applied
pub mod Effects
pub mod LedEffects
pub mod Opens
pub mod Fresh
pub mod Changes
pub mod Moving
-- cited by private calls alone
pub mod Undo
pub mod Walk
pub mod Marks
