pub mod Headline
pub mod Generated
pub mod Commands
pub mod Pages
pub mod Status
pub mod Lines
-- cited by private calls alone
pub mod Fitting
pub mod Stopping
