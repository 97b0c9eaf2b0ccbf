pub mod Texts
pub mod Notes
pub mod Report
pub mod Json
pub mod NodeLines
pub mod Generated
-- cited by private calls alone
pub mod Values
