pub mod Map
pub mod Lists
pub mod Change
-- cited by private calls alone
pub mod Part
