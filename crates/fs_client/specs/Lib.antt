pub mod Client
pub mod Led
pub mod Acts
pub mod Turns
pub mod Answers
pub mod Home
pub mod Laws
-- cited by private calls alone
pub mod Live
pub mod Admitted
