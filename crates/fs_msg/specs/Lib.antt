pub mod Journal
pub mod Spelling
pub mod Ranges
pub mod Tags
pub mod Prefixes
pub mod Answers
pub mod Reading
pub mod Readable
