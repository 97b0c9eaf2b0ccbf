pub mod Field
pub mod Texts
pub mod Value
pub mod After
pub mod Conflict
pub mod Table
