-- A client answers an operation.
pub mod Answering
pub mod Knowing
pub mod Naming
pub mod Reply
pub mod ReplyNext
pub mod ReplyPins
pub mod ReplyAll
pub mod ReplySession
pub mod Read
pub mod MoveReads
pub mod PlainAsks
pub mod HomeAsks
