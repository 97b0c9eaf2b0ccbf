pub mod Ends
pub mod LinkEnd
pub mod OnTheWay
pub mod Packet
pub mod Peers
pub mod Post
pub mod Reading
pub mod Undo
-- cited by private calls alone
pub mod Touched
