-- Messages come to a client, and a client sends.
pub mod Settling
pub mod Has
pub mod Reordered
pub mod Carried
pub mod SessionStates
pub mod Heard
pub mod HearsGranted
pub mod HearsRenewed
pub mod HearsReturned
pub mod HearsShipped
pub mod HearMoves
pub mod ActMoves
pub mod TurnMoves
pub mod Sends
pub mod Sending
pub mod Due
