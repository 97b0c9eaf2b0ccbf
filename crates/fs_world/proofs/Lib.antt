pub mod Creates
mod AllDowns
mod Popped
pub mod Marks
pub mod SessionMaps
pub mod Spending
pub mod SentNumbers
mod PoppedFirst
mod AtSession
mod AtServer
mod AtHearing
mod GoesAlone
pub mod OpenHandles
pub mod NamedMaps
pub mod NamedClients
pub mod NamedLeading
pub mod NamedSends
pub mod NamedPaths
pub mod NamedTransactions
pub mod NamedServers
pub mod LinkedLists
pub mod Heard
pub mod HeardEach
pub mod HeardCalls
pub mod LinkedPair
pub mod LinkedChange
pub mod LinkedStates
pub mod LinkedServed
pub mod LinkedFirst
pub mod LinkedSession
pub mod LinkedCore
pub mod Linked
pub mod Carrying
pub mod InRange
pub mod Within
pub mod Arrivals
pub mod NothingUnsent
pub mod Serial
pub mod Numbered
pub mod Replies
pub mod DirectKept
pub mod Bounded
pub mod Fine
pub mod SeenRows
pub mod SerialLaws
pub mod Seen
pub mod SeenSends
pub mod Coming
pub mod RepliesGiven
pub mod ServerTelling
pub mod ClientTelling
pub mod ServedHolds
pub mod ServerHolds
pub mod SessionSteps
pub mod ServedSteps
pub mod ServedEach
pub mod ServerEach
pub mod ServerNext
pub mod ServerBrings
pub mod MessagesRead
pub mod FirstServed
pub mod ServedDone
pub mod GoesOn
pub mod AnyReadings
pub mod Runs
pub mod Whole
pub mod LedEach
pub mod OwnSessions
mod EndedStill
mod EndedOnward
pub mod Right
pub mod RightSteps
pub mod RightRuns
pub mod HeldLaws
pub mod StayingServers
pub mod Fitting
pub mod Said
pub mod HeardSays
pub mod Causes
pub mod CausedRuns
