pub mod DispatcherSteps
pub mod LinkPuts
pub mod LostReplies
pub mod LinkEvents
pub mod LinkClosing
pub mod LinkProgress
pub mod LinkEnds
pub mod DoorProgress
