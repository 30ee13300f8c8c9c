pub mod Link
pub mod LinkSteps
pub mod Door
pub mod DoorSteps
