pub mod Asked
pub mod Log
pub mod Answered
pub mod Seen
