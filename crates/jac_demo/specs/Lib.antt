pub mod Calendar
pub mod Requests
