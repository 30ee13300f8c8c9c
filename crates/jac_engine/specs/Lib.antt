pub mod Start
pub mod Views
pub mod Answers
pub mod Prepared
pub mod Viewed
pub mod Visits
