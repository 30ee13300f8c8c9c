pub mod Told
pub mod RightAnswers
pub mod Faithful
pub mod SamePlace
pub mod Visits
pub mod EachReply
