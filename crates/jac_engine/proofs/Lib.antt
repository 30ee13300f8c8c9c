pub mod ServedLaws
pub mod SiteLaws
pub mod ViewLaws
pub mod AnswerLaws
pub mod PreparedLaws
