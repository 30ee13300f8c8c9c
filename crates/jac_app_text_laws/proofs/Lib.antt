pub mod OneSpelled
pub mod EightOpens
pub mod Known
