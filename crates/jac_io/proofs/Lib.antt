pub mod Steps
pub mod PieceLaws
