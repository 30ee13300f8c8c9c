pub mod SinkLaws
pub mod LinkLaws
pub mod OutsideLaws
pub mod HeldLaws
pub mod InputLaws
pub mod HandedLaws
