pub mod HeldLaws
pub mod HoldingLaws
