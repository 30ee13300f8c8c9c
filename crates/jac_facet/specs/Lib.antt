pub mod Answers
pub mod Leaves
pub mod Node
pub mod NodeFalls
pub mod Shape
pub mod Tops
