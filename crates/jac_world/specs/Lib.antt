pub mod CutOff
pub mod World
pub mod PairLists
