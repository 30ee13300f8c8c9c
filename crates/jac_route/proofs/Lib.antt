pub mod AsciiLaws
pub mod FirstLaws
pub mod FoundLaws
pub mod PairLaws
pub mod RowLaws
pub mod TableLaws
pub mod ViewLaws
