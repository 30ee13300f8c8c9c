pub mod SameSubjects
pub mod SameAnswers
pub mod SideBySide
pub mod OpenLabels
