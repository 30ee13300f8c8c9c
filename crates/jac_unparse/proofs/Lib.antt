pub mod Again
pub mod AgainStatements
pub mod AgainApplications
