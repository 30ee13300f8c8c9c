pub mod AskedLemmas
pub mod DoneLemmas
pub mod ExitReasonLemmas
pub mod LaterLemmas
pub mod StartupLemmas
