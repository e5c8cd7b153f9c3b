pub mod Outcome
pub mod Told
pub mod Units
