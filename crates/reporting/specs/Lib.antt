pub mod Lines
pub mod Asked
pub mod Report
pub mod Machine
pub mod Calls
