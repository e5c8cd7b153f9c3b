-- Laws that belong to no one function.
pub mod RowsTold
pub mod Logs
pub mod Only
