-- Laws that belong to no one function.
pub mod Table
pub mod Only
pub mod Passes
