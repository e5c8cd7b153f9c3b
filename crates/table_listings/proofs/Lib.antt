-- Laws that belong to no one function.
pub mod Listed
pub mod Strides
pub mod Only
