-- Laws that belong to no one function.
pub mod Judging
pub mod RisingPairs
pub mod Only
