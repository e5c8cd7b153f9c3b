-- Laws that belong to no one function.
pub mod Deciding
pub mod Shaping
pub mod Symbols
pub mod Counting
pub mod Agreement
pub mod Repeating
pub mod Filling
pub mod Patterns
pub mod Marking
pub mod Spreading
pub mod Verdicts
pub mod Covered
pub mod Accepted
pub mod Picking
pub mod Only
