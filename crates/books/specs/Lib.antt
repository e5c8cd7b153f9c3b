pub mod Book
pub mod Table
pub mod Told
pub mod Calls
pub mod Steps
pub mod Uses
