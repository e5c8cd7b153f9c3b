pub mod Stream
pub mod Codes
pub mod Written
pub mod Looks
pub mod Read
pub mod Calls
