pub mod Numbers
pub mod Told
pub mod Calls
