pub mod Exports
pub mod Version
