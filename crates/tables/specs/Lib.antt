pub mod Slots
pub mod Changes
pub mod Listings
pub mod Shapes
pub mod Calls
pub mod Runs
