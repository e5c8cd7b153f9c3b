pub mod Matrix
pub mod Listing
pub mod Parts
pub mod Source
pub mod Calls
pub mod History
pub mod Shapes
