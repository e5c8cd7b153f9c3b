-- Laws of the streams.
pub mod Rising
pub mod Granted
pub mod Stream
pub mod Packing
pub mod Zeros
pub mod Looking
pub mod Stepping
pub mod Trip
pub mod Two
pub mod Lawful
pub mod Windows
pub mod Agree
pub mod Bounded
pub mod Demand
