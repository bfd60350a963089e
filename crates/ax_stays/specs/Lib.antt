pub mod Makers
pub mod Stays
pub mod FrameCalls
pub mod Received
pub mod LaneEnds
pub mod Looks
