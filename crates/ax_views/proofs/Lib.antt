pub mod Keeping
pub mod Climbing
pub mod Walking
pub mod Counting
pub mod Taking
pub mod Spotting
