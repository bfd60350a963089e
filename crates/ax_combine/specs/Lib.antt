pub mod Numbering
pub mod Runs
pub mod Joining
pub mod Kept
