pub mod Source
pub mod Kept
pub mod Marking
pub mod Parts
pub mod Changes
