pub mod Answer
pub mod Counting
pub mod Endings
pub mod Ends
pub mod Gen
pub mod Running
pub mod Runs
pub mod Status
