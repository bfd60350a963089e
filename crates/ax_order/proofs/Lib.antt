pub mod Marking
pub mod Filters
pub mod Walks
pub mod Nodes
pub mod Agreeing
