pub mod Trees
pub mod Nodes
pub mod Changes
pub mod Lists
pub mod Spots
pub mod Shape
pub mod Code
