pub mod Places
pub mod Nodes
pub mod OnShown
pub mod Marked
pub mod Moving
