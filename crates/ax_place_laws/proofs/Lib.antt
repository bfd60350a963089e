pub mod Each
pub mod Joined
pub mod Once
pub mod Starts
pub mod Parted
pub mod Before
pub mod Tests
pub mod Leaves
pub mod Segments
pub mod Forms
pub mod Pieces
pub mod Bounds
mod Example
