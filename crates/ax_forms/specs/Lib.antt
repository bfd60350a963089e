pub mod Edits
pub mod Looks
pub mod Places
pub mod Queries
pub mod TreeNews
pub mod Updates
