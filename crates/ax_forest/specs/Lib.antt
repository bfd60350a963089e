pub mod ById
pub mod Shown
pub mod Past
pub mod Tallied
pub mod Judging
pub mod Fates
pub mod Entries
