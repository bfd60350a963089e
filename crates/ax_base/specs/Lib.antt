pub mod Area
pub mod Entries
pub mod SharedText
pub mod TextBounds
