pub mod Growing
pub mod Journals
pub mod Cuts
pub mod Histories
pub mod LaneMoves
pub mod Shown
