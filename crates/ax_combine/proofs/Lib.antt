mod Positions
mod Numbered
mod Kids
mod Whole
mod Rows
mod Runs
mod Walks
mod Filtered
mod AttributeLemmas
mod Maps
mod Made
pub mod Printed
