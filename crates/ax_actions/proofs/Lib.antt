pub mod Moves
mod PerformingLemmas
mod SharingLemmas
mod ActingLemmas
