pub mod Fitting
pub mod Holding
pub mod NoteLists
pub mod Packing
pub mod Rounds
