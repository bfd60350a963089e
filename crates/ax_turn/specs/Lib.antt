pub mod Ids
pub mod Makers
pub mod Rule
pub mod Seats
