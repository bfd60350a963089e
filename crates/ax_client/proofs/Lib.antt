pub mod Taking
pub mod Tying
pub mod Arranging
pub mod Changing
pub mod Knowing
mod Parts
mod Exchanging
pub mod Setting
