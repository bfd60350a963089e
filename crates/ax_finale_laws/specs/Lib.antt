pub mod Laws
pub mod Resumed
pub mod Gaps
pub mod CatchingUp
