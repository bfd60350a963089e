pub mod Naming
pub mod Watching
pub mod Indexes
pub mod Contests
pub mod Telling
pub mod Hanging
pub mod Managed
pub mod Shown
