pub mod Posts
pub mod Ends
pub mod Performing
pub mod Acting
