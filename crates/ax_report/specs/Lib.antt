pub mod Buffers
pub mod Combining
pub mod Strings
pub mod Walks
