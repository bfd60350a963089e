pub mod Results
pub mod Namings
pub mod Lists
pub mod Watching
pub mod Indexes
pub mod Forests
pub mod Shown
