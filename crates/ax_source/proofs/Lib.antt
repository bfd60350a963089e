pub mod Lists
pub mod MarkLists
pub mod Kept
pub mod Linked
pub mod Allowed
pub mod Edited
pub mod Ready
