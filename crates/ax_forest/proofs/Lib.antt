pub mod ByIds
pub mod Showing
pub mod Verdicts
pub mod Pasts
pub mod Receipts
pub mod Sources
pub mod Results
