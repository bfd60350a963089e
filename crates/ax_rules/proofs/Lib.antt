pub mod Appends
pub mod Tokens
pub mod StitchedTreeLemmas
pub mod Going
pub mod Building
pub mod PlaceLemmas
