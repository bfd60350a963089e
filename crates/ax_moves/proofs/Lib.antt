pub mod ListLemmas
pub mod AboveLemmas
pub mod BelowLemmas
