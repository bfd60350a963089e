pub mod HoleLemmas
pub mod TogetherLemmas
