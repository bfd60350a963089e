pub mod AttrLemmas
pub mod NodeRows
pub mod StateLemmas
