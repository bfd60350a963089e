pub mod ReaderLemmas
pub mod QueryLemmas
pub mod FrameLemmas
pub mod HistoryLemmas
