pub mod ClosedLemmas
