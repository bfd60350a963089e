pub mod AreaLemmas
pub mod BufferLemmas
pub mod CombinedLemmas
pub mod DumpLemmas
pub mod StringLemmas
pub mod WalkLemmas
