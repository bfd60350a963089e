pub mod Merge
pub mod FiniteMap
pub mod TreeLaws
pub mod Laws
pub mod MarkLaws
pub mod PacketLaws
