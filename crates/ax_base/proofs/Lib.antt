pub mod EntryLemmas
pub mod TextLemmas
pub mod TextRows
