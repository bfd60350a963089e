pub mod Attrs
pub mod Kinds
pub mod Look
pub mod States
