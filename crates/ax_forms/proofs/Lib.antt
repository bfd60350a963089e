pub mod Attrs
pub mod Under
pub mod Leaves
