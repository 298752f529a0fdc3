pub mod Locked
pub mod Stripes
pub mod Seen
pub mod Terms
