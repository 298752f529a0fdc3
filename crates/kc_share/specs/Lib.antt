pub mod Entries
pub mod Share
pub mod Sheet
pub mod Rule
pub mod Laws
