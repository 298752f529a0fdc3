pub mod Letter
pub mod Word
pub mod Rule
pub mod Occurrences
pub mod Laws
