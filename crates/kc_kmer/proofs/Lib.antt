pub mod WordLemmas
pub mod TableLemmas
pub mod Packing
pub mod Letters
pub mod Turning
pub mod WordCounts
pub mod ListedLemmas
pub mod Looking
