pub mod Tally
pub mod Histogram
pub mod Statistics
pub mod Sum
pub mod Laws
pub mod Searching
pub mod Packing
