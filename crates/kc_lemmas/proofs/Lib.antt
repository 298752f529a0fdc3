pub mod BucketLemmas
pub mod Distinct
pub mod Greatest
pub mod Lists
pub mod Numbers
pub mod Permutations
pub mod Sums
pub mod Walks
