pub mod BlockLemmas
pub mod CallsLemmas
pub mod KnownBytesLemmas
pub mod SinksLemmas
pub mod Walks
