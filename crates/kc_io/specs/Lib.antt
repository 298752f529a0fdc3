pub mod Answers
pub mod History
pub mod Sinks
pub mod Sources
