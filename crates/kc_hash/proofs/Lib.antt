pub mod Bytes
pub mod Columns
pub mod Copies
pub mod Generator
pub mod Linear
pub mod RowSteps
