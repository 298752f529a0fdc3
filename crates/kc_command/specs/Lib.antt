pub mod Arguments
pub mod Command
pub mod Laws
pub mod Numbers
pub mod Options
pub mod Settings
