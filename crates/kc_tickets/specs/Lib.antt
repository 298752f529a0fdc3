pub mod Tickets
pub mod WholeDraws
pub mod Laws
