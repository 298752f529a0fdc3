pub mod NumbersBelow
pub mod DrawLemmas
pub mod TicketLemmas
pub mod LawLemmas
