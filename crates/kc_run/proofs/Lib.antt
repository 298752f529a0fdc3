pub mod AllowedLemmas
pub mod CrewLemmas
pub mod EntryLemmas
pub mod RoundLemmas
pub mod GatheringLemmas
pub mod FaultLemmas
