pub mod LockedLemmas
pub mod CutsLemmas
pub mod TermsLemmas
