pub mod ArgumentsLemmas
pub mod CommandLemmas
pub mod NumbersLemmas
pub mod SettingsLemmas
