pub mod Gathering
pub mod Parts
pub mod JoinedStripes
pub mod Laws
pub mod TallyNumbers
