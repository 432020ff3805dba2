pub mod Tallies
pub mod Worked
pub mod TallyEvidenceLemmas
