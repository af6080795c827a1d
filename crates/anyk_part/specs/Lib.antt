pub mod CandidateParts
pub mod Candidates
pub mod Chains
pub mod Places
pub mod Regions
pub mod RemainingSolutions
pub mod Walks
