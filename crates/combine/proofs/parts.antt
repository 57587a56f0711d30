-- one lane by its factors
pub mod Lanes
