-- Laws of blended rows.
pub mod Fours
