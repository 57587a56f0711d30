-- Laws of a tint.
pub mod Cases
pub mod ReadsBack
pub mod Worked
