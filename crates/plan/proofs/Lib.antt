-- Laws of plans and of blended bytes.
pub mod Factors
pub mod Blends
