-- Laws of the coverage.
pub mod Search
pub mod Zero
pub mod Covers
pub mod Worked
