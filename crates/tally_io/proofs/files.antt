-- Laws of files that are added one after another.
pub mod Files
pub mod Sums
