-- What the files that are added add, and what it comes to.
pub mod Kinds
pub mod Sums
-- What was read, of which nothing can be said but that it is some bytes.
pub mod Reached
