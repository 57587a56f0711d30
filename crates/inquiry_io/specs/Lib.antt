-- What was read, of which nothing can be said but that it is some bytes.
pub mod Reached
-- a file under way
pub mod Reading
