-- The answers, a record at a time and whatever the pieces of the file.
pub mod Answering
