-- The lines that are printed of a replay file, and what is answered of each record.
pub mod Lines
pub mod Answered
-- A line printed into a buffer that is lent.
pub mod Prints
-- What comes of a record that is submitted.
pub mod Submitted
