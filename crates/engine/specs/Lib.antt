-- Run, and what it answers; memory after close.
pub mod Run
pub mod Close
pub mod Outcome
-- What the calls answer, as words.
pub mod Answers
