-- The calls that don't draw: set up, open, submit and pending.
pub mod Answers
pub mod Refusals
pub mod Calls
