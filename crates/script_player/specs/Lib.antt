-- A list of calls, given as bytes, and what playing it answers and leaves.
pub mod Answers
pub mod Played
pub mod CallsMatch
