-- What a replay hands over, and what it leaves in memory.
pub mod Reached
-- lines gathered in one buffer
pub mod Gather
