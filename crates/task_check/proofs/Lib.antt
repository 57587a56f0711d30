-- Laws of the rules.
-- what a task that breaks no rule has
pub mod Sound
-- a task that breaks no rule is sound
pub mod Passes
-- what a sound task reads and writes, byte by byte
pub mod Bytes
