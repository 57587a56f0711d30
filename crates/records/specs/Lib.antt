-- A replay file as records, whole and read a piece at a time.
pub mod Records
pub mod Reading
-- What the editions of a replay file ask of the engine.
pub mod Editions
