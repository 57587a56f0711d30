-- Rows of a task that lays one colour over its output.
pub mod Row
-- One colour over a row of ARGB8888 pixels.
pub mod Over
-- A colour, prepared.
pub mod Solid
