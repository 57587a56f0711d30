-- The engine's calls on a record that is lent as bytes.
pub mod Calls
pub mod RefusedNoChange
-- Calls on bytes, one after the other.
pub mod Served
