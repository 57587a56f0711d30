-- The promise holds.
pub mod Typed
pub mod Served
