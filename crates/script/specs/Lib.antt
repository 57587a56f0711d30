-- A list of calls, given as bytes.
pub mod Script
pub mod Parsing
