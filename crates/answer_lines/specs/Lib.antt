-- The lines of the answers.
pub mod Lines
