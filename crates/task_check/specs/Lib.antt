-- The faults of a batch, and the rules of a task.
pub mod Faults
pub mod Rules
