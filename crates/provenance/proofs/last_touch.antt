-- A batch, a step at a time.
pub mod Batch
