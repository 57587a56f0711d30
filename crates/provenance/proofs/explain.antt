-- A word of a batch, and a batch that is judged.
pub mod Batch
