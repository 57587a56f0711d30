-- What a batch says, whole and a task at a time.
pub mod Batch
pub mod Marks
pub mod Walk
