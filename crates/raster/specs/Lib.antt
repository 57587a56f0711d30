-- Tasks and batches drawn.
pub mod Task
pub mod Batch
pub mod WriteFrame
pub mod Preconditions
-- Two drawings as one.
pub mod Twice
-- A row drawn.
pub mod Row
-- A step that draws the rows of a task.
pub mod Rows
