-- Rows of a task by way of buffers.
pub mod Row
