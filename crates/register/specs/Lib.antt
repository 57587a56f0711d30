-- The registers: the table, the bank, the task that it describes.
pub mod Table
pub mod Bank
pub mod Task
pub mod Size
