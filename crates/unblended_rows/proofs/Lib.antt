-- a task whose output rows are rows of its source
pub mod Moved
