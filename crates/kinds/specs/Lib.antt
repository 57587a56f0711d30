-- What kind the rows of a task are.
pub mod Kinds
-- What is asked of a task's parts.
pub mod Predicates
