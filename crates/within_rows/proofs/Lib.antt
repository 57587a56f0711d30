-- a task whose rows are blended inside the window
pub mod Within
pub mod Rows
