-- Laws of two drawings as one.
-- the setting of a task, and of its bits
pub mod Setting
-- two drawings as one
pub mod Twice
-- the same drawing exactly for the same orientation
pub mod Orientation
