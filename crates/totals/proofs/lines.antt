-- Laws of the lines of totals.
pub mod Lines
pub mod Finding
