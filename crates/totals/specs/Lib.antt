-- What adding to totals promises of files one after another.
pub mod Totals
pub mod Files
-- The lines of totals; totals read from them.
pub mod Lines
pub mod Reading
-- Sums of counts.
pub mod Sums
