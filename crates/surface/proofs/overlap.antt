-- Laws of surfaces that overlap, and of those that do not.
-- rows that share a byte, and the one row that decides
pub mod Overlap
-- two columns on one page
pub mod Columns
