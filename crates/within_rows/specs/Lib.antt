-- Rows blended inside one slice.
pub mod Within
