-- Laws of rows whose factors are the same all along.
pub mod Rows
