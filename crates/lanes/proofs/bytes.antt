-- bytes copied inside one slice
pub mod Moved
