-- colours by their bytes
pub mod Colours
-- a part of a buffer
pub mod Parts
-- pixels stored one after the other
pub mod Stored
