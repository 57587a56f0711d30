-- the pixel at an address is the word there
pub mod Moved
-- pixels of a buffer
pub mod Words
-- pixels stored one by one
pub mod RowPrefix
