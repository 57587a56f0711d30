-- Laws of drawings, for this crate's proofs and those of the crates above.
-- a list changed element by element
pub mod Mapi
-- a part of memory that is lent and comes back
pub mod Parts
-- rows of bytes, one more at a time
pub mod Rows
-- bytes a pixel, and the bounds that keep sums in 64 bits
pub mod Sizes
-- stored pixels: as they were, in a part, in a row
pub mod Pixels
-- each byte after a drawing, and where the rows lie
pub mod Outside
-- a pixel stored, drawn, and loaded again
pub mod Loaded
