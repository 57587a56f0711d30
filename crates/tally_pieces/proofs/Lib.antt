-- Laws of a batch that is walked, and of a record.
pub mod Batch
-- of a piece of a file
pub mod Piece
