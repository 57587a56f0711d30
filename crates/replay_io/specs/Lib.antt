-- Words that the programs' arguments may be.
pub mod Arguments
-- a file under way
pub mod Reading
