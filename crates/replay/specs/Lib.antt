-- What the calls of a replay do, and that the pieces of a file do not matter.
pub mod Calls
pub mod Chunking
-- what the call that serves a record leaves
pub mod SubmitRunContract
