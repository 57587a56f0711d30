-- Laws of counts that are added, and of files.
pub mod Adding
pub mod Files
