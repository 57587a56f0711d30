-- Who drew a byte last, why a batch faulted, and that the reasons are true.
pub mod Drawn
pub mod Touched
pub mod Faulted
pub mod Answers
pub mod Reason
