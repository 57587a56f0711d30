-- Laws of the calls on bytes.
pub mod Results
pub mod Reporting
pub mod RefusedNoChange
-- a server's loop
pub mod ServerLoop
