-- Laws of signed numbers that the proofs cite, and the worked step.
pub mod Magnitude
-- the worked step
pub mod Worked
