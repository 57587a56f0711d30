-- Blending of rows of ARGB8888 pixels, byte by byte, and how a rule is computed.
pub mod Blend
pub mod Plan
