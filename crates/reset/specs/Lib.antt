-- The reset rule.
pub mod Reset
