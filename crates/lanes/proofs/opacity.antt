-- alphas by their sum, and bytes that are 0
pub mod Sums
