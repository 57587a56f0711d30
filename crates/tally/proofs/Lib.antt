-- Laws of the counts: what each step adds, and a file whatever its pieces.
pub mod Adding
pub mod Sums
pub mod Files
pub mod Order
