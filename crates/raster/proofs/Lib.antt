-- Laws of a drawn task.
-- what a task of a kind has
pub mod Parts
-- one row: lent out of a window, and the window out of memory
pub mod Slices
-- a task's pixels go by what it reads
pub mod Pixel
-- a task drawn row by row: no row before it changes what a row reads
pub mod RowByRow
-- a loop over its rows
pub mod Upto
-- a step that draws them
pub mod Steps
-- where a row lies
pub mod Place
-- rows that are blended where they lie
pub mod InPlace
-- each byte after a task, and after a list of them (demand 2)
pub mod Outside
-- a task that breaks no rule may be drawn
pub mod Judged
-- a batch drawn a step of the walk at a time
pub mod Fold
pub mod Composition
