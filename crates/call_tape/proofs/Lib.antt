-- Lemmas on what a field means and what a tape says.
pub mod Decoding
pub mod Runs
pub mod Few
pub mod Written
pub mod Writing
pub mod Sorting
pub mod Cutting
pub mod Leading
pub mod Judging
