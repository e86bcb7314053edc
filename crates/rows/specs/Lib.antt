-- The promise of the ordered insertion.
pub mod Rows
