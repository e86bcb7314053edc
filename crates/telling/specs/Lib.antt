-- The example book as it is written, what opening a marker with it does, and what a marker answers where what is lent to it is empty.
pub mod Example
pub mod Asking
