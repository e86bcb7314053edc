-- The names of the sorts of book, and what the lines of an explanation tell.
pub mod Sorts
pub mod Lines
