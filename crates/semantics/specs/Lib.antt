-- The meaning of a book, its stable rulings and its well-founded model, whole and by chapters, stated without any code.
pub mod Meaning
pub mod Closure
pub mod Chapters
pub mod WellFounded
pub mod Listing
pub mod Walk
