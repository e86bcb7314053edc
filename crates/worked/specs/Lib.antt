-- Worked books: how a book is written down, what is said of its answers, and what is so of the worked books.
pub mod Books
pub mod Answers
pub mod Worked
