-- Lemmas on rulings picked by a test, on the table of chapters, on upward readings, on subsets by their numbers, and on climbs from the empty ruling.
pub mod Picked
pub mod Spreading
pub mod Turns
pub mod Pairs
pub mod Numbers
pub mod Upward
