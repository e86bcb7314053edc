-- The table of chapters and readings of a higher chapter; and, cited by no public contract, rulings picked by a test and climbs from the empty ruling.
pub mod Table
pub mod Fitting
pub mod Climbing
pub mod Picking
