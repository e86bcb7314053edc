-- Lemmas on shifting rows and on order.
pub mod Pairwise
pub mod Putting
pub mod Same
pub mod Moving
