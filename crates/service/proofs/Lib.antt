-- Lemmas on what was read, as far as it is served.
pub mod Reaching
